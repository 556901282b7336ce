use mathlib.Core.Path.{◌≡◌, refl, sym, subst}
use mathlib.Core.Bool.{Bool, true, ◌&&◌}
use Prim.Native.Nat.{ℕ}
use native.Mathlib.Omega.{arith}
use lib.ListN.{take}
use Rattle.macaque_v.specs.State.{is_first}
use Rattle.macaque_v.specs.Read.{start_of}
use Rattle.macaque_v.specs.Inner.ReadRun.{ReadableAt, FillSays}
use Rattle.macaque_v.specs.declared.read_run.Cursor.{Cursor}
use Rattle.macaque_v.proofs.Passing.{passed-on}
use Rattle.place_table.proofs.Comparing.{opens, Along, along-start, along-more, stops-early, stops-late, decides}
use Rattle.place_table.proofs.walk.compare.Goals as goal
use Rattle.place_table.proofs.walk.compare.Goals.{After-loop-at, After-fill}

-- behind the loop all values were read
all : (c : After-loop-at) → Along (is_first c.args.opening) c.args.bytes.now (start_of c.args.opening) c.args.table.now c.args.count c.args.count c.loop-at.at c.loop-at.same
all c =
    let a = c.args in
    let l = c.loop-at in
    let e : l.at.count ≡ a.count = omega (arith, l.invariant.gone.few) in
    subst (λ (n : ℕ). Along (is_first a.opening) a.bytes.now (start_of a.opening) a.table.now a.count n l.at l.same) e l.invariant

pub loop-at-init : goal.loop-at-init
loop-at-init c =
    let a = c.args in
    let o = a.opening in
    let s = c.open-source in
    let is = s.ensures.2 in
    let readable : ReadableAt a.bytes.now (start_of o) = rw (s.ensures.0, is) at s.result.readable in
    subst (λ (at : Cursor). Along (is_first o) a.bytes.now (start_of o) a.table.now a.count at.count at true) (sym is)
    (along-start (is_first o) a.bytes.now (start_of o) refl (opens o) a.count a.table.now readable)

pub behind-requires : goal.behind-requires
behind-requires c = rw c.open-source.ensures.0 c.loop-at.invariant.gone.reads.readable

pub fill-requires : goal.fill-requires
fill-requires c = rw c.behind.ensures.2 (omega arith, omega arith)

-- what the next values say
said : (c : After-fill)
    → FillSays (is_first c.args.opening) c.args.bytes.now c.loop-at.at c.min-k.result c.loop-at.values c.fill.new.out c.fill.result
said c =
    let o = c.open-source.ensures in
    let b = c.behind.ensures in
    rw (b.0, b.1, b.2, o.0, o.1) at c.fill.ensures

pub returns-in_err-at : goal.returns-in_err-at
returns-in_err-at c =
    let a = c.args in
    let l = c.loop-at in
    let k = c.min-k.result in
    rw (passed-on c.from_residual.result c.from_residual.ensures.1)
    (stops-early a.bytes.now a.opening a.count a.table.now l.at.count k l.at l.same l.invariant (omega arith) c.in_err-at.field-0.0
    (subst (FillSays (is_first a.opening) a.bytes.now l.at k l.values c.fill.new.out) c.in_err-at.was (said (goal.at.returns-in_err-at c).After-fill)))

pub loop-at-preserved : goal.loop-at-preserved
loop-at-preserved c =
    let a = c.args in
    let o = a.opening in
    let l = c.loop-at in
    let k = c.min-k.result in
    let to = c.in_ok-at.at in
    let R = (subst (FillSays (is_first o) a.bytes.now l.at k l.values c.fill.new.out) c.in_ok-at.was (said (goal.at.loop-at-preserved c).After-fill)).0 in
    subst (λ (n : ℕ). Along (is_first o) a.bytes.now (start_of o) a.table.now a.count n to (l.same && c.says-same.result)) (sym R.counted)
    (along-more (is_first o) a.bytes.now (start_of o) refl (opens o) a.count a.table.now l.at.count l.at l.same l.invariant c.loop-at-test.true k (take k c.fill.new.out) to
    (omega arith) (omega arith) (omega arith) (λ lt. omega arith) R c.says-same.result c.says-same.ensures)

pub returns-in_err-judge_end : goal.returns-in_err-judge_end
returns-in_err-judge_end c =
    let a = c.args in
    let l = c.loop-at in
    let b = c.behind-2.ensures in
    rw (passed-on c.from_residual-in_err-judge_end.result c.from_residual-in_err-judge_end.ensures.1)
    (stops-late a.bytes.now a.opening a.count a.table.now l.at l.same (all (goal.at.returns-in_err-judge_end c).After-loop-at) c.in_err-judge_end.field-0.0 (rw (b.0, b.2, c.open-source.ensures.0) at c.in_err-judge_end.ensures))

pub returns-then-not-same : goal.returns-then-not-same
returns-then-not-same c =
    let a = c.args in
    let l = c.loop-at in
    let b = c.behind-2.ensures in
    rw c.if-not-same.true at (decides a.bytes.now a.opening a.count a.table.now l.at l.same (all (goal.at.returns-then-not-same c).After-loop-at) (sym (rw (b.0, b.2, c.open-source.ensures.0) at c.in_ok-judge_end.ensures)))

pub returns : goal.returns
returns c =
    let a = c.args in
    let l = c.loop-at in
    let b = c.behind-2.ensures in
    rw c.if-not-same.false at (decides a.bytes.now a.opening a.count a.table.now l.at l.same (all (goal.at.returns c).After-loop-at) (sym (rw (b.0, b.2, c.open-source.ensures.0) at c.in_ok-judge_end.ensures)))
