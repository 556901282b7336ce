use mathlib.Core.Path.{◌≡◌, refl, sym, subst}
use Prim.Native.Nat.{ℕ}
use native.Mathlib.Omega.{arith}
use lib.ListN.{take}
use Rattle.macaque_v.specs.State.{is_first}
use Rattle.macaque_v.specs.Read.{start_of}
use Rattle.macaque_v.specs.Inner.ReadRun.{ReadableAt, FillSays}
use Rattle.macaque_v.specs.declared.read_run.Cursor.{Cursor}
use Rattle.place_table.proofs.Comparing.{opens}
use Rattle.place_table.proofs.Anew.{Noted, noted-start, noted-fits, noted_more, noted-all, not-stopped}
use Rattle.place_table.proofs.walk.note.Goals as goal
use Rattle.place_table.proofs.walk.note.Goals.{After-fill}

pub loop-at-init : goal.loop-at-init
loop-at-init c =
    let a = c.args in
    let o = a.opening in
    let s = c.open-source in
    let is = s.ensures.2 in
    let readable : ReadableAt a.bytes.now (start_of o) = rw (s.ensures.0, is) at s.result.readable in
    subst (λ (at : Cursor). Noted (is_first o) a.bytes.now (start_of o) a.count at.count at a.table.now a.table.now) (sym is)
    (noted-start (is_first o) a.bytes.now (start_of o) refl (opens o) a.count a.table.now c.requires.2 readable)

pub put_entry-requires : goal.put_entry-requires
put_entry-requires c =
    let a = c.args in
    let o = a.opening in
    let l = c.loop-at in
    noted-fits (is_first o) a.bytes.now (start_of o) refl (opens o) a.count a.table.now c.requires.2 l.at.count l.at l.table l.invariant c.loop-at-test.true

pub behind-requires : goal.behind-requires
behind-requires c = rw c.open-source.ensures.0 c.loop-at.invariant.gone.reads.readable

pub fill-requires : goal.fill-requires
fill-requires c = rw c.behind.ensures.2 (omega arith, omega arith)

-- what the next values say
said : (c : After-fill)
    → FillSays (is_first c.args.opening) c.args.bytes.now c.loop-at.at c.min-k.result c.loop-at.values c.fill.new.out c.fill.result
said c =
    let o = c.open-source.ensures in
    let b = c.behind.ensures in
    rw (b.0, b.1, b.2, o.0, o.1) at c.fill.ensures

-- the values are there, so that reading does not stop
pub unwrap-at-requires : goal.unwrap-at-requires
unwrap-at-requires c =
    let a = c.args in
    let l = c.loop-at in
    not-stopped a.bytes.now a.opening a.count c.requires.0 l.at.count c.min-k.result l.at l.invariant.gone (omega arith) _ _ c.fill.result
    (said (goal.at.unwrap-at-requires c).After-fill)

pub loop-at-preserved : goal.loop-at-preserved
loop-at-preserved c =
    let a = c.args in
    let o = a.opening in
    let l = c.loop-at in
    let k = c.min-k.result in
    let to = c.unwrap-at.result in
    let R = (rw c.unwrap-at.ensures at (said (goal.at.loop-at-preserved c).After-fill)).0 in
    subst (λ (n : ℕ). Noted (is_first o) a.bytes.now (start_of o) a.count n to a.table.now c.put_entry.new.table) (sym R.counted)
    (noted_more (is_first o) a.bytes.now (start_of o) refl (opens o) a.count a.table.now c.requires.2 l.at.count l.at l.table l.invariant c.loop-at-test.true k (take k c.fill.new.out) to
    (omega arith) (omega arith) (omega arith) (λ lt. omega arith) R c.put_entry.new.table c.put_entry.ensures)

pub returns : goal.returns
returns c =
    let a = c.args in
    let l = c.loop-at in
    let e : l.at.count ≡ a.count = omega (arith, l.invariant.gone.few) in
    noted-all a.bytes.now a.opening a.count l.at a.table.now l.table
    (subst (λ (n : ℕ). Noted (is_first a.opening) a.bytes.now (start_of a.opening) a.count n l.at a.table.now l.table) e l.invariant)
