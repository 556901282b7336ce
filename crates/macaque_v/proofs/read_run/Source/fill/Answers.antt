use mathlib.Core.Path.{◌≡◌, refl, ap, ◌∙◌, subst}
use Prim.Native.Nat.{ℕ, ◌+◌, ◌-◌}
use native.Mathlib.Omega.{arith}
use lib.ListN.{take, set}
use Rattle.models.specs.Answers.{refused}
use Rattle.macaque_v.specs.Inner.ReadRun.{Reads, ReadsOn, StrideSays}
use Rattle.std.specs.Prelude.{Result}
use Rattle.coding.specs.declared.decode.Stop.{Stop}
use Rattle.macaque_v.specs.declared.read_run.Cursor.{Cursor}
use Rattle.macaque_v.proofs.ReadingRun.{one-stops, one-read, reads_none, then-stops, Filled, filled_more, filled_on}
use Rattle.macaque_v.proofs.read_run.Source.fill.Goals as goal
use Rattle.macaque_v.proofs.read_run.Source.fill.Goals.{After-go_on-at, In-Ok}

-- a value is read, and stands in its place
stored : (c : In-Ok)
    → Filled c.args.self.first c.args.self.bytes.now c.args.self.at c.args.n (c.loop-i.i + 1) c.args.out.now
    (set c.loop-i.out c.loop-i.i c.in-Ok.to.last) c.in-Ok.to
stored c =
    let a = c.args in
    let l = c.loop-i in
    filled_more a.self.first a.self.bytes.now a.n l.i a.out.now l.out l.invariant (omega arith) (omega arith)
    (let s = subst (StrideSays a.self.first a.self.bytes.now l.at) c.in-Ok.is (rw (c.behind.ensures.0, c.behind.ensures.1, c.behind.ensures.2) at c.one_more.ensures) in
    one-read a.self.first a.self.bytes.now l.at c.in-Ok.to s.0 s.1)

pub loop-i-init : goal.loop-i-init
loop-i-init c =
    let a = c.args in
    record { reads = reads_none a.self.first a.self.bytes.now a.self.at c.args.self.readable; fits = omega arith; long = refl }

pub behind-requires : goal.behind-requires
behind-requires c = c.loop-i.invariant.reads.readable

pub one_more-requires : goal.one_more-requires
one_more-requires c = rw c.behind.ensures.2 (omega (arith, c.loop-i.invariant.reads.counted))

pub returns-in-Err : goal.returns-in-Err
returns-in-Err c =
    let a = c.args in
    let l = c.loop-i in
    let s = subst (StrideSays a.self.first a.self.bytes.now l.at) c.in-Err.is (rw (c.behind.ensures.0, c.behind.ensures.1, c.behind.ensures.2) at c.one_more.ensures) in
    then-stops a.self.first a.self.bytes.now l.invariant.reads 1
    (one-stops a.self.first a.self.bytes.now l.at c.refusal_of.result (ap refused c.refusal_of.ensures ∙ s)) a.n (omega arith)

pub overflow_add-same : goal.overflow_add-same
overflow_add-same c = omega (arith, c.loop-i.invariant.reads.readable.near, c.loop-i.invariant.reads.counted)

pub behind-requires-in-Ok : goal.behind-requires-in-Ok
behind-requires-in-Ok c = (stored (goal.at.behind-requires-in-Ok c).In-Ok).reads.readable

-- and those behind it
on : (c : After-go_on-at)
    → ReadsOn c.args.self.first c.args.self.bytes.now c.in-Ok.to (c.loop-i.i + 1) c.args.n
    (set c.loop-i.out c.loop-i.i c.in-Ok.to.last) c.go_on-at.new.out c.go_on-at.result
on c = rw (c.behind-in-Ok.ensures.0, c.behind-in-Ok.ensures.1, c.behind-in-Ok.ensures.2) at c.go_on-at.ensures

pub go_on-at-requires : goal.go_on-at-requires
go_on-at-requires c =
    let f = stored (goal.at.go_on-at-requires c).In-Ok in
    rw c.behind-in-Ok.ensures.2 (omega (arith, f.reads.counted), omega (arith, f.reads.counted, c.requires.0), f.fits, omega (arith, f.long))

pub overflow_sub-i : goal.overflow_sub-i
overflow_sub-i c = omega (arith, (on (goal.at.overflow_sub-i c).After-go_on-at).reads.counted)

pub overflow_add-i-in-Ok-2 : goal.overflow_add-i-in-Ok-2
overflow_add-i-in-Ok-2 c =
    let r = on (goal.at.overflow_add-i-in-Ok-2 c).After-go_on-at in
    omega (arith, r.reads.counted, r.fits, c.requires.0)

pub loop-i-smaller : goal.loop-i-smaller
loop-i-smaller c =
    let r = on (goal.at.loop-i-smaller c).After-go_on-at in
    omega (arith, r.reads.counted, r.fits)

pub loop-i-preserved : goal.loop-i-preserved
loop-i-preserved c =
    let a = c.args in
    let l = c.loop-i in
    let to = c.in-Ok.to in
    let r = c.go_on-at in
    filled_on a.self.first a.self.bytes.now a.n (l.i + 1) a.out.now (set l.out l.i to.last) (stored (goal.at.loop-i-preserved c).In-Ok) (on (goal.at.loop-i-preserved c).After-go_on-at) (l.i + 1 + (r.result.count - to.count)) refl

pub returns : goal.returns
returns c =
    let a = c.args in
    let l = c.loop-i in
    let e : l.i ≡ a.n = omega arith in
    (subst (λ (k : ℕ). Reads a.self.first a.self.bytes.now a.self.at k (take k l.out) l.at) e l.invariant.reads, l.invariant.long)
