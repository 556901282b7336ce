use mathlib.Core.Path.{◌≡◌, refl, subst}
use Prim.Native.Nat.{ℕ}
use native.Mathlib.Omega.{arith}
use lib.ListN.{take}
use lib.Seq.{length-take-le}
use lib.Ieee.{of_bits}
use Rattle.macaque_v.specs.Inner.ReadRun.{FillSays, Walked}
use Rattle.std.specs.Prelude.{Result}
use Rattle.models.specs.declared.Refusal.{Refusal}
use Rattle.macaque_v.specs.declared.read_run.Cursor.{Cursor}
use Rattle.macaque_v.proofs.Passing.{passed-on}
use Rattle.macaque_v.proofs.ReadingRun.{then-stops}
use Rattle.macaque_v.proofs.ReadingTally.{walked_none, walked_more}
use Rattle.macaque_v.proofs.read_run.Source.go_through.Goals as goal
use Rattle.macaque_v.proofs.read_run.Source.go_through.Goals.{After-fill}

pub loop-read-init : goal.loop-read-init
unfolding of_bits
loop-read-init c =
    let a = c.args in
    (omega arith, refl, walked_none a.self.first a.self.bytes.now a.self.at a.aim c.args.self.readable)

pub behind-requires : goal.behind-requires
behind-requires c = c.loop-read.invariant.2.reads.readable

pub fill-requires : goal.fill-requires
fill-requires c =
    let W = c.loop-read.invariant.2 in
    rw c.behind.ensures.2 (omega (arith, W.reads.counted), omega arith)

-- what the next values say
said : (c : After-fill)
    → FillSays c.args.self.first c.args.self.bytes.now c.loop-read.at c.min-k.result c.loop-read.values c.fill.new.out c.fill.result
said c = rw (c.behind.ensures.0, c.behind.ensures.1, c.behind.ensures.2) at c.fill.ensures

pub returns-in_err-to : goal.returns-in_err-to
returns-in_err-to c =
    let a = c.args in
    let l = c.loop-read in
    let f = c.fill in
    let k = c.min-k.result in
    rw (passed-on c.from_residual.result c.from_residual.ensures.1)
    (then-stops a.self.first a.self.bytes.now l.invariant.2.reads k
    (subst (FillSays a.self.first a.self.bytes.now l.at k l.values f.new.out) c.in_err-to.was (said (goal.at.returns-in_err-to c).After-fill)) a.n (omega arith))

pub taken_in-tally-requires : goal.taken_in-tally-requires
taken_in-tally-requires c =
    omega (arith, length-take-le c.min-k.result c.fill.new.out (omega (arith, c.fill.auto.out)), c.loop-read.invariant.2.reads.counted)

pub loop-read-preserved : goal.loop-read-preserved
loop-read-preserved c =
    let a = c.args in
    let l = c.loop-read in
    let f = c.fill in
    let k = c.min-k.result in
    let new = f.new.out in
    let says = subst (FillSays a.self.first a.self.bytes.now l.at k l.values new) c.in_ok-to.was (said (goal.at.loop-read-preserved c).After-fill) in (
      omega arith,
      omega (arith, f.auto.out),
      walked_more a.self.first a.self.bytes.now a.self.at a.aim l.read k l.at c.in_ok-to.to l.tally c.taken_in-tally.result (take k new) l.invariant.2 says.0 c.taken_in-tally.ensures,
    )

pub returns : goal.returns
returns c =
    let a = c.args in
    let l = c.loop-read in
    let e : l.read ≡ a.n = omega arith in
    subst (λ (n : ℕ). Walked a.self.first a.self.bytes.now a.self.at n a.aim l.at l.tally) e l.invariant.2
