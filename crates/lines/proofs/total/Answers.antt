use mathlib.Core.Path.{sym, ◌∙◌}
use native.Mathlib.Omega.{arith}
use mir.Syntax.{w64}
use mir.ValLaws.{to_z-of_z}
use lib.IntN.{pos}
use lib.ListN.{get_or}
use Rattle.lines.proofs.Exact.{time-fits}
use Rattle.lines.proofs.Ordered.{in-order-at, sum-here, sum_done}
use Rattle.lines.proofs.total.Goals as goal

pub value_at-sum-requires : goal.value_at-sum-requires
value_at-sum-requires c =
    let ts = c.args.ts.now in
    let l = c.loop-t in
    let ok = in-order-at ts l.t-index c.requires c.loop-t-test.true in
    rw (to_z-of_z w64 (get_or ts l.t-index (pos 0)) (time-fits _ ok)) ok

pub loop-t-preserved : goal.loop-t-preserved
loop-t-preserved c =
    let ts = c.args.ts.now in
    let l = c.loop-t in
    let ok = in-order-at ts l.t-index c.requires c.loop-t-test.true in
    let e = rw (to_z-of_z w64 (get_or ts l.t-index (pos 0)) (time-fits _ ok)) at c.value_at-sum.ensures in
    rw e (sym (sum-here l.sum c.args.line ts l.t-index c.loop-t-test.true) ∙ l.invariant)

pub returns : goal.returns
returns c =
    let l = c.loop-t in
    sym (sum_done l.sum c.args.line c.args.ts.now l.t-index (omega arith)) ∙ l.invariant
