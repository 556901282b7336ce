use mathlib.Core.Path.{sym, ◌∙◌}
use native.Mathlib.Omega.{arith}
use mir.Syntax.{w64}
use mir.ValLaws.{to_z-of_z}
use lib.IntN.{pos}
use lib.ListN.{get_or}
use Rattle.lines.specs.Values.{line_drawn_at}
use Rattle.lines.proofs.Exact.{time-fits}
use Rattle.lines.proofs.Ordered.{in-order-at, sets-here, sets-done, sets-drawn}
use Rattle.lines.proofs.draw.Goals as goal

pub value_at-requires : goal.value_at-requires
value_at-requires c =
    let ts = c.args.ts.now in
    let l = c.loop-i in
    let ok = in-order-at ts l.i c.requires.times c.loop-i-test.true in
    rw (to_z-of_z w64 (get_or ts l.i (pos 0)) (time-fits _ ok)) ok

pub loop-i-preserved : goal.loop-i-preserved
loop-i-preserved c =
    let ts = c.args.ts.now in
    let l = c.loop-i in
    let ok = in-order-at ts l.i c.requires.times c.loop-i-test.true in
    let e = rw (to_z-of_z w64 (get_or ts l.i (pos 0)) (time-fits _ ok)) at c.value_at.ensures in
    rw (c.answered.ensures, e) (sym (sets-here (line_drawn_at c.args.line) l.out ts l.i (pos 0) c.loop-i-test.true) ∙ l.invariant)

pub returns : goal.returns
returns c =
    let l = c.loop-i in
    let ts = c.args.ts.now in
    sym (sets-done (line_drawn_at c.args.line) l.out ts l.i (omega arith)) ∙ l.invariant ∙ sets-drawn c.args.line ts c.args.out.now c.requires.room
