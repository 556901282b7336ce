use native.Mathlib.Omega.{arith}
use mir.Syntax.{w64}
use mir.ValLaws.{to_z-of_z}
use mir.Val.{to_z}
use borrow.Author.Rules.{rules}
use lib.IntN.{pos}
use lib.ListN.{get_or}
use Rattle.lines.specs.Times.{after}
use Rattle.lines.proofs.Ordered.{after-all, after-here, drop-end}
use Rattle.lines.proofs.times.in_order.Goals as goal

pub loop-t-init : goal.loop-t-init
loop-t-init c = after-all _

pub returns-then-not-allowed-last : goal.returns-then-not-allowed-last
returns-then-not-allowed-last c =
    let ts = c.args.ts.now in
    let l = c.loop-t in
    let zt = to_z-of_z w64 (get_or ts l.t-index (pos 0)) (search rules) in
    let ok = rw zt at c.allowed.ensures in
    let no = rw (ok, zt) at c.if-not-allowed-last.true in
    rw (l.invariant, after-here (to_z w64 l.last-bits) ts l.t-index c.loop-t-test.true, no)

pub loop-t-preserved : goal.loop-t-preserved
loop-t-preserved c =
    let ts = c.args.ts.now in
    let l = c.loop-t in
    let zt = to_z-of_z w64 (get_or ts l.t-index (pos 0)) (search rules) in
    let ok = rw zt at c.allowed.ensures in
    let yes = rw (ok, zt) at c.if-not-allowed-last.false in
    rw (zt, l.invariant, after-here (to_z w64 l.last-bits) ts l.t-index c.loop-t-test.true, yes)

pub returns : goal.returns
unfolding after
returns c =
    let ts = c.args.ts.now in
    let l = c.loop-t in
    rw (l.invariant, drop-end ts l.t-index (omega arith))
