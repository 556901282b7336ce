-- `times::in_order` meets its contract: the times that are left are to follow the last one passed. Assumes nothing.
use mathlib.Core.Path.{◌≡◌}
use lib.ListN.{drop}
use Rattle.lines.specs.Times.{in_order, after}
use Rattle.lines.proofs.times.in_order.Given as goal

abbrev pub invariant-loop-t : goal.invariant-loop-t
invariant-loop-t l = in_order l.ts ≡ after l.last (drop l.t-index l.ts)
