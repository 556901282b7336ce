-- `lines::total` meets its contract: the sum so far, and the times that are left. Assumes nothing.
use mathlib.Core.Path.{◌≡◌}
use lib.ListN.{drop}
use Rattle.models.specs.Floats.{zero_f}
use Rattle.lines.specs.Values.{sum_from}
use Rattle.lines.proofs.total.Given as goal

abbrev pub invariant-loop-t : goal.invariant-loop-t
invariant-loop-t l = sum_from l.sum l.line (drop l.t-index l.ts) ≡ sum_from zero_f l.line l.ts
