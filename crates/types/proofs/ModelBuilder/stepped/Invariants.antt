-- `ModelBuilder::stepped` meets its contract. The points behind those taken are left to step over. Assumes nothing.
use mathlib.Core.Path.{◌≡◌}
use lib.ListN.{length, drop}
use Rattle.types.specs.Run.{run, points}
use Rattle.types.proofs.ModelBuilder.stepped.Given as goal

abbrev pub invariant-loop-timestamp : goal.invariant-loop-timestamp
invariant-loop-timestamp l = run l.initial.b (points l.timestamps l.values) ≡ run l.b (points (drop (length l.yielded) l.timestamps) (drop (length l.yielded) l.values))
