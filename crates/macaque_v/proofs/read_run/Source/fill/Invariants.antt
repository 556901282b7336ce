-- `macaque_v::read_run::Source::fill` meets its contract: the first i values are read, and stand in the first i places. Assumes nothing.
use Prim.Native.Nat.{◌-◌}
use Rattle.macaque_v.proofs.ReadingRun.{Filled}
use Rattle.macaque_v.proofs.read_run.Source.fill.Given as goal

abbrev pub invariant-loop-i : goal.invariant-loop-i
invariant-loop-i l = Filled l.self.first l.self.bytes.now l.initial.at l.n l.i l.initial.out l.out l.at

abbrev pub decreases-loop-i : goal.decreases-loop-i
decreases-loop-i l = l.n - l.i
