-- `macaque_v::read_run::Source::read_on` meets its contract: the places up to j hold what was read. Assumes nothing.
use Prim.Native.Nat.{◌-◌}
use Rattle.macaque_v.specs.Inner.ReadRun.{onward}
use Rattle.macaque_v.proofs.Repeating.{Reached}
use Rattle.macaque_v.proofs.read_run.Source.read_on.Given as goal

abbrev pub invariant-loop-j : goal.invariant-loop-j
invariant-loop-j l = Reached l.self.first l.self.bytes.now l.self.at l.i l.n l.initial.out l.out (onward l.self.at l.last l.place (l.j - l.i)) l.j

abbrev pub decreases-loop-j : goal.decreases-loop-j
decreases-loop-j l = l.n - l.j
