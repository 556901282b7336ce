-- `macaque_v::read_run::Source::go_through` meets its contract: the values are read and taken in part by part. Assumes nothing.
use mathlib.Core.Path.{◌≡◌}
use Prim.Native.Nat.{◌-◌, ◌≤◌}
use lib.ListN.{length}
use Rattle.macaque_v.specs.Inner.ReadRun.{Walked}
use Rattle.macaque_v.proofs.read_run.Source.go_through.Given as goal

abbrev pub invariant-loop-read : goal.invariant-loop-read
invariant-loop-read l = (l.read ≤ l.n) × (length l.values ≡ 1052) × Walked l.self.first l.self.bytes.now l.initial.at l.read l.aim l.at l.tally

abbrev pub decreases-loop-read : goal.decreases-loop-read
decreases-loop-read l = l.n - l.read
