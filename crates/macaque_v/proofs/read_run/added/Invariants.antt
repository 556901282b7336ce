-- `macaque_v::read_run::added` meets its contract: the first values are added. Assumes nothing.
use Rattle.macaque_v.specs.State.{mode_of}
use Rattle.macaque_v.proofs.ReadingTally.{SumHeld}
use Rattle.macaque_v.proofs.read_run.added.Given as goal

abbrev pub invariant-loop-value : goal.invariant-loop-value
invariant-loop-value l = SumHeld (mode_of l.first) l.count l.sum l.values l.value-index l.total
