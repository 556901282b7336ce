-- `macaque_v::read_run::all_taken_in` meets its contract: the first values are taken in, the span holds their ends, and the total their sum. Assumes
-- nothing.
use Prim.Native.Nat.{◌-◌}
use lib.ListN.{take, get_or}
use Rattle.stream.specs.Format.{gather_from}
use Rattle.macaque_v.specs.State.{gather_min_max, mode_of}
use Rattle.macaque_v.specs.Inner.ReadRun.{min_max_in}
use Rattle.macaque_v.specs.Inner.Span.{MinMaxHeld}
use Rattle.macaque_v.proofs.ReadingTally.{SumHeld}
use Rattle.macaque_v.proofs.read_run.all_taken_in.Given as goal

abbrev pub invariant-loop-value : goal.invariant-loop-value
invariant-loop-value l = MinMaxHeld (min_max_in l.tally) l.value-index (gather_from gather_min_max (mode_of l.first) l.count (min_max_in l.tally) (take l.value-index l.values)) l.ends (get_or l.values (l.value-index - 1) 0)
    × SumHeld (mode_of l.first) l.count l.tally.sum l.values l.value-index l.total
