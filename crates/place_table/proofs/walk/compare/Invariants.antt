-- `place_table::walk::compare` meets its contract: the values before where reading stands were read from the start, and the entries before them were compared. Assumes nothing.
use Prim.Native.Nat.{◌-◌}
use Rattle.macaque_v.specs.State.{is_first}
use Rattle.macaque_v.specs.Read.{start_of}
use Rattle.place_table.proofs.Comparing.{Along}
use Rattle.place_table.proofs.walk.compare.Given as goal

abbrev pub invariant-loop-at : goal.invariant-loop-at
invariant-loop-at l = Along (is_first l.fn.opening) l.bytes (start_of l.fn.opening) l.table l.count l.at.count l.at l.same

abbrev pub decreases-loop-at : goal.decreases-loop-at
decreases-loop-at l = l.count - l.at.count
