-- `place_table::walk::note` meets its contract: the values before where reading stands were read from the start, and the words have the entries before them. Assumes nothing.
use Prim.Native.Nat.{◌-◌}
use Rattle.macaque_v.specs.State.{is_first}
use Rattle.macaque_v.specs.Read.{start_of}
use Rattle.place_table.proofs.Anew.{Noted}
use Rattle.place_table.proofs.walk.note.Given as goal

abbrev pub invariant-loop-at : goal.invariant-loop-at
invariant-loop-at l = Noted (is_first l.fn.opening) l.bytes (start_of l.fn.opening) l.count l.at.count l.at l.initial.table l.table

abbrev pub decreases-loop-at : goal.decreases-loop-at
decreases-loop-at l = l.count - l.at.count
