-- `macaque_v::MacaqueV::write_noting` meets its contract. The invariant: the pen stands behind the first i values, where they are laid the buffer, with the
-- bits that wait, is as these values leave it, and where they are noted the table is. Assumes nothing.
use mathlib.Core.Path.{◌≡◌}
use mathlib.Core.Bool.{true}
use mathlib.Core.List.{List}
use Prim.Native.Nat.{ℕ, ◌-◌, ◌*◌, ◌≤◌}
use lib.ListN.{length}
use Rattle.macaque_v.specs.Write.{wrote_by}
use Rattle.macaque_v.proofs.Stepping.{PenAt}
use Rattle.macaque_v.proofs.Entering.{Noting}
use Rattle.macaque_v.proofs.Writing.{Laying, after_first}
use Rattle.macaque_v.proofs.MacaqueV.write_noting.Given as goal

-- the inner loop goes on with the pen and the buffer, up to the value that has the next entry
abbrev pub invariant-loop-i-2 : goal.invariant-loop-i-2
invariant-loop-i-2 l = (l.i ≤ l.to) × PenAt l.self (after_first l.self l.values l.i) l.i l.pen
    × ((old : List ℕ) → (l.lay ≡ true → (wrote_by l.self l.values).place ≤ 8 * length old) → Laying l.lay l.self l.values old l.initial.i l.initial.buffer l.initial.waiting → Laying l.lay l.self l.values old l.i l.buffer l.waiting)

abbrev pub decreases-loop-i-2 : goal.decreases-loop-i-2
decreases-loop-i-2 l = l.to - l.i

abbrev pub invariant-loop-i : goal.invariant-loop-i
invariant-loop-i l = (l.i ≤ l.to) × PenAt l.self (after_first l.self l.values l.i) l.i l.pen × Laying l.lay l.self l.values l.initial.buffer l.i l.buffer l.waiting × Noting l.note l.self l.values l.initial.table l.to l.table

abbrev pub decreases-loop-i : goal.decreases-loop-i
decreases-loop-i l = length l.values - l.i
