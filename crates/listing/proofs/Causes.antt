-- The causes of each call here stand in 01's order: a law that is computed from their numbers, whatever else they hang on. Assumes nothing.
use mathlib.Core.Path.{refl}
use Prim.Native.Nat.{ℕ}
use Rattle.models.specs.Causes.{InOrder}
use Rattle.macaque_v.specs.declared.read_run.Cursor.{Cursor}
use Rattle.listing.specs.Calls.{row_causes}

pub of_row : (room : ℕ) (at : Cursor) → InOrder (row_causes room at)
of_row room at = refl
