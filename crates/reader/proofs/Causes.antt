-- The causes of each call here stand in 01's order: a law that is computed from their numbers, whatever else they hang on. Assumes nothing.
use mathlib.Core.Path.{refl}
use Prim.Native.Nat.{ℕ}
use Rattle.models.specs.Causes.{InOrder}
use Rattle.macaque_v.specs.declared.read_run.Cursor.{Cursor}
use Rattle.reader.specs.Calls.{next_causes, end_causes}

pub of-next : (bytes : ℕ) (at : Cursor) → InOrder (next_causes bytes at)
of-next bytes at = refl

pub of_end : (bytes : ℕ) (at : Cursor) → InOrder (end_causes bytes at)
of_end bytes at = refl
