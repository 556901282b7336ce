-- The causes of each call here stand in 01's order: a law that is computed from their numbers, whatever else they hang on. Assumes nothing.
use mathlib.Core.Path.{refl}
use Prim.Native.Nat.{ℕ}
use Rattle.models.specs.Causes.{InOrder}
use Rattle.exports_reader.specs.Calls.{open_causes}

pub of-open : (mode words : ℕ) → InOrder (open_causes mode words)
of-open mode words = refl
