-- The causes of a step stand in 01's order: a law that is computed from their numbers, whatever else they hang on. Behind them come 5 to 7 of the two
-- sides, the left one's first. (A file's list has its order from a sentence of document 02: "a file under 9 bytes 5".) Assumes nothing.
use mathlib.Core.Path.{refl}
use Prim.Native.Nat.{ℕ}
use Rattle.models.specs.Causes.{InOrder}
use Rattle.comparing.specs.Calls.{step_causes}
use Rattle.comparing.specs.declared.Pair.{Pair}

pub of-step : (left right : ℕ) (at : Pair) → InOrder (step_causes left right at)
of-step left right at = refl
