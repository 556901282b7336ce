-- The causes of each call here stand in 01's order: a law that is computed from their numbers, whatever else they hang on. Assumes nothing.
use mathlib.Core.Path.{refl}
use mathlib.Core.List.{List}
use Prim.Native.Nat.{ℕ}
use Rattle.models.specs.Causes.{InOrder}
use Rattle.parameters.specs.Calls.{too_short}

pub of-encode : (bytes out : List ℕ) → InOrder (too_short bytes out)
of-encode bytes out = refl
