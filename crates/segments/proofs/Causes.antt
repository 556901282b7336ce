-- The causes of each call here stand in 01's order: a law that is computed from their numbers, whatever else they hang on. Assumes nothing.
use mathlib.Core.Path.{refl}
use mathlib.Core.List.{List, ◌++◌}
use Prim.Native.Nat.{ℕ}
use Rattle.models.specs.Causes.{InOrder}
use Rattle.models.specs.declared.ErrorBound.{ErrorBound}
use Rattle.segments.specs.Calls.{Stored, too_short, write_causes}

-- the outputs are judged last
pub of-write : (model : ℕ) (b : ErrorBound) (xs : List ℕ) (w : Stored) (values_out residuals_out : List ℕ) → InOrder (write_causes model b xs ++ too_short w values_out residuals_out)
of-write model b xs w values_out residuals_out = refl
