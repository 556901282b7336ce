-- The causes of each call here stand in 01's order: a law that is computed from their numbers, whatever else they hang on. Assumes nothing.
use mathlib.Core.Path.{refl}
use Prim.Native.Nat.{ℕ}
use Rattle.models.specs.Causes.{InOrder, bound_causes, count_causes}
use Rattle.models.specs.declared.ErrorBound.{ErrorBound}

-- those of `is_value_within_error_bound` and of `maximum_allowed_deviation`, and of every `new`
pub of-a-bound : (b : ErrorBound) → InOrder (bound_causes b)
of-a-bound b = refl

-- those of a sum or of a last value
pub of-a-count : (count : ℕ) → InOrder (count_causes count)
of-a-count count = refl
