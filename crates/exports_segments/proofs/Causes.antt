-- The causes of each call here stand in 01's order: a law that is computed from their numbers, whatever else they hang on. Assumes nothing.
use mathlib.Core.Path.{refl}
use mathlib.Core.List.{List, ◌∷◌, ◌++◌}
use Prim.Native.Nat.{ℕ}
use lib.ListN.{length}
use Rattle.models.specs.Causes.{InOrder}
use Rattle.models.specs.declared.ErrorBound.{ErrorBound}
use Rattle.parameters.specs.Calls as parameters
use Rattle.segments.specs.Calls.{Stored, too_short}
use Rattle.exports_segments.specs.Calls.{row_short, segment_causes}

-- a row that is lent for words of the answer is judged with the other outputs
pub of-encode : (bytes out row : List ℕ) → InOrder (row_short 1 (length row) ∷ parameters.too_short bytes out)
of-encode bytes out row = refl

pub of-segment-write : (model : ℕ) (b : ErrorBound) (xs : List ℕ) (room : ℕ) (w : Stored) (values_out residuals_out : List ℕ)
    → InOrder (segment_causes model b xs room ++ too_short w values_out residuals_out)
of-segment-write model b xs room w values_out residuals_out = refl
