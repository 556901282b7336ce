-- The causes of each call here stand in 01's order: a law that is computed from their numbers, whatever else they hang on. Assumes nothing.
use mathlib.Core.Path.{refl}
use mathlib.Core.List.{List}
use Prim.Native.Nat.{ℕ}
use lib.IntN.{ℤ}
use Rattle.models.specs.Answers.{Said}
use Rattle.models.specs.Causes.{InOrder}
use Rattle.parameters.specs.Forms.{Ends}
use Rattle.segment_grid.specs.Calls.{grid_causes, sum_causes}

pub of-grid : (model : ℕ) (ts : List ℤ) (ends : Said Ends) (residuals : List ℕ) (room : ℕ) → InOrder (grid_causes model ts ends residuals room)
of-grid model ts ends residuals room = refl

pub of-sum : (model : ℕ) (ts : List ℤ) (ends : Said Ends) (residuals : List ℕ) → InOrder (sum_causes model ts ends residuals)
of-sum model ts ends residuals = refl
