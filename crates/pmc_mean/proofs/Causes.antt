-- The causes of each call here stand in 01's order: a law that is computed from their numbers, whatever else they hang on. Assumes nothing.
use mathlib.Core.Path.{refl}
use Prim.Native.Nat.{ℕ}
use Rattle.models.specs.Causes.{InOrder}
use Rattle.pmc_mean.specs.Calls.{fit_causes, cost_causes, model_causes}
use Rattle.pmc_mean.specs.Grid.{grid_causes}
use Rattle.pmc_mean.specs.declared.PMCMean.{PMCMean}

pub of-fit-value : (s : PMCMean) → InOrder (fit_causes s)
of-fit-value s = refl

pub of-bytes-per-value : (s : PMCMean) (m : ℕ) → InOrder (cost_causes s m)
of-bytes-per-value s m = refl

pub of-model : (s : PMCMean) → InOrder (model_causes s)
of-model s = refl

pub of-grid : (count room : ℕ) → InOrder (grid_causes count room)
of-grid count room = refl
