-- The causes of each call here stand in 01's order: a law that is computed from their numbers, whatever else they hang on. Assumes nothing.
use mathlib.Core.Path.{refl}
use mathlib.Core.List.{List}
use Prim.Native.Nat.{ℕ}
use lib.IntN.{ℤ}
use Rattle.models.specs.Causes.{InOrder}
use Rattle.models.specs.declared.ErrorBound.{ErrorBound}
use Rattle.types.specs.Calls.{update_causes, finish_causes}
use Rattle.types.specs.Run.{choice_causes}
use Rattle.types.specs.declared.ModelBuilder.{ModelBuilder}

pub of-try-to-update-models : (b : ModelBuilder) (t : ℤ) → InOrder (update_causes b t)
of-try-to-update-models b t = refl

pub of-finish : (b : ModelBuilder) (m : ℕ) → InOrder (finish_causes b m)
of-finish b m = refl

pub of-choose-model : (ts : List ℤ) (values : List ℕ) (b : ErrorBound) (m : ℕ) → InOrder (choice_causes ts values b m)
of-choose-model ts values b m = refl
