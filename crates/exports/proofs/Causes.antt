-- The causes of each call here stand in 01's order: a law that is computed from their numbers, whatever else they hang on. Assumes nothing.
use mathlib.Core.Path.{◌≡◌, refl}
use mathlib.Core.Bool.{true, false}
use mathlib.Core.List.{[], ◌∷◌, map}
use Rattle.models.specs.Causes.{order}
use Rattle.exports.specs.Face.{before_short}

-- of the numbers of the order, a row that is too short for the answer goes before 4 and those behind it, and behind the others
pub of-a-short-row : map before_short order ≡ true ∷ true ∷ true ∷ true ∷ true ∷ false ∷ false ∷ false ∷ false ∷ []
of-a-short-row = refl
