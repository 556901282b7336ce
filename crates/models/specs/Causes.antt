-- The causes of refusal that calls share, and 01's order of causes, which the lists of the public calls keep (proofs/Causes of each crate; the
-- listing's own list has its order from a sentence of its own).
use Rattle.std.specs.Prelude.{◌≡◌, Bool, true, cond, not, ◌&&◌, List, [], ◌∷◌, ℕ, eqb, ltb, length}
use Rattle.models.specs.Answers.{Cause, ◌when◌}
use Rattle.models.specs.Bound.{bound_allowed}
use Rattle.models.specs.Limits.{most_values, metadata_allowed}
use Rattle.models.specs.declared.ErrorBound.{ErrorBound}

-- ---- the order: "where several of 1, 2, 3, 12, 4, 10, 9, 11 apply, the first in that order is given"; 02 puts 13 "after 12"
abbrev pub order : List ℕ
order = 1 ∷ 2 ∷ 3 ∷ 12 ∷ 13 ∷ 4 ∷ 10 ∷ 9 ∷ 11 ∷ []

-- what of an order stands from a number on; nothing, where the number is none of its own
abbrev pub from_on : ℕ → List ℕ → List ℕ
from_on n [] = []
from_on n (k ∷ later) = cond (eqb n k) (k ∷ later) (from_on n later)

-- each cause's number stands in the order, and none before that of the cause ahead of it
abbrev pub follow : List ℕ → List Cause → Bool
follow numbers [] = true
follow numbers (n when holds ∷ causes) = not (eqb (length (from_on n numbers)) 0) && follow (from_on n numbers) causes

abbrev pub InOrder : List Cause → Type 0
InOrder causes = follow order causes ≡ true

-- ---- a bound alone; a number of values alone
abbrev pub bound_causes : ErrorBound → List Cause
bound_causes b = 1 when not (bound_allowed b) ∷ []

abbrev pub count_causes : ℕ → List Cause
count_causes count = 3 when ltb most_values count ∷ []

-- ---- the calls on a model's state judge its bound, whether it may be used, and its length

-- the bound, then the state, then the later ones
abbrev pub state_causes : ErrorBound → Bool → List Cause → List Cause
state_causes b usable later = 1 when not (bound_allowed b) ∷ 2 when not usable ∷ later

-- a step: "on a state of length 65,536 is refused with 3"
abbrev pub step_causes : ErrorBound → Bool → ℕ → List Cause → List Cause
step_causes b usable n later = state_causes b usable (3 when eqb n most_values ∷ later)

-- "a state of length 0 asked for its model or cost" is 11; the cost is that with metadata of m bytes
abbrev pub model_causes : ErrorBound → Bool → ℕ → List Cause
model_causes b usable n = state_causes b usable (11 when eqb n 0 ∷ [])

abbrev pub cost_causes : ErrorBound → Bool → ℕ → ℕ → List Cause
cost_causes b usable n m = state_causes b usable (3 when not (metadata_allowed m) ∷ 11 when eqb n 0 ∷ [])
