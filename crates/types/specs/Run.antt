-- A list of points tried one after the other, and choose_model: the steps over all of them, then the choice.
use Rattle.std.specs.Prelude.{not, ◌||◌, ℕ, eqb, ltb, ℤ, length}
use mathlib.Core.List.{List, [], ◌∷◌, foldl}
use Rattle.models.specs.Answers.{Said, state_after, Cause, ◌when◌, judged}
use Rattle.models.specs.Bound.{bound_allowed}
use Rattle.models.specs.Limits.{most_values, metadata_allowed}
use Rattle.models.specs.declared.ErrorBound.{ErrorBound}
use Rattle.lines.specs.Times.{in_order}
use Rattle.lines.specs.Line.{point_of}
use Rattle.swing.specs.Run.{Given}
use Rattle.types.specs.Builder.{fresh, updated}
use Rattle.types.specs.Choice.{choice_of}
use Rattle.types.specs.Calls.{update_answer}
use Rattle.types.specs.declared.ModelBuilder.{ModelBuilder}
use Rattle.types.specs.declared.SelectedModel.{SelectedModel}

-- ---- the builder that try_to_update_models hands back
abbrev pub next : ModelBuilder → Given → ModelBuilder
next b g = state_after (update_answer b g.time g.bits)

abbrev pub run : ModelBuilder → List Given → ModelBuilder
run b given = foldl next b given

-- the builder after a point, where nothing refuses its step
abbrev pub with_point : ModelBuilder → Given → ModelBuilder
with_point b g = updated b (point_of g.time g.bits)

-- timestamps and values side by side
unfoldable pub points : List ℤ → List ℕ → List Given
points [] values = []
points (t ∷ ts) [] = []
points (t ∷ ts) (v ∷ values) = record { time = t; bits = v } ∷ points ts values

-- ---- choose_model
abbrev pub choice_causes : List ℤ → List ℕ → ErrorBound → ℕ → List Cause
choice_causes ts values b m =
    1 when not (bound_allowed b)
    ∷ 3 when (ltb most_values (length values) || not (metadata_allowed m))
    ∷ 12 when not (eqb (length ts) (length values))
    ∷ 10 when not (in_order ts)
    ∷ 11 when eqb (length values) 0
    ∷ []

-- refused by these causes only, else the choice after the steps over all points
unfoldable pub choice_answer : List ℤ → List ℕ → ErrorBound → ℕ → Said SelectedModel
choice_answer ts values b m = judged (choice_causes ts values b m) (choice_of (run (fresh b) (points ts values)) m)
