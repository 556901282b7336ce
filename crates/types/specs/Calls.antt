-- What the calls on a builder answer: for each, its causes of refusal in 01's order, and the answer.
use Rattle.std.specs.Prelude.{not, ◌&&◌, ◌||◌, List, [], ◌∷◌, ℕ, eqb, ℤ}
use Rattle.models.specs.Answers.{Said, SaidOn, Cause, ◌when◌, judged, judged_on}
use Rattle.models.specs.declared.Stepped.{Stepped}
use Rattle.models.specs.Bound.{bound_allowed}
use Rattle.models.specs.Limits.{metadata_allowed}
use Rattle.models.specs.Causes.{bound_causes}
use Rattle.models.specs.declared.ErrorBound.{ErrorBound}
use Rattle.lines.specs.Line.{point_of}
use Rattle.pmc_mean.specs.State as Pmc
use Rattle.swing.specs.State as SwingState
use Rattle.types.specs.Builder.{fresh, bounds_allowed, states_allowed, room_left, time_fits, updated, answered_by}
use Rattle.types.specs.Choice.{choice_of}
use Rattle.types.specs.declared.ModelBuilder.{ModelBuilder}
use Rattle.types.specs.declared.SelectedModel.{SelectedModel}

-- ---- ModelBuilder::new
unfoldable pub new_answer : ErrorBound → Said ModelBuilder
new_answer b = judged (bound_causes b) (fresh b)

-- ---- ModelBuilder::try_to_update_models, of a time and a pattern
abbrev pub update_causes : ModelBuilder → ℤ → List Cause
update_causes b t =
    1 when not (bounds_allowed b)
    ∷ 2 when not (states_allowed b)
    ∷ 3 when not (room_left b)
    ∷ 10 when not (time_fits b t)
    ∷ []

unfoldable pub update_answer : ModelBuilder → ℤ → ℕ → SaidOn ModelBuilder (Stepped ModelBuilder)
update_answer b t value = judged_on b (update_causes b t) (answered_by (updated b (point_of t value)))

-- ---- ModelBuilder::finish, with metadata of m bytes: both models are judged, whatever failed
abbrev pub finish_causes : ModelBuilder → ℕ → List Cause
finish_causes b m =
    1 when not (bound_allowed b.pmc_mean.error_bound && bound_allowed b.swing.error_bound)
    ∷ 2 when not (Pmc.usable b.pmc_mean && SwingState.usable b.swing)
    ∷ 3 when not (metadata_allowed m)
    ∷ 11 when (eqb b.pmc_mean.length 0 || eqb b.swing.length 0)
    ∷ []

unfoldable pub finish_answer : ModelBuilder → ℕ → SaidOn ModelBuilder SelectedModel
finish_answer b m = judged_on b (finish_causes b m) (choice_of b m)
