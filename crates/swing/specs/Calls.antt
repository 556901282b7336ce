-- What the calls on a state say and answer: for each, its causes of refusal in 01's order, and the answer. For the model also what its
-- result says, and the law that its results are told apart.
use Rattle.std.specs.Prelude.{◌≡◌, refl, not, List, [], ◌∷◌, ℕ, ◌+◌, ℤ, Float, Result, Ok, Err}
use Rattle.models.specs.Answers.{Said, SaidOn, answered_on, refused_on, Cause, ◌when◌, judged, judged_on, Injective, told-apart}
use Rattle.models.specs.declared.Stepped.{Stepped}
use Rattle.models.specs.declared.Refused.{Refused}
use Rattle.models.specs.Refusals.{refusal-told, refusal_of, fault_of}
use Rattle.models.specs.Limits.{cost}
use Rattle.models.specs.Causes as Shared
use Rattle.models.specs.declared.ErrorBound.{ErrorBound}
use Rattle.lines.specs.Line.{point_of}
use Rattle.swing.specs.State.{fresh, usable, time_follows}
use Rattle.swing.specs.Step.{tried}
use Rattle.swing.specs.Model.{ends_of, LineEnds}
use Rattle.swing.specs.declared.Swing.{Swing}

-- ---- Swing::new
unfoldable pub new_answer : ErrorBound → Said Swing
new_answer b = judged (Shared.bound_causes b) (fresh b)

-- ---- Swing::fit_data_point, of a time and a pattern
abbrev pub fit_causes : Swing → ℤ → List Cause
fit_causes s t = Shared.step_causes s.error_bound (usable s) s.length (10 when not (time_follows s t) ∷ [])

unfoldable pub fit_answer : Swing → ℤ → ℕ → SaidOn Swing (Stepped Swing)
fit_answer s t value = judged_on s (fit_causes s t) (tried s (point_of t value))

-- ---- Swing::bytes_per_value: metadata of m bytes, and one more
abbrev pub cost_causes : Swing → ℕ → List Cause
cost_causes s m = Shared.cost_causes s.error_bound (usable s) s.length m

unfoldable pub cost_answer : Swing → ℕ → SaidOn Swing Float
cost_answer s m = judged_on s (cost_causes s m) (cost (m + 1) s.length)

-- ---- Swing::model: the result's pair says the two ends
abbrev pub says_model : Result (ℕ × ℕ) (Refused Swing) → SaidOn Swing LineEnds
says_model (Ok ends) = answered_on (record { first = ends.0; last = ends.1 })
says_model (Err e) = refused_on (fault_of e.cause) e.state

abbrev pub model_causes : Swing → List Cause
model_causes s = Shared.model_causes s.error_bound (usable s) s.length

unfoldable pub model_answer : Swing → SaidOn Swing LineEnds
model_answer s = judged_on s (model_causes s) (ends_of s)

abbrev unsaid_model : SaidOn Swing LineEnds → Result (ℕ × ℕ) (Refused Swing)
unsaid_model (answered_on ends) = Ok (ends.first, ends.last)
unsaid_model (refused_on f s) = Err (record { cause = refusal_of f; state = s })

model-told : (r : Result (ℕ × ℕ) (Refused Swing)) → unsaid_model (says_model r) ≡ r
model-told (Ok ends) = refl
model-told (Err e) = rw (refusal-told e.cause)

pub says_model-injective : Injective says_model
says_model-injective = told-apart says_model unsaid_model model-told
