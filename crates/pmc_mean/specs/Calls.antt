-- What the calls on a state answer: for each, its causes of refusal in 01's order, and the answer.
use Rattle.std.specs.Prelude.{List, [], ℕ, Float}
use Rattle.std.specs.Float.{binary32}
use Rattle.std.specs.Float.Ieee.{of_bits, to_bits}
use Rattle.models.specs.Answers.{Said, SaidOn, Cause, judged, judged_on}
use Rattle.models.specs.declared.Stepped.{Stepped}
use Rattle.models.specs.Limits.{cost}
use Rattle.models.specs.Causes as Shared
use Rattle.models.specs.declared.ErrorBound.{ErrorBound}
use Rattle.pmc_mean.specs.State.{fresh, usable, average, tried}
use Rattle.pmc_mean.specs.declared.PMCMean.{PMCMean}

-- ---- PMCMean::new

unfoldable pub new_answer : ErrorBound → Said PMCMean
new_answer b = judged (Shared.bound_causes b) (fresh b)

-- ---- PMCMean::fit_value, of a pattern

abbrev pub fit_causes : PMCMean → List Cause
fit_causes s = Shared.step_causes s.error_bound (usable s) s.length []

unfoldable pub fit_answer : PMCMean → ℕ → SaidOn PMCMean (Stepped PMCMean)
fit_answer s value = judged_on s (fit_causes s) (tried s (of_bits binary32 value))

-- ---- PMCMean::bytes_per_value, with metadata of m bytes

abbrev pub cost_causes : PMCMean → ℕ → List Cause
cost_causes s m = Shared.cost_causes s.error_bound (usable s) s.length m

unfoldable pub cost_answer : PMCMean → ℕ → SaidOn PMCMean Float
cost_answer s m = judged_on s (cost_causes s m) (cost m s.length)

-- ---- PMCMean::model: the average's pattern

abbrev pub model_causes : PMCMean → List Cause
model_causes s = Shared.model_causes s.error_bound (usable s) s.length

unfoldable pub model_answer : PMCMean → SaidOn PMCMean ℕ
model_answer s = judged_on s (model_causes s) (to_bits binary32 (average s))
