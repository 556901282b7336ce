-- What the writing call answers and leaves. Assumes nothing.
use Rattle.std.specs.Prelude.{not, ◌||◌, List, [], ◌∷◌, ◌++◌, ℕ, ltb, length, drop}
use Rattle.models.specs.Answers.{Said, refused, Cause, ◌when◌, judge, judged, judged_memory}
use Rattle.models.specs.Bound.{bound_allowed}
use Rattle.models.specs.declared.ErrorBound.{ErrorBound}
use Rattle.stream.specs.Format.{State}
use Rattle.macaque_v.specs.State.{Known, ends_in}
use Rattle.parameters.specs.Forms.{form_bytes}
use Rattle.segments.specs.Segment.{most_residuals, last_of, residuals_on, residual_bytes, form_of, segment_of}
use Rattle.segments.specs.declared.Segment.{Segment}

-- ---- the bytes of both outputs, and what there is besides

pub record Stored : Type 0 where
  pub values : List ℕ
  pub residuals : List ℕ
  pub segment : Segment

abbrev pub stored : ℕ → ℕ → ℕ → State Known → List ℕ → Stored
stored model first last s residuals =
    let values = form_bytes (form_of model first last (ends_in s).min (ends_in s).max) in
    record { values = values; residuals = residuals; segment = segment_of model first last s values residuals }

unfoldable pub stored_of : ℕ → ℕ → ℕ → ErrorBound → List ℕ → Stored
stored_of model first last b xs =
    stored model first last (residuals_on b (last_of model first last) xs) (residual_bytes b (last_of model first last) xs)

-- ---- handing them out: "lent output too short" is either one, and then both stay

abbrev pub too_short : Stored → List ℕ → List ℕ → List Cause
too_short w values_out residuals_out =
    4 when (ltb (length values_out) (length w.values) || ltb (length residuals_out) (length w.residuals)) ∷ []

abbrev pub front : List ℕ → List ℕ → List ℕ
front bytes out = bytes ++ drop (length bytes) out

unfoldable pub handed_answer : Stored → List ℕ → List ℕ → Said Segment
handed_answer w values_out residuals_out = judged (too_short w values_out residuals_out) w.segment

unfoldable pub handed_values : Stored → List ℕ → List ℕ → List ℕ
handed_values w values_out residuals_out = judged_memory values_out (too_short w values_out residuals_out) (front w.values values_out)

unfoldable pub handed_residuals : Stored → List ℕ → List ℕ → List ℕ
handed_residuals w values_out residuals_out = judged_memory residuals_out (too_short w values_out residuals_out) (front w.residuals residuals_out)

-- ---- write: the causes in 01's order, 1 and 3, then 4, judged before either output is touched

abbrev pub write_causes : ℕ → ErrorBound → List ℕ → List Cause
write_causes model b xs = 1 when not (bound_allowed b) ∷ 3 when (ltb 1 model || ltb most_residuals (length xs)) ∷ []

unfoldable pub write_answer : ℕ → ℕ → ℕ → ErrorBound → List ℕ → List ℕ → List ℕ → Said Segment
write_answer model first last b xs values_out residuals_out =
    judge refused (write_causes model b xs) (handed_answer (stored_of model first last b xs) values_out residuals_out)

unfoldable pub values_after : ℕ → ℕ → ℕ → ErrorBound → List ℕ → List ℕ → List ℕ → List ℕ
values_after model first last b xs values_out residuals_out =
    judged_memory values_out (write_causes model b xs) (handed_values (stored_of model first last b xs) values_out residuals_out)

unfoldable pub residuals_after : ℕ → ℕ → ℕ → ErrorBound → List ℕ → List ℕ → List ℕ → List ℕ
residuals_after model first last b xs values_out residuals_out =
    judged_memory residuals_out (write_causes model b xs) (handed_residuals (stored_of model first last b xs) values_out residuals_out)
