-- What is stored of a segment: the parameter bytes of its model, its residual bytes, its finished minimum and maximum. Assumes nothing.
use Rattle.std.specs.Prelude.{false, cond, List, [], ◌∷◌, ◌++◌, ℕ, eqb, length}
use Rattle.models.specs.Floats.{min_bits, max_bits, plain_bits}
use Rattle.models.specs.declared.ErrorBound.{ErrorBound}
use Rattle.stream.specs.Format.{State}
use Rattle.stream.specs.Write.{wrote, stream_of}
use Rattle.coding.specs.Keep.{keep_rule}
use Rattle.macaque_v.specs.State.{Known, ends_in, stream_in, opened}
use Rattle.macaque_v.specs.declared.Opening.TheVariants.{On}
use Rattle.parameters.specs.Forms.{pmc_mean_form, swing_form}
use Rattle.parameters.specs.declared.Form.{Form}
use Rattle.segments.specs.declared.Segment.{Segment}

-- ---- "A segment's model is 0 for PMC or 1 for Swing"

-- of a model's two parameters PMC has one: its last value is its first
abbrev pub last_given : ℕ → ℕ → ℕ → ℕ
last_given model first last = cond (eqb model 0) first last

-- the model's last value, a NaN as 7FC00000: the residuals open on it, and so does their reader
unfoldable pub last_of : ℕ → ℕ → ℕ → ℕ
last_of model first last = plain_bits (last_given model first last)

-- the model's own minimum and maximum, first on the left
abbrev pub model_min : ℕ → ℕ → ℕ → ℕ
model_min model first last = cond (eqb model 0) (plain_bits first) (min_bits (plain_bits first) (plain_bits last))

abbrev pub model_max : ℕ → ℕ → ℕ → ℕ
model_max model first last = cond (eqb model 0) (plain_bits first) (max_bits (plain_bits first) (plain_bits last))

-- its parameters, where residuals run from low to high
unfoldable pub form_of : ℕ → ℕ → ℕ → ℕ → ℕ → Form
form_of model first last low high = cond (eqb model 0) (pmc_mean_form first low high) (swing_form first last low high)

-- "1 to 255 residuals"
abbrev pub most_residuals : ℕ
most_residuals = 255

-- ---- "A segment's residuals are a MacaqueV stream without first value, opened on the model's last value, then one count byte. No residuals, no byte."

-- the stream's state after them: what it saw is their minimum and maximum
abbrev pub residuals_on : ErrorBound → ℕ → List ℕ → State Known
residuals_on b last xs = wrote (keep_rule b) (stream_in false) (opened (On last)) xs

unfoldable pub counted_bytes : List ℕ → ℕ → List ℕ
counted_bytes stream count = cond (eqb count 0) [] (stream ++ (count ∷ []))

abbrev pub residual_bytes : ErrorBound → ℕ → List ℕ → List ℕ
residual_bytes b last xs = counted_bytes (stream_of (keep_rule b) (stream_in false) last xs) (length xs)

-- ---- the segment of a model with residuals xs: the model on the left, the residuals on the right

abbrev pub segment_of : ℕ → ℕ → ℕ → State Known → List ℕ → List ℕ → Segment
segment_of model first last s values residuals =
    record {
      min_value = min_bits (model_min model first last) (ends_in s).min;
      max_value = max_bits (model_max model first last) (ends_in s).max;
      values_length = length values;
      residuals_length = length residuals;
    }
