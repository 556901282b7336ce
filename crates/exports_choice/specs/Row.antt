-- A builder's row is that of PMC-Mean and then that of Swing, and the last word of each says whether the model stands for all values so far, 1, or has
-- failed, 0. The model that is chosen is five words.
use Rattle.std.specs.Prelude.{Bool, true, cond, not, ◌&&◌, ◌||◌, List, [], ◌∷◌, ◌++◌, ℕ, ◌+◌, ◌-◌, eqb, leb, ltb, length, drop, get_or}
use Rattle.std.specs.Float.{binary32}
use Rattle.std.specs.Float.Ieee.{to_bits}
use Rattle.models.specs.declared.Stepped.{Stepped}
use Rattle.models.specs.declared.ErrorBound.{ErrorBound}
use Rattle.pmc_mean.specs.declared.PMCMean.{PMCMean}
use Rattle.swing.specs.Run.{Given}
use Rattle.types.specs.Calls.{update_answer}
use Rattle.types.specs.declared.ModelBuilder.{ModelBuilder}
use Rattle.types.specs.declared.SelectedModel.{SelectedModel}
use Rattle.exports.specs.Face.{step_row}
use Rattle.exports.specs.Words.{no_count, bound_front}
use Rattle.exports_fit.specs.Row.{pmc_length, pmc_row, no_pmc, pmc_in, swing_length, swing_row, no_swing, swing_in}

abbrev pub builder_length : ℕ
builder_length = pmc_length + swing_length

unfoldable pub builder_row : ModelBuilder → List ℕ
builder_row b =
    pmc_row b.pmc_mean b.pmc_mean_could_fit_all
    ++ swing_row b.swing b.swing_could_fit_all

-- ---- the builder that words stand for

-- the state that may not be used
abbrev pub unusable : PMCMean → PMCMean
unusable s =
    record {
      error_bound = s.error_bound;
      min_value = s.min_value;
      max_value = s.max_value;
      sum_of_values = s.sum_of_values;
      length = no_count;
    }

-- the last word of each model's row is its flag
abbrev pub pmc_flag : ℕ
pmc_flag = pmc_length - 1

abbrev pub swing_flag : ℕ
swing_flag = builder_length - 1

-- a flag is 0 or 1; where one is neither, both models are taken as live, and the first may not be used
abbrev pub flags : List ℕ → Bool
flags row = leb (get_or row pmc_flag 0) 1 && leb (get_or row swing_flag 0) 1

abbrev pub live : List ℕ → ℕ → Bool
live row at = not (flags row) || eqb (get_or row at 0) 1

abbrev pub read_builder : List ℕ → ModelBuilder
read_builder row =
    record {
      pmc_mean = cond (flags row) (pmc_in row) (unusable (pmc_in row));
      pmc_mean_could_fit_all = live row pmc_flag;
      swing = swing_in (drop pmc_length row);
      swing_could_fit_all = live row swing_flag;
    }

-- the bound of the second model
abbrev pub later_bound : List ℕ → ErrorBound
later_bound row = bound_front (drop pmc_length row)

-- a row that is too short stands for no builder: no call allows its models, and neither counts as failed, so that both bounds are judged before them
abbrev pub no_builder : List ℕ → ModelBuilder
no_builder row =
    record {
      pmc_mean = no_pmc (bound_front row);
      pmc_mean_could_fit_all = true;
      swing = no_swing (later_bound row);
      swing_could_fit_all = true;
    }

unfoldable pub builder_in : List ℕ → ModelBuilder
builder_in row = cond (ltb (length row) builder_length) (no_builder row) (read_builder row)

-- the row of what a step gives
abbrev pub builder_step : Stepped ModelBuilder → List ℕ
builder_step t = builder_row t.state

-- the row that a step leaves, which the next one is lent
abbrev pub builder_after : List ℕ → Given → List ℕ
builder_after row g = step_row builder_step row (update_answer (builder_in row) g.time g.bits)

-- ---- the chosen model: 0 for PMC-Mean or 1 for Swing; the length; the first and the last value; the f32 pattern of the bytes for each value
abbrev pub model_length : ℕ
model_length = 5

unfoldable pub model_words : SelectedModel → List ℕ
model_words m =
    m.model_type_id
    ∷ m.length
    ∷ m.first_value
    ∷ m.last_value
    ∷ to_bits binary32 m.bytes_per_value
    ∷ []
