-- The states of PMC-Mean and Swing as rows of words. A row ends in a word that a step sets, to 1 where the value fitted and to 0 where it did not; a
-- model's own calls do not look at it, and in a builder's row it says whether the model stands for all values so far.
use Rattle.std.specs.Prelude.{Bool, false, cond, ◌&&◌, List, [], ◌∷◌, ℕ, ◌%◌, ◌^◌, ltb, pos, length, get_or}
use Rattle.std.specs.Float.{binary32, binary64}
use Rattle.std.specs.Float.Ieee.{of_bits, to_bits}
use Rattle.models.specs.declared.Stepped.{Stepped}
use Rattle.models.specs.declared.ErrorBound.{ErrorBound}
use Rattle.pmc_mean.specs.Calls as OfPmc
use Rattle.pmc_mean.specs.declared.PMCMean.{PMCMean}
use Rattle.swing.specs.Model.{LineEnds}
use Rattle.swing.specs.Calls as OfSwing
use Rattle.swing.specs.Run.{Given}
use Rattle.swing.specs.declared.Swing.{Swing}
use Rattle.exports.specs.Face.{word_of, step_row}
use Rattle.exports.specs.Words.{bound_kind, bound_bits, no_count, small, bound_front, time_in, word_of_time}

abbrev pub pmc_length : ℕ
pmc_length = 7

abbrev pub swing_length : ℕ
swing_length = 13

-- ---- PMC-Mean, seven words: the bound's kind and bits; the least and the greatest value; the sum; the length; the last word
unfoldable pub pmc_row : PMCMean → Bool → List ℕ
pmc_row s fits =
    bound_kind s.error_bound
    ∷ bound_bits s.error_bound
    ∷ to_bits binary32 s.min_value
    ∷ to_bits binary32 s.max_value
    ∷ to_bits binary64 s.sum_of_values
    ∷ s.length
    ∷ word_of fits
    ∷ []

-- the state that no call allows: its length is none that a state may have
abbrev pub no_pmc : ErrorBound → PMCMean
no_pmc b =
    record { error_bound = b; min_value = of_bits binary32 0; max_value = of_bits binary32 0; sum_of_values = of_bits binary64 0; length = no_count }

-- a word that is no f32 makes such a length too
abbrev pub read_pmc : List ℕ → PMCMean
read_pmc row =
    record {
      error_bound = bound_front row;
      min_value = of_bits binary32 (get_or row 2 0 % 2 ^ 32);
      max_value = of_bits binary32 (get_or row 3 0 % 2 ^ 32);
      sum_of_values = of_bits binary64 (get_or row 4 0);
      length = cond (small (get_or row 2 0) && small (get_or row 3 0)) (get_or row 5 0) no_count;
    }

-- a row that is too short stands for no state
unfoldable pub pmc_in : List ℕ → PMCMean
pmc_in row = cond (ltb (length row) pmc_length) (no_pmc (bound_front row)) (read_pmc row)

-- ---- Swing, thirteen words: the bound's kind and bits; the first and the last time; the first value; slope and intercept of the upper and of the lower
-- line; the fraction of the slope with the least error; the length; the last word
unfoldable pub swing_row : Swing → Bool → List ℕ
swing_row s fits =
    bound_kind s.error_bound
    ∷ bound_bits s.error_bound
    ∷ word_of_time s.start_time
    ∷ word_of_time s.end_time
    ∷ to_bits binary64 s.first_value
    ∷ to_bits binary64 s.upper_bound_slope
    ∷ to_bits binary64 s.upper_bound_intercept
    ∷ to_bits binary64 s.lower_bound_slope
    ∷ to_bits binary64 s.lower_bound_intercept
    ∷ to_bits binary64 s.slope_with_minimum_mse_numerator
    ∷ to_bits binary64 s.slope_with_minimum_mse_denominator
    ∷ s.length
    ∷ word_of fits
    ∷ []

abbrev pub no_swing : ErrorBound → Swing
no_swing b =
    record {
      error_bound = b;
      start_time = pos 0;
      end_time = pos 0;
      first_value = of_bits binary64 0;
      upper_bound_slope = of_bits binary64 0;
      upper_bound_intercept = of_bits binary64 0;
      lower_bound_slope = of_bits binary64 0;
      lower_bound_intercept = of_bits binary64 0;
      slope_with_minimum_mse_numerator = of_bits binary64 0;
      slope_with_minimum_mse_denominator = of_bits binary64 0;
      length = no_count;
    }

abbrev pub read_swing : List ℕ → Swing
read_swing row =
    record {
      error_bound = bound_front row;
      start_time = time_in (get_or row 2 0);
      end_time = time_in (get_or row 3 0);
      first_value = of_bits binary64 (get_or row 4 0);
      upper_bound_slope = of_bits binary64 (get_or row 5 0);
      upper_bound_intercept = of_bits binary64 (get_or row 6 0);
      lower_bound_slope = of_bits binary64 (get_or row 7 0);
      lower_bound_intercept = of_bits binary64 (get_or row 8 0);
      slope_with_minimum_mse_numerator = of_bits binary64 (get_or row 9 0);
      slope_with_minimum_mse_denominator = of_bits binary64 (get_or row 10 0);
      length = get_or row 11 0;
    }

unfoldable pub swing_in : List ℕ → Swing
swing_in row = cond (ltb (length row) swing_length) (no_swing (bound_front row)) (read_swing row)

-- ---- the row of what a step or a fresh state gives
abbrev pub pmc_fresh : PMCMean → List ℕ
pmc_fresh s = pmc_row s false

abbrev pub swing_fresh : Swing → List ℕ
swing_fresh s = swing_row s false

abbrev pub pmc_step_row : Stepped PMCMean → List ℕ
pmc_step_row t = pmc_row t.state t.fits

abbrev pub swing_step_row : Stepped Swing → List ℕ
swing_step_row t = swing_row t.state t.fits

-- the row that a step leaves, which the next one is lent
abbrev pub pmc_after : List ℕ → ℕ → List ℕ
pmc_after row value = step_row pmc_step_row row (OfPmc.fit_answer (pmc_in row) value)

abbrev pub swing_after : List ℕ → Given → List ℕ
swing_after row g = step_row swing_step_row row (OfSwing.fit_answer (swing_in row) g.time g.bits)

-- the first and the last value of a line
abbrev pub ends_row : LineEnds → List ℕ
ends_row e = e.first ∷ e.last ∷ []
