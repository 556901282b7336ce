-- The two rules of the choice do part: a builder with 2,947 values of PMC-Mean's and 2,948 of Swing's, and metadata of 2,948 bytes. `finish` answers Swing's model, and by
-- the rule before 02 it was PMC-Mean's. Computed. Assumes nothing.
use mathlib.Core.Path.{◌≡◌, refl}
use mathlib.Core.Bool.{false}
use lib.IntN.{pos}
use lib.Ieee as Ieee
use Rattle.numbers.specs.Narrowed.{narrowed}
use Rattle.models.specs.Answers.{answered_on, judge}
use Rattle.models.specs.Bound.{bound_allowed}
use Rattle.models.specs.Floats.{zero_f, is_finite, min_f, max_f}
use Rattle.models.specs.Limits.{cost}
use Rattle.models.specs.declared.ErrorBound.TheVariants.{Lossless}
use Rattle.lines.specs.Line.{answered_as}
use Rattle.lines.specs.Times.{time_allowed}
use Rattle.pmc_mean.specs.declared.PMCMean.{PMCMean}
use Rattle.swing.specs.Model.{last_value}
use Rattle.swing.specs.State as State
use Rattle.swing.specs.declared.Swing.{Swing}
use Rattle.types.specs.Choice.{pmc_model, swing_model, swing_wins, end_lost, chosen, choice_of}
use Rattle.types.specs.Calls.{finish_answer}
use Rattle.types.specs.Fair.{won_by_costs, choice_by_costs}
use Rattle.types.specs.declared.ModelBuilder.{ModelBuilder}
use Rattle.types.specs.declared.SelectedModel.{SelectedModel}

one-zero : PMCMean
one-zero = record { error_bound = Lossless; min_value = zero_f; max_value = zero_f; sum_of_values = zero_f; length = 2947 }

flat_line : Swing
flat_line =
    record {
      error_bound = Lossless;
      start_time = pos 0;
      end_time = pos 1;
      first_value = zero_f;
      upper_bound_slope = zero_f;
      upper_bound_intercept = zero_f;
      lower_bound_slope = zero_f;
      lower_bound_intercept = zero_f;
      slope_with_minimum_mse_numerator = zero_f;
      slope_with_minimum_mse_denominator = zero_f;
      length = 2948;
    }

at-a-tie : ModelBuilder
at-a-tie = record { pmc_mean = one-zero; pmc_mean_could_fit_all = false; swing = flat_line; swing_could_fit_all = false }

pub they-part : (b : ModelBuilder) × (x : SelectedModel) × (finish_answer b 2948 ≡ answered_on x) × (x.model_type_id ≡ 1) × ((choice_by_costs b 2948).model_type_id ≡ 0)
unfolding at-a-tie one-zero flat_line judge bound_allowed State.usable State.times_allowed time_allowed finish_answer choice_of choice_by_costs chosen swing_wins won_by_costs end_lost pmc_model swing_model last_value answered_as narrowed cost is_finite min_f max_f Ieee.of_int Ieee.of_bits Ieee.to_bits Ieee.add Ieee.mul Ieee.div Ieee.round Ieee.lt Ieee.is_nan
they-part = (at-a-tie, choice_of at-a-tie 2948, refl, refl, refl)
