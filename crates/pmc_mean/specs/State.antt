-- The state of PMC-Mean and its step: 01, "PMC-Mean and Swing", and pmc_mean.rs.
use Rattle.std.specs.Prelude.{Bool, cond, ◌&&◌, ◌+◌, leb, pos, Float}
use Rattle.std.specs.Float.Ieee as Ieee
use Rattle.std.specs.Float.{nan, binary64}
use Rattle.numbers.specs.Narrowed.{narrowed}
use Rattle.models.specs.declared.Stepped.{Stepped}
use Rattle.models.specs.Answers.{fitting, failing}
use Rattle.models.specs.Floats.{zero_f, min_f, max_f}
use Rattle.models.specs.Bound.{within}
use Rattle.models.specs.Limits.{most_values}
use Rattle.models.specs.declared.ErrorBound.{ErrorBound}
use Rattle.pmc_mean.specs.declared.PMCMean.{PMCMean}

-- before any value: the minimum and the maximum are NaN, the sum is +0
unfoldable pub fresh : ErrorBound → PMCMean
fresh b = record { error_bound = b; min_value = nan; max_value = nan; sum_of_values = zero_f; length = 0 }

-- "may be used if its length is at most 65,536"; other fields may hold anything
abbrev pub usable : PMCMean → Bool
usable s = leb s.length most_values

-- "adds the widened value to an f64 sum": a value is the same number in both formats
unfoldable pub with_value : PMCMean → Float → PMCMean
with_value s value =
    record {
      error_bound = s.error_bound;
      min_value = min_f s.min_value value;
      max_value = max_f s.max_value value;
      sum_of_values = Ieee.add binary64 s.sum_of_values value;
      length = s.length + 1;
    }

-- "divides by the new length and rounds to f32"
unfoldable pub average : PMCMean → Float
average s = narrowed (Ieee.div binary64 s.sum_of_values (Ieee.of_int binary64 (pos s.length)))

-- "the new minimum and maximum are both within the bound of that average, each as the real value"
unfoldable pub fits : PMCMean → Bool
fits s =
    within s.error_bound s.min_value (average s)
    && within s.error_bound s.max_value (average s)

-- "a failed fit changes nothing"
unfoldable pub tried : PMCMean → Float → Stepped PMCMean
tried s value = cond (fits (with_value s value)) (fitting (with_value s value)) (failing s)
