-- The state of Swing: what it holds, and when it may be used.
use Rattle.std.specs.Prelude.{Bool, ◌&&◌, ◌||◌, ℕ, ℤ, pos, leb, ltb, eqb}
use Rattle.std.specs.Int.Signed.{lt_z}
use Rattle.std.specs.Float.{nan}
use Rattle.models.specs.Floats.{zero_f}
use Rattle.models.specs.Limits.{most_values}
use Rattle.models.specs.declared.ErrorBound.{ErrorBound}
use Rattle.lines.specs.Times.{same_time, time_allowed}
use Rattle.swing.specs.declared.Swing.{Swing}
use Rattle.lines.specs.declared.Point.{Point}
use Rattle.lines.specs.declared.Line.{Line}
use Rattle.lines.specs.declared.Terms.{Terms}

-- before any point
unfoldable pub fresh : ErrorBound → Swing
fresh b =
    record {
      error_bound = b;
      start_time = pos 0;
      end_time = pos 0;
      first_value = nan;
      upper_bound_slope = nan;
      upper_bound_intercept = nan;
      lower_bound_slope = nan;
      lower_bound_intercept = nan;
      slope_with_minimum_mse_numerator = zero_f;
      slope_with_minimum_mse_denominator = zero_f;
      length = 0;
    }

-- ---- its parts
abbrev pub first_point : Swing → Point
first_point s = record { time = s.start_time; value = s.first_value }

abbrev pub upper_line : Swing → Line
upper_line s = record { slope = s.upper_bound_slope; intercept = s.upper_bound_intercept }

abbrev pub lower_line : Swing → Line
lower_line s = record { slope = s.lower_bound_slope; intercept = s.lower_bound_intercept }

abbrev pub sums_of : Swing → Terms
sums_of s =
    record {
      numerator = s.slope_with_minimum_mse_numerator;
      denominator = s.slope_with_minimum_mse_denominator;
    }

-- ---- may it be used: "of length 1 must have equal times, of length 2 or more a start before its end, both within the time limits; at length 0 any times"
unfoldable pub times_allowed : ℕ → ℤ → ℤ → Bool
times_allowed n a b =
    eqb n 0
    || (eqb n 1 && (same_time a b && time_allowed a) || ltb 1 n && (lt_z a b && (time_allowed a && time_allowed b)))

unfoldable pub usable : Swing → Bool
usable s = leb s.length most_values && times_allowed s.length s.start_time s.end_time

-- a time within the limits, after the state's last one
unfoldable pub time_follows : Swing → ℤ → Bool
time_follows s t = time_allowed t && (eqb s.length 0 || lt_z s.end_time t)
