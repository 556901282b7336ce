-- The model of a state: the line's first and last value.
use Rattle.std.specs.Prelude.{ℕ, Float}
use Rattle.models.specs.Floats.{min_f, max_f}
use Rattle.lines.specs.Line.{◌+f◌, ◌*f◌, ◌/f◌, span_f, answered_as}
use Rattle.swing.specs.State.{sums_of}
use Rattle.swing.specs.declared.Swing.{Swing}

-- the slope with the least mean squared error, between the lower and the upper slope
abbrev pub best_slope : Swing → Float
best_slope s = max_f s.lower_bound_slope (min_f ((sums_of s).numerator /f (sums_of s).denominator) s.upper_bound_slope)

unfoldable pub last_value : Swing → Float
last_value s = best_slope s *f span_f s.start_time s.end_time +f s.first_value

-- two patterns
pub record LineEnds : Type 0 where
  pub first : ℕ
  pub last : ℕ

abbrev pub ends_of : Swing → LineEnds
ends_of s = record { first = answered_as s.first_value; last = answered_as (last_value s) }
