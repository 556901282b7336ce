-- A step of Swing: line by line what swing.rs does. d is the deviation that the bound allows at the point.
use Rattle.std.specs.Prelude.{cond, not, ◌||◌, ◌+◌, eqb, Float}
use Rattle.std.specs.Float.Ieee as Ieee
use Rattle.models.specs.declared.Stepped.{Stepped}
use Rattle.models.specs.Answers.{fitting, failing}
use Rattle.models.specs.Floats.{equal_or_nan}
use Rattle.models.specs.Bound.{deviation}
use Rattle.lines.specs.Line.{◌+f◌, ◌-f◌, both_finite, raised, lowered, line_through, value_at, terms_of, added, level_line}
use Rattle.swing.specs.State.{first_point, upper_line, lower_line, sums_of}
use Rattle.swing.specs.declared.Swing.{Swing}
use Rattle.lines.specs.declared.Point.{Point}
use Rattle.lines.specs.declared.Line.{Line}
use Rattle.lines.specs.declared.Terms.{Terms}

-- ---- the states that a step gives

-- the first point: slopes and sums stay as they were
unfoldable pub opened : Swing → Point → Swing
opened s p =
    record {
      error_bound = s.error_bound;
      start_time = p.time;
      end_time = p.time;
      first_value = p.value;
      upper_bound_slope = s.upper_bound_slope;
      upper_bound_intercept = s.upper_bound_intercept;
      lower_bound_slope = s.lower_bound_slope;
      lower_bound_intercept = s.lower_bound_intercept;
      slope_with_minimum_mse_numerator = s.slope_with_minimum_mse_numerator;
      slope_with_minimum_mse_denominator = s.slope_with_minimum_mse_denominator;
      length = 1;
    }

-- one point more, with these lines and sums
unfoldable pub moved : Swing → Point → Line → Line → Terms → Swing
moved s p upper lower sums =
    record {
      error_bound = s.error_bound;
      start_time = s.start_time;
      end_time = p.time;
      first_value = s.first_value;
      upper_bound_slope = upper.slope;
      upper_bound_intercept = upper.intercept;
      lower_bound_slope = lower.slope;
      lower_bound_intercept = lower.intercept;
      slope_with_minimum_mse_numerator = sums.numerator;
      slope_with_minimum_mse_denominator = sums.denominator;
      length = s.length + 1;
    }

-- ---- the step, by cases

-- the first value or this one is not finite
unfoldable pub flat : Swing → Point → Stepped Swing
flat s p =
    cond (equal_or_nan s.first_value p.value)
    (fitting (moved s p (level_line p.value) (level_line p.value) (sums_of s)))
    (failing s)

-- the second point "is not added to the error sums"
unfoldable pub second : Swing → Point → Float → Swing
second s p d =
    moved s p (line_through (first_point s) (raised p d)) (line_through (first_point s) (lowered p d)) (sums_of s)

-- a later point, where the lines are at `high` and at `low`
unfoldable pub upper_swung : Swing → Point → Float → Float → Line
upper_swung s p d high = cond (Ieee.lt p.value (high -f d)) (line_through (first_point s) (raised p d)) (upper_line s)

unfoldable pub lower_swung : Swing → Point → Float → Float → Line
lower_swung s p d low = cond (Ieee.lt (low +f d) p.value) (line_through (first_point s) (lowered p d)) (lower_line s)

unfoldable pub swung : Swing → Point → Float → Float → Float → Swing
swung s p d high low =
    moved s p (upper_swung s p d high) (lower_swung s p d low) (added (sums_of s) (terms_of (first_point s) p))

unfoldable pub later_at : Swing → Point → Float → Float → Float → Stepped Swing
later_at s p d high low =
    cond (Ieee.lt (high +f d) p.value || Ieee.lt p.value (low -f d))
    (failing s)
    (fitting (swung s p d high low))

unfoldable pub later : Swing → Point → Float → Stepped Swing
later s p d = later_at s p d (value_at (upper_line s) p.time) (value_at (lower_line s) p.time)

unfoldable pub tried : Swing → Point → Stepped Swing
tried s p =
    cond (eqb s.length 0) (fitting (opened s p))
    (cond (not (both_finite s.first_value p.value)) (flat s p)
    (cond (eqb s.length 1) (fitting (second s p (deviation s.error_bound p.value)))
    (later s p (deviation s.error_bound p.value))))
