-- The values of the line from a, its first point, to b, its last: when there is one, their sum in two forms, and their grid in a lent output.
use Rattle.std.specs.Prelude.{Bool, false, not, ◌&&◌, List, [], ◌∷◌, ◌++◌, map, ℕ, length, drop, ℤ, pos, Float}
use Rattle.std.specs.Int.Signed.{lt_z}
use Rattle.std.specs.Float.Ieee as Ieee
use Rattle.std.specs.Float.{fin, binary64}
use Rattle.models.specs.Floats.{equal_or_nan}
use Rattle.lines.specs.Times.{time_allowed}
use Rattle.lines.specs.Line.{◌+f◌, ◌*f◌, ◌/f◌, both_finite, line_through, value_at, answered_as}
use Rattle.lines.specs.declared.Point.{Point}
use Rattle.lines.specs.declared.Line.{Line}

-- "needs end after start", both within the limits
unfoldable pub in_time : Point → Point → Bool
in_time a b = time_allowed a.time && (time_allowed b.time && lt_z a.time b.time)

-- "ends are not equal-or-NaN while at least one is not finite"
unfoldable pub no_line : Point → Point → Bool
no_line a b = not (equal_or_nan a.value b.value) && not (both_finite a.value b.value)

-- ---- the sum of a count of values, by the average of the line's ends
abbrev two : Float
two = fin false 1 (pos 1)

abbrev average_of : Line → Point → Point → Float
average_of line a b = (value_at line a.time +f value_at line b.time) /f two

unfoldable pub average_sum : Point → Point → ℕ → ℕ
average_sum a b count = answered_as (average_of (line_through a b) a b *f Ieee.of_int binary64 (pos count))

-- ---- the sum over listed times, from the left
unfoldable pub sum_from : Float → Line → List ℤ → Float
sum_from sum line [] = sum
sum_from sum line (t ∷ ts) = sum_from (sum +f value_at line t) line ts

-- ---- the grid: the values at the listed times in front, then what the output held
abbrev pub line_drawn_at : Line → ℤ → ℕ
line_drawn_at line t = answered_as (value_at line t)

unfoldable pub line_drawn : Line → List ℤ → List ℕ → List ℕ
line_drawn line ts out = map (line_drawn_at line) ts ++ drop (length ts) out
