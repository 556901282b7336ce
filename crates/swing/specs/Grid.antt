-- The calls on a model: the line from a, its first point, to b, its last. For each its causes of refusal in 01's order, and the answer.
use Rattle.std.specs.Prelude.{Bool, not, ◌&&◌, List, [], ◌∷◌, ℕ, length, ℤ, ltb}
use Rattle.models.specs.Answers.{Said, Cause, ◌when◌, judged, judged_memory}
use Rattle.models.specs.Floats.{zero_f}
use Rattle.models.specs.Limits.{most_values}
use Rattle.lines.specs.Times.{in_order}
use Rattle.lines.specs.Line.{line_through, answered_as}
use Rattle.lines.specs.Values.{in_time, no_line, average_sum, sum_from, line_drawn}
use Rattle.lines.specs.declared.Point.{Point}

-- what refuses the line itself, given whether the times are in order
abbrev pub line_causes : Bool → Point → Point → List Cause
line_causes ordered a b = 10 when not ordered ∷ 11 when no_line a b ∷ []

-- ---- sum_by_average, of a count of values
abbrev pub average_causes : Point → Point → ℕ → List Cause
average_causes a b count = 3 when ltb most_values count ∷ line_causes (in_time a b) a b

unfoldable pub average_answer : Point → Point → ℕ → Said ℕ
average_answer a b count = judged (average_causes a b count) (average_sum a b count)

-- ---- sum_over listed times: onto +0
abbrev pub sum_causes : Point → Point → List ℤ → List Cause
sum_causes a b ts = 3 when ltb most_values (length ts) ∷ line_causes (in_time a b && in_order ts) a b

unfoldable pub sum_answer : Point → Point → List ℤ → Said ℕ
sum_answer a b ts = judged (sum_causes a b ts) (answered_as (sum_from zero_f (line_through a b) ts))

-- ---- grid, in an output that has `room`
abbrev pub grid_causes : Point → Point → List ℤ → ℕ → List Cause
grid_causes a b ts room =
    3 when ltb most_values (length ts)
    ∷ 4 when ltb room (length ts)
    ∷ line_causes (in_time a b && in_order ts) a b

unfoldable pub grid_memory : Point → Point → List ℤ → List ℕ → List ℕ
grid_memory a b ts out = judged_memory out (grid_causes a b ts (length out)) (line_drawn (line_through a b) ts out)
