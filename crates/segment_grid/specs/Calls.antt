-- What the calls on a segment answer. Each has its causes of refusal in 01's order, then the residual stream's own ("Refusals 5 to 8 come after
-- those"). A segment is its model, all its timestamps, its parameter bytes as they read (`ends_in`), and its residual bytes. Assumes nothing.
use Rattle.std.specs.Prelude.{Bool, true, false, cond, not, ◌&&◌, ◌||◌, List, [], ◌∷◌, ◌++◌, ℕ, eqb, leb, ltb, ℤ, length}
use Rattle.std.specs.Float.Ieee as Ieee
use Rattle.std.specs.Float.{binary32}
use Rattle.std.specs.Float.Ieee.{of_bits, to_bits}
use Rattle.models.specs.Answers.{Said, answered, refused, Done, Cause, ◌when◌, judge, judged_memory}
use Rattle.models.specs.Limits.{most_values}
use Rattle.lines.specs.Times.{in_order}
use Rattle.lines.specs.Values.{no_line}
use Rattle.parameters.specs.Forms.{Ends}
use Rattle.macaque_v.specs.Read as stream
use Rattle.macaque_v.specs.Read.{drawn, drawn_in}
use Rattle.macaque_v.specs.declared.Opening.TheVariants.{On}
use Rattle.segment_grid.specs.Segment.{count_in, stream_bytes, residuals_in, is_swing, given, owned, owned_times, start_of, end_of, model_values, model_sum}

-- ---- the causes

-- 3: "above 1 is 3", "at most 65,536 values a call"
abbrev pub over_limit : ℕ → List ℤ → Bool
over_limit model ts = ltb 1 model || ltb most_values (length ts)

-- 12: "no model value left"
abbrev pub none_left : List ℤ → List ℕ → Bool
none_left ts residuals = leb (length ts) (count_in residuals)

-- 10: any of the timestamps, and "a Swing grid or sum needs end after start"
abbrev pub times_wrong : ℕ → List ℤ → List ℕ → Bool
times_wrong model ts residuals = not (in_order ts) || (is_swing model && eqb (owned ts residuals) 1)

-- 9: "parameter length or flag, or residual count byte, not allowed"; "1 to 255 residuals"
abbrev pub unread : Said Ends → Bool
unread (answered ends) = false
unread (refused n) = true

abbrev pub count_of0 : List ℕ → Bool
count_of0 residuals = not (eqb (length residuals) 0) && eqb (count_in residuals) 0

abbrev pub form_wrong : Said Ends → List ℕ → Bool
form_wrong ends residuals = unread ends || count_of0 residuals

-- 11: "a Swing grid or sum whose ends are not equal-or-NaN while at least one is not finite"
abbrev pub line_missing : ℕ → List ℤ → Said Ends → List ℕ → Bool
line_missing model ts ends residuals =
    is_swing model && no_line (start_of (owned_times ts residuals) (given ends)) (end_of (owned_times ts residuals) (given ends))

-- in an output that has `room`
abbrev pub grid_causes : ℕ → List ℤ → Said Ends → List ℕ → ℕ → List Cause
grid_causes model ts ends residuals room =
    3 when over_limit model ts
    ∷ 12 when none_left ts residuals
    ∷ 4 when ltb room (length ts)
    ∷ 10 when times_wrong model ts residuals
    ∷ 9 when form_wrong ends residuals
    ∷ 11 when line_missing model ts ends residuals
    ∷ []

abbrev pub sum_causes : ℕ → List ℤ → Said Ends → List ℕ → List Cause
sum_causes model ts ends residuals =
    3 when over_limit model ts
    ∷ 12 when none_left ts residuals
    ∷ 10 when times_wrong model ts residuals
    ∷ 9 when form_wrong ends residuals
    ∷ 11 when line_missing model ts ends residuals
    ∷ []

-- ---- grid: the model's values, and then the residuals, which keep their bits

abbrev pub behind : List ℕ → Said (List ℕ) → Said (List ℕ)
behind model (answered residuals) = answered (model ++ residuals)
behind model (refused n) = refused n

abbrev pub segment_values : ℕ → List ℤ → Ends → List ℕ → Said (List ℕ)
segment_values model ts ends residuals = behind (model_values model (owned_times ts residuals) ends) (residuals_in residuals ends.1)

unfoldable pub grid_answer : ℕ → List ℤ → Said Ends → List ℕ → ℕ → Said Done
grid_answer model ts ends residuals room =
    judge refused (grid_causes model ts ends residuals room) (drawn (segment_values model ts (given ends) residuals))

unfoldable pub grid_memory : ℕ → List ℤ → Said Ends → List ℕ → List ℕ → List ℕ
grid_memory model ts ends residuals out =
    judged_memory out (grid_causes model ts ends residuals (length out)) (drawn_in out (segment_values model ts (given ends) residuals))

-- ---- sum: the model's, by one of its forms, plus the residuals'

abbrev pub plus : ℕ → ℕ → ℕ
plus a b = to_bits binary32 (Ieee.add binary32 (of_bits binary32 a) (of_bits binary32 b))

-- without residuals the model's alone
abbrev pub with_residuals : ℕ → Said ℕ → Said ℕ → Said ℕ
with_residuals count of_model (refused n) = refused n
with_residuals count (refused n) (answered of_residuals) = refused n
with_residuals count (answered of_model) (answered of_residuals) = answered (cond (eqb count 0) of_model (plus of_model of_residuals))

abbrev pub residual_sum : List ℕ → ℕ → Said ℕ
residual_sum residuals last = stream.sum_answer (stream_bytes residuals) (count_in residuals) (On last)

abbrev pub segment_sum : Bool → ℕ → List ℤ → Ends → List ℕ → Said ℕ
segment_sum average model ts ends residuals =
    with_residuals (count_in residuals) (model_sum average model (owned_times ts residuals) ends) (residual_sum residuals ends.1)

unfoldable pub sum_answer : Bool → ℕ → List ℤ → Said Ends → List ℕ → Said ℕ
sum_answer average model ts ends residuals =
    judge refused (sum_causes model ts ends residuals) (segment_sum average model ts (given ends) residuals)
