-- The parts of a segment as it is read: what its residual bytes hold, what its model is, and which timestamps the model owns. Assumes nothing.
use Rattle.std.specs.Prelude.{◌≡◌, Bool, true, false, cond, List, map, ℕ, ◌-◌, eqb, ℤ, pos, length, take, get_or, replicate}
use Rattle.models.specs.Answers.{Said, answered, refused}
use Rattle.models.specs.declared.ErrorBound.{ErrorBound}
use Rattle.lines.specs.Line.{point_of, line_through}
use Rattle.lines.specs.Values.{line_drawn_at}
use Rattle.lines.specs.declared.Point.{Point}
use Rattle.parameters.specs.Forms.{Ends, swing_from, pmc_mean_from}
use Rattle.stream.specs.Write.{stream_of}
use Rattle.coding.specs.Keep.{keep_rule}
use Rattle.macaque_v.specs.State.{stream_in}
use Rattle.macaque_v.specs.Read.{values_in}
use Rattle.macaque_v.specs.declared.Opening.TheVariants.{On}
use Rattle.pmc_mean.specs.Grid as pmc-mean
use Rattle.swing.specs.Grid as swing

-- ---- residual bytes: "a MacaqueV stream without first value, opened on the model's last value, then one count byte. No residuals, no byte."

-- the count: the last byte, and 0 where there is none
abbrev pub count_in : List ℕ → ℕ
count_in residuals = get_or residuals (length residuals - 1) 0

-- the stream: the bytes before it
abbrev pub stream_bytes : List ℕ → List ℕ
stream_bytes residuals = take (length residuals - 1) residuals

-- "The reader opens on the decoded last value."
abbrev pub residuals_in : List ℕ → ℕ → Said (List ℕ)
residuals_in residuals last = values_in (stream_bytes residuals) (count_in residuals) (On last)

-- the residual bytes hold the stream that one fresh run wrote of xs, opened on the model's last value, and then their count
pub record HoldsResiduals (b : ErrorBound) (last : ℕ) (xs residuals : List ℕ) : Type 0 where
  pub stream : stream_bytes residuals ≡ stream_of (keep_rule b) (stream_in false) last xs
  pub count : count_in residuals ≡ length xs

-- ---- the model: "0 for PMC or 1 for Swing"

abbrev pub is_swing : ℕ → Bool
is_swing model = eqb model 1

-- PMC-Mean's value is its first and its last
abbrev pub both_ends : Said ℕ → Said Ends
both_ends (answered value) = answered (value, value)
both_ends (refused f) = refused f

unfoldable pub ends_in : ℕ → ℕ → ℕ → List ℕ → Said Ends
ends_in model min max bytes = cond (is_swing model) (swing_from min max bytes) (both_ends (pmc_mean_from min max bytes))

-- the ends that were read; where none were, the call is refused
abbrev pub given : Said Ends → Ends
given (answered ends) = ends
given (refused n) = (0, 0)

-- ---- timestamps: "It owns the first timestamps, as many as the total less the residual count"

abbrev pub owned : List ℤ → List ℕ → ℕ
owned ts residuals = length ts - count_in residuals

abbrev pub owned_times : List ℤ → List ℕ → List ℤ
owned_times ts residuals = take (owned ts residuals) ts

-- ---- the model's values, of the times that it owns: "its line runs from the first to the last of these"

abbrev pub start_of : List ℤ → Ends → Point
start_of times ends = point_of (get_or times 0 (pos 0)) ends.0

abbrev pub end_of : List ℤ → Ends → Point
end_of times ends = point_of (get_or times (length times - 1) (pos 0)) ends.1

unfoldable pub model_values : ℕ → List ℤ → Ends → List ℕ
model_values model times ends =
    cond (is_swing model)
    (map (line_drawn_at (line_through (start_of times ends) (end_of times ends))) times)
    (replicate (length times) ends.0)

-- "Its sum has two forms, by average with a count or over a list of timestamps. The caller picks; PMC's sum is length × value in f32."
abbrev pub by_average : Bool
by_average = true

abbrev pub over_times : Bool
over_times = false

-- where a call is not refused, neither is this
unfoldable pub model_sum : Bool → ℕ → List ℤ → Ends → Said ℕ
model_sum average model times ends =
    cond (is_swing model)
    (cond average
    (swing.average_answer (start_of times ends) (end_of times ends) (length times))
    (swing.sum_answer (start_of times ends) (end_of times ends) times))
    (pmc-mean.sum_answer (length times) ends.0)
