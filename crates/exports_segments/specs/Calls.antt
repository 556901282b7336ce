-- What the calls on parameter bytes and segments answer and leave through the C face: the fault, and the lent memory afterwards, by what the call behind
-- says. Assumes nothing.
use Rattle.std.specs.Prelude.{Bool, List, [], ◌∷◌, ◌++◌, ℕ, ltb, ℤ, length}
use Rattle.models.specs.Answers.{Cause, ◌when◌, judge, judged_memory, itself}
use Rattle.models.specs.declared.Fault.{Fault}
use Rattle.models.specs.declared.ErrorBound.{ErrorBound}
use Rattle.parameters.specs.Forms.{Ends, form_bytes}
use Rattle.parameters.specs.Calls.{length_answer, bytes_after}
use Rattle.parameters.specs.declared.Form.{Form}
use Rattle.segments.specs.Calls.{write_causes, write_answer, values_after, residuals_after}
use Rattle.segments.specs.declared.Segment.{Segment}
use Rattle.segment_grid.specs.Segment.{ends_in}
use Rattle.segment_grid.specs.Calls.{grid_answer, grid_memory, sum_answer}
use Rattle.exports.specs.Face.{fault_said, row_in, row_after, plain_fault, one_word}

-- ---- the words of an answer

-- a line's first and last value
abbrev pub ends_words : Ends → List ℕ
ends_words ends = ends.0 ∷ ends.1 ∷ []

-- a segment's least and greatest value, and how many bytes each of its outputs took
abbrev pub segment_words : Segment → List ℕ
segment_words s = s.min_value ∷ s.max_value ∷ s.values_length ∷ s.residuals_length ∷ []

abbrev pub segment_length : ℕ
segment_length = 4

-- a row of `room` words that is lent for `need` of them beside other outputs is one of the lent outputs: 4 is judged before any of them is touched
abbrev pub row_short : ℕ → ℕ → Cause
row_short need room = 4 when ltb room need

-- ---- encode: the bytes of a form, and the row that takes their number

unfoldable pub encode_fault : Form → List ℕ → List ℕ → Fault
encode_fault form out row = judge itself (row_short 1 (length row) ∷ []) (plain_fault (length_answer (form_bytes form) out))

unfoldable pub encode_out : Form → List ℕ → List ℕ → List ℕ
encode_out form out row = judged_memory out (row_short 1 (length row) ∷ []) (bytes_after (form_bytes form) out)

unfoldable pub encode_row : Form → List ℕ → List ℕ → List ℕ
encode_row form out row = judged_memory row (row_short 1 (length row) ∷ []) (row_in one_word row (length_answer (form_bytes form) out))

-- ---- writing a segment: 1, 3, then 4 for the row, then what the call behind says, which is 4 for the other two outputs

abbrev pub segment_causes : ℕ → ErrorBound → List ℕ → ℕ → List Cause
segment_causes model b xs room = write_causes model b xs ++ (row_short segment_length room ∷ [])

unfoldable pub segment_fault : ℕ → ℕ → ℕ → ErrorBound → List ℕ → List ℕ → List ℕ → List ℕ → Fault
segment_fault model first last b xs values_out residuals_out row =
    judge itself (segment_causes model b xs (length row)) (plain_fault (write_answer model first last b xs values_out residuals_out))

unfoldable pub segment_values_out : ℕ → ℕ → ℕ → ErrorBound → List ℕ → List ℕ → List ℕ → List ℕ → List ℕ
segment_values_out model first last b xs values_out residuals_out row =
    judged_memory values_out (segment_causes model b xs (length row)) (values_after model first last b xs values_out residuals_out)

unfoldable pub segment_residuals_out : ℕ → ℕ → ℕ → ErrorBound → List ℕ → List ℕ → List ℕ → List ℕ → List ℕ
segment_residuals_out model first last b xs values_out residuals_out row =
    judged_memory residuals_out (segment_causes model b xs (length row)) (residuals_after model first last b xs values_out residuals_out)

unfoldable pub segment_row : ℕ → ℕ → ℕ → ErrorBound → List ℕ → List ℕ → List ℕ → List ℕ → List ℕ
segment_row model first last b xs values_out residuals_out row =
    judged_memory row (segment_causes model b xs (length row)) (row_in segment_words row (write_answer model first last b xs values_out residuals_out))

-- ---- a segment's grid and sum, of its parameter bytes as they read against its least and greatest value

unfoldable pub grid_fault : ℕ → List ℤ → ℕ → ℕ → List ℕ → List ℕ → List ℕ → Fault
grid_fault model ts min max values residuals out = plain_fault (grid_answer model ts (ends_in model min max values) residuals (length out))

unfoldable pub grid_out : ℕ → List ℤ → ℕ → ℕ → List ℕ → List ℕ → List ℕ → List ℕ
grid_out model ts min max values residuals out = grid_memory model ts (ends_in model min max values) residuals out

-- the output is judged in its place in 01's order: after 3 and 12, before 10, 9, 11 and the residual stream's own
unfoldable pub sum_fault : Bool → ℕ → List ℤ → ℕ → ℕ → List ℕ → List ℕ → List ℕ → Fault
sum_fault way model ts min max values residuals out = fault_said 1 (length out) (sum_answer way model ts (ends_in model min max values) residuals)

unfoldable pub sum_out : Bool → ℕ → List ℤ → ℕ → ℕ → List ℕ → List ℕ → List ℕ → List ℕ
sum_out way model ts min max values residuals out = row_after 1 one_word out (sum_answer way model ts (ends_in model min max values) residuals)
