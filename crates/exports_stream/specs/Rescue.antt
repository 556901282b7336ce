-- Rescue through a row: what the call answers and leaves, and what is said of it. Assumes nothing.
use Rattle.std.specs.Prelude.{◌≡◌, List, [], ◌∷◌, ◌++◌, ℕ, ◌+◌, ◌*◌, ◌≤◌, ◌<◌, ltb, length, take, drop}
use Rattle.bits.specs.Bits.{Below, whole_bytes}
use Rattle.models.specs.Answers.{Said, Cause, ◌when◌, judge, judged_memory, itself, no_fault}
use Rattle.models.specs.Limits.{most_values}
use Rattle.models.specs.declared.ErrorBound.{ErrorBound}
use Rattle.models.specs.declared.Fault.{Fault}
use Rattle.stream.specs.Made.{Rewritten}
use Rattle.macaque_v.specs.Read.{rescue_causes, rescue_answer, rescue_memory}
use Rattle.macaque_v.specs.Made.{state_over}
use Rattle.macaque_v.specs.Rescued.{Saves, Rescues}
use Rattle.macaque_v.specs.declared.MacaqueV.{MacaqueV}
use Rattle.exports.specs.Face.{bound_of, plain_fault, row_in}
use Rattle.exports_stream.specs.Row.{writer_length, writer_row, place_word, length_word, bytes_in_use}
use Rattle.exports_stream.specs.Calls.{opening_of, count_in, write_fault, write_row, write_buffer, reopen_fault, reopen_row, reopen_buffer, grid_fault, grid_out, RowMade}

-- 1, 3, 12, then 4 for the row, and only then what the bytes give. Till then the buffer is untouched.

abbrev pub rescue_causes_with : ErrorBound → ℕ → ℕ → ℕ → ℕ → List Cause
rescue_causes_with b room used limit words = rescue_causes b room used limit ++ (4 when ltb words writer_length ∷ [])

abbrev pub rescue_face_causes : List ℕ → ℕ → ℕ → ℕ → ℕ → ℕ → List ℕ → List Cause
rescue_face_causes buf used limit mode kind bound row = rescue_causes_with (bound_of kind bound) (length buf) used (count_in mode limit) (length row)

abbrev pub rescue_said : List ℕ → ℕ → ℕ → ℕ → ℕ → ℕ → ℕ → Said MacaqueV
rescue_said buf used limit mode opening kind bound = rescue_answer buf used (count_in mode limit) (opening_of mode opening) (bound_of kind bound)

abbrev pub rescue_left : List ℕ → ℕ → ℕ → ℕ → ℕ → ℕ → ℕ → List ℕ
rescue_left buf used limit mode opening kind bound = rescue_memory buf used (count_in mode limit) (opening_of mode opening) (bound_of kind bound)

unfoldable pub rescue_fault : List ℕ → ℕ → ℕ → ℕ → ℕ → ℕ → ℕ → List ℕ → Fault
rescue_fault buf used limit mode opening kind bound row =
    judge itself (rescue_face_causes buf used limit mode kind bound row) (plain_fault (rescue_said buf used limit mode opening kind bound))

unfoldable pub rescue_row : List ℕ → ℕ → ℕ → ℕ → ℕ → ℕ → ℕ → List ℕ → List ℕ
rescue_row buf used limit mode opening kind bound row =
    judged_memory row (rescue_face_causes buf used limit mode kind bound row) (row_in writer_row row (rescue_said buf used limit mode opening kind bound))

unfoldable pub rescue_buffer : List ℕ → ℕ → ℕ → ℕ → ℕ → ℕ → ℕ → List ℕ → List ℕ
rescue_buffer buf used limit mode opening kind bound row =
    judged_memory buf (rescue_face_causes buf used limit mode kind bound row) (rescue_left buf used limit mode opening kind bound)

-- Of a stream that was made of xs the first j bytes arrived, and stand at the front of buf; it is rescued into a row, with the number of its inputs for a
-- limit, and `after` and `left` are the row and the buffer then. What the call behind keeps (`Saves`) is what they hold, and the row says how many; written
-- on through the row it goes on as one fresh run over the kept inputs; where an input is missing, every limit from the number kept on does the same.
pub record RowSavesAs (mode value kind bound : ℕ) (xs : List ℕ) (j : ℕ) (buf row after left : List ℕ) : Type 0 where
  pub saves : Saves (bound_of kind bound) (opening_of mode value) xs j buf
  pub opens : rescue_fault buf j (length xs) mode value kind bound row ≡ no_fault
  pub counted : length_word after ≡ saves.number
  pub made : RowMade (bound_of kind bound) (opening_of mode value) (take saves.number xs) left after
  pub accepts : (ys : List ℕ) → saves.number + length ys ≤ most_values → (state_over (bound_of kind bound) (opening_of mode value) (take saves.number xs ++ ys)).place ≤ 8 * length buf
      → write_fault after ys left ≡ no_fault
  pub goes_on : (ys : List ℕ) → Below 32 ys → (write_fault after ys left).number ≡ 0
      → RowMade (bound_of kind bound) (opening_of mode value) (take saves.number xs ++ ys) (write_buffer after ys left) (write_row after ys left)
  pub any_limit : saves.number < length xs → (i : ℕ) → saves.number ≤ i → i ≤ most_values
      → (rescue_fault buf j i mode value kind bound row ≡ no_fault) × (rescue_row buf j i mode value kind bound row ≡ after) × (rescue_buffer buf j i mode value kind bound row ≡ left)

abbrev pub RowSaves : ℕ → ℕ → ℕ → ℕ → List ℕ → ℕ → List ℕ → List ℕ → Type 0
RowSaves mode value kind bound xs j buf row =
    RowSavesAs mode value kind bound xs j buf row (rescue_row buf j (length xs) mode value kind bound row) (rescue_buffer buf j (length xs) mode value kind bound row)

-- Of any bytes at all, rescued into a row; `after` and `left` are the row and the buffer then. The grid draws what was kept (`Rescues`) of the bytes in use, with
-- the row's length for a count; and reopened there, into the same row, they give the same row and stay as they are.
pub record RowRescuesAs (mode value kind bound limit used : ℕ) (buf row after left : List ℕ) : Type 0 where
  pub writer : MacaqueV
  pub rescues : Rescues (bound_of kind bound) (opening_of mode value) limit used buf writer
  pub counted : length_word after ≡ writer.length
  pub placed : place_word after ≡ writer.place
  pub draws : (out : List ℕ) → length_word after ≤ length out
      → (grid_fault (bytes_in_use after left) (length_word after) mode value out ≡ no_fault)
      × (grid_out (bytes_in_use after left) (length_word after) mode value out ≡ rescues.values ++ drop (length rescues.values) out)
  pub leaves : Below 8 buf → Rewritten buf left (place_word after) []
  pub reopens : reopen_fault left (whole_bytes (place_word after)) (length_word after) (length_word after) mode value kind bound row ≡ no_fault
  pub same_row : reopen_row left (whole_bytes (place_word after)) (length_word after) (length_word after) mode value kind bound row ≡ after
  pub same_buffer : reopen_buffer left (whole_bytes (place_word after)) (length_word after) (length_word after) mode value kind bound row ≡ left

abbrev pub RowRescues : ℕ → ℕ → ℕ → ℕ → ℕ → ℕ → List ℕ → List ℕ → Type 0
RowRescues mode value kind bound limit used buf row =
    RowRescuesAs mode value kind bound limit used buf row (rescue_row buf used limit mode value kind bound row) (rescue_buffer buf used limit mode value kind bound row)
