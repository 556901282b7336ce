-- What the calls of MacaqueV's C face answer and leave: the fault, and the lent memory afterwards, by what the call behind says. Assumes nothing.
use Rattle.std.specs.Prelude.{◌≡◌, true, cond, not, List, [], ◌∷◌, ◌++◌, ℕ, ◌≤◌, ◌<◌, eqb, leb, ltb, length, take, drop, get_or}
use Rattle.std.specs.Float.{binary32}
use Rattle.std.specs.Float.Ieee.{of_bits, to_bits}
use Rattle.bits.specs.Bits.{Below}
use Rattle.models.specs.Answers.{Said, Cause, ◌when◌, judge, judged_memory, itself, no_fault}
use Rattle.models.specs.declared.Fault.{Fault}
use Rattle.models.specs.Bound.{bound_allowed}
use Rattle.models.specs.Calls.{within_answer}
use Rattle.models.specs.declared.ErrorBound.{ErrorBound}
use Rattle.macaque_v.specs.Calls.{new_answer, write_answer, write_memory}
use Rattle.macaque_v.specs.Read.{grid_answer, grid_memory, sum_answer, reopen_causes, reopen_answer, reopen_memory}
use Rattle.macaque_v.specs.Made.{Made}
use Rattle.macaque_v.specs.Sums.{OfItsBytes, carried}
use Rattle.macaque_v.specs.declared.MacaqueV.{MacaqueV}
use Rattle.macaque_v.specs.declared.Opening.{Opening}
use Rattle.macaque_v.specs.declared.Opening.TheVariants.{First, On}
use Rattle.exports.specs.Face.{bound_of, fault_said, row_in, row_after, step_fault, step_row, plain_fault, one_word, word_of_truth}
use Rattle.exports.specs.Words.{no_count}
use Rattle.exports_stream.specs.Row.{writer_length, writer_row, sum_word, written_row, stands_for_state, writer_in, bytes_in_use, length_word}

-- ---- how a stream opens: mode 0 stores the first value in full and looks at no other, mode 1 opens on the value

abbrev pub opening_of : ℕ → ℕ → Opening
opening_of mode opening = cond (eqb mode 0) First (On opening)

-- A mode above 1 is no mode, and is refused with 3 where a count above its limit is: with such a mode every count stands for one.
abbrev pub count_in : ℕ → ℕ → ℕ
count_in mode count = cond (leb mode 1) count no_count

-- ---- new: its causes in 01's order, then what the call behind says

abbrev pub new_causes : ErrorBound → ℕ → ℕ → List Cause
new_causes b mode words = 1 when not (bound_allowed b) ∷ 3 when ltb 1 mode ∷ 4 when ltb words writer_length ∷ []

unfoldable pub new_fault : ℕ → ℕ → ℕ → ℕ → List ℕ → Fault
new_fault kind bound mode opening row =
    judge itself (new_causes (bound_of kind bound) mode (length row)) (plain_fault (new_answer (bound_of kind bound) (opening_of mode opening)))

unfoldable pub new_row : ℕ → ℕ → ℕ → ℕ → List ℕ → List ℕ
new_row kind bound mode opening row =
    judged_memory row (new_causes (bound_of kind bound) mode (length row)) (row_in writer_row row (new_answer (bound_of kind bound) (opening_of mode opening)))

-- ---- compress_values: the fault and the row of a step, and the buffer

abbrev pub write_fault : List ℕ → List ℕ → List ℕ → Fault
write_fault row xs buf = step_fault (write_answer (writer_in row) xs buf)

abbrev pub write_row : List ℕ → List ℕ → List ℕ → List ℕ
write_row row xs buf = step_row (written_row row) row (write_answer (writer_in row) xs buf)

abbrev pub write_buffer : List ℕ → List ℕ → List ℕ → List ℕ
write_buffer row xs buf = write_memory (writer_in row) xs buf

-- ---- reopen: 1, 3, 12, then 4 for the row, and only then what the stream gives. Till then the buffer is untouched.

abbrev pub reopen_causes_with : ErrorBound → ℕ → ℕ → ℕ → ℕ → ℕ → List Cause
reopen_causes_with b room used count k words = reopen_causes b room used count k ++ (4 when ltb words writer_length ∷ [])

abbrev pub reopen_face_causes : List ℕ → ℕ → ℕ → ℕ → ℕ → ℕ → ℕ → List ℕ → List Cause
reopen_face_causes buf used count k mode kind bound row = reopen_causes_with (bound_of kind bound) (length buf) used (count_in mode count) k (length row)

abbrev pub reopen_said : List ℕ → ℕ → ℕ → ℕ → ℕ → ℕ → ℕ → ℕ → Said MacaqueV
reopen_said buf used count k mode opening kind bound = reopen_answer buf used (count_in mode count) k (opening_of mode opening) (bound_of kind bound)

abbrev pub reopen_left : List ℕ → ℕ → ℕ → ℕ → ℕ → ℕ → ℕ → ℕ → List ℕ
reopen_left buf used count k mode opening kind bound = reopen_memory buf used (count_in mode count) k (opening_of mode opening) (bound_of kind bound)

unfoldable pub reopen_fault : List ℕ → ℕ → ℕ → ℕ → ℕ → ℕ → ℕ → ℕ → List ℕ → Fault
reopen_fault buf used count k mode opening kind bound row =
    judge itself (reopen_face_causes buf used count k mode kind bound row) (plain_fault (reopen_said buf used count k mode opening kind bound))

unfoldable pub reopen_row : List ℕ → ℕ → ℕ → ℕ → ℕ → ℕ → ℕ → ℕ → List ℕ → List ℕ
reopen_row buf used count k mode opening kind bound row =
    judged_memory row (reopen_face_causes buf used count k mode kind bound row) (row_in writer_row row (reopen_said buf used count k mode opening kind bound))

unfoldable pub reopen_buffer : List ℕ → ℕ → ℕ → ℕ → ℕ → ℕ → ℕ → ℕ → List ℕ → List ℕ
reopen_buffer buf used count k mode opening kind bound row =
    judged_memory buf (reopen_face_causes buf used count k mode kind bound row) (reopen_left buf used count k mode opening kind bound)

-- ---- grid: the fault and the output

unfoldable pub grid_fault : List ℕ → ℕ → ℕ → ℕ → List ℕ → Fault
grid_fault bytes count mode opening out = plain_fault (grid_answer bytes (count_in mode count) (opening_of mode opening) (length out))

unfoldable pub grid_out : List ℕ → ℕ → ℕ → ℕ → List ℕ → List ℕ
grid_out bytes count mode opening out = grid_memory bytes (count_in mode count) (opening_of mode opening) out

-- ---- sum: its pattern is the output's first place

unfoldable pub sum_fault : List ℕ → ℕ → ℕ → ℕ → List ℕ → Fault
sum_fault bytes count mode opening out = fault_said 1 (length out) (sum_answer bytes (count_in mode count) (opening_of mode opening))

unfoldable pub sum_out : List ℕ → ℕ → ℕ → ℕ → List ℕ → List ℕ
sum_out bytes count mode opening out = row_after 1 one_word out (sum_answer bytes (count_in mode count) (opening_of mode opening))

-- ---- demand 3, of rows

-- row and buffer are what one fresh run over xs leaves: the writer that the row stands for has made the bytes, and its eleven words stand at the row's front
pub record RowMade (b : ErrorBound) (o : Opening) (xs buf row : List ℕ) : Type 0 where
  pub made : Made b o xs buf (writer_in row)
  pub words : row ≡ writer_row (writer_in row) ++ drop writer_length row

-- a buffer whose first `used` bytes hold xs is reopened at k into a row, which then is `after`, and the buffer `cut`; and ys are written through it
pub record RowResumes (xs buf : List ℕ) (used k mode opening kind bound : ℕ) (row ys after cut : List ℕ) : Type 0 where
  pub opens : reopen_fault buf used (length xs) k mode opening kind bound row ≡ no_fault
  pub accepts : write_fault after ys cut ≡ no_fault
  pub made : RowMade (bound_of kind bound) (opening_of mode opening) (take k xs ++ ys) (write_buffer after ys cut) (write_row after ys cut)

abbrev pub RowResumesAsOne : List ℕ → List ℕ → ℕ → ℕ → ℕ → ℕ → ℕ → ℕ → List ℕ → List ℕ → Type 0
RowResumesAsOne xs buf used k mode opening kind bound row ys =
    RowResumes xs buf used k mode opening kind bound row ys (reopen_row buf used (length xs) k mode opening kind bound row) (reopen_buffer buf used (length xs) k mode opening kind bound row)

-- ---- the running sum, of rows

-- the row stands for the writer of its bytes
pub record RowOfItsBytes (mode opening : ℕ) (buf row : List ℕ) : Type 0 where
  pub stands : stands_for_state row ≡ true
  pub writer : OfItsBytes (opening_of mode opening) buf (writer_in row)

-- its word of the sum is as a call leaves it: a NaN is 7FC00000
abbrev pub PlainSum : List ℕ → Type 0
PlainSum row = sum_word row ≡ to_bits binary32 (writer_in row).sum

-- the sum call, on the bytes in use and with the row's length as their count, answers the row's word of the sum
abbrev pub RowSumsAsTheCall : ℕ → ℕ → List ℕ → List ℕ → List ℕ → Type 0
RowSumsAsTheCall mode opening buf row out =
    (sum_fault (bytes_in_use row buf) (length_word row) mode opening out ≡ no_fault) × (sum_out (bytes_in_use row buf) (length_word row) mode opening out ≡ sum_word row ∷ drop 1 out)

-- a row by its words: ten, the sum's, and what stands behind them
pub record TenWords : Type 0 where
  pub kind : ℕ
  pub bound : ℕ
  pub least : ℕ
  pub greatest : ℕ
  pub last : ℕ
  pub leading : ℕ
  pub trailing : ℕ
  pub mode : ℕ
  pub place : ℕ
  pub count : ℕ

abbrev pub row_of : TenWords → ℕ → List ℕ → List ℕ
row_of w sum rest =
    w.kind
    ∷ w.bound
    ∷ w.least
    ∷ w.greatest
    ∷ w.last
    ∷ w.leading
    ∷ w.trailing
    ∷ w.mode
    ∷ w.place
    ∷ w.count
    ∷ sum
    ∷ rest

-- a write through a row that is handed in with the sum t instead of s: the same fault, the same buffer, and the same words but for the sum's, which is carried
-- on by the same additions
pub record RowCarriesTheSum (w : TenWords) (s t : ℕ) (rest xs buf : List ℕ) : Type 0 where
  pub fault : write_fault (row_of w t rest) xs buf ≡ write_fault (row_of w s rest) xs buf
  pub buffer : write_buffer (row_of w t rest) xs buf ≡ write_buffer (row_of w s rest) xs buf
  pub others : take 10 (write_row (row_of w t rest) xs buf) ≡ take 10 (write_row (row_of w s rest) xs buf)
  pub behind : drop 11 (write_row (row_of w t rest) xs buf) ≡ drop 11 (write_row (row_of w s rest) xs buf)
  pub sum : write_fault (row_of w s rest) xs buf ≡ no_fault → 0 < length xs
      → sum_word (write_row (row_of w t rest) xs buf) ≡ to_bits binary32 (carried (writer_in (row_of w s rest)) (of_bits binary32 t) xs)
  pub empty : xs ≡ [] → sum_word (write_row (row_of w t rest) xs buf) ≡ t
  pub refused : (write_fault (row_of w s rest) xs buf ≡ no_fault → ⊥) → sum_word (write_row (row_of w t rest) xs buf) ≡ t

-- ---- what is kept, of rows

-- what the within call of the C face answers, and leaves in `out`, of a bound's two words and two values
abbrev pub within_fault : ℕ → ℕ → ℕ → ℕ → List ℕ → Fault
within_fault kind bound real approximate out = fault_said 1 (length out) (within_answer (bound_of kind bound) real approximate)

abbrev pub within_out : ℕ → ℕ → ℕ → ℕ → List ℕ → List ℕ
within_out kind bound real approximate out = row_after 1 word_of_truth out (within_answer (bound_of kind bound) real approximate)

-- value by value, vs may stand for xs: the within call, with the two words of the bound that stand in the row, answers 1
pub record RowKeptWithin (row xs vs : List ℕ) : Type 0 where
  pub as_many : length vs ≡ length xs
  pub passes : (i : ℕ) → i < length xs → (out : List ℕ) → 1 ≤ length out
      → (within_fault (get_or row 0 0) (get_or row 1 0) (get_or xs i 0) (get_or vs i 0) out ≡ no_fault)
      × (within_out (get_or row 0 0) (get_or row 1 0) (get_or xs i 0) (get_or vs i 0) out ≡ 1 ∷ drop 1 out)

-- the grid of the C face, on the bytes in use of a row and with its length as their count
abbrev pub row_grid_fault : ℕ → ℕ → List ℕ → List ℕ → List ℕ → Fault
row_grid_fault mode opening buf row out = grid_fault (bytes_in_use row buf) (length_word row) mode opening out

abbrev pub row_grid : ℕ → ℕ → List ℕ → List ℕ → List ℕ → List ℕ
row_grid mode opening buf row out = grid_out (bytes_in_use row buf) (length_word row) mode opening out

-- an accepted write of ys through a row, on a buffer: the values that stood there are drawn as us, and behind them one for each of ys, which passes
pub record RowWritesOn (mode opening : ℕ) (buf row us ys out : List ℕ) : Type 0 where
  pub draws : row_grid_fault mode opening (write_buffer row ys buf) (write_row row ys buf) out ≡ no_fault
  pub before : take (length_word row) (row_grid mode opening (write_buffer row ys buf) (write_row row ys buf) out) ≡ us
  pub newly : RowKeptWithin row ys (take (length ys) (drop (length_word row) (row_grid mode opening (write_buffer row ys buf) (write_row row ys buf) out)))

-- "On any accepted stream, even one this writer would not write, reopening at k and writing reads back as the first k values and then the newly kept ones": the first `used` bytes of buf read
-- as vs, and are reopened at k into a row, which then is `after`, and the buffer `cut`
pub record RowResumesAny (mode opening : ℕ) (vs : List ℕ) (k : ℕ) (fault : Fault) (after cut : List ℕ) : Type 0 where
  pub opens : fault ≡ no_fault
  pub counted : length_word after ≡ k
  pub goes_on : (ys : List ℕ) → Below 32 ys → (write_fault after ys cut).number ≡ 0 → (out : List ℕ) → length_word (write_row after ys cut) ≤ length out
      → RowWritesOn mode opening cut after (take k vs) ys out
