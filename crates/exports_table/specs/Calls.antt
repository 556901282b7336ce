-- What the calls of the place table's C face, but for the write, answer and leave: the fault, and the lent memory and number afterwards, by what the call
-- behind says; and what is promised of rows. Assumes nothing.
use Rattle.std.specs.Prelude.{◌≡◌, List, [], ◌∷◌, ◌++◌, ℕ, ltb, length, take}
use Rattle.models.specs.Answers.{Said, Cause, ◌when◌, judge, judged_memory, keeping, itself, no_fault}
use Rattle.models.specs.declared.Fault.{Fault}
use Rattle.models.specs.declared.ErrorBound.{ErrorBound}
use Rattle.places.specs.Calls.{Beside}
use Rattle.places.specs.Table.{entries_for}
use Rattle.macaque_v.specs.declared.MacaqueV.{MacaqueV}
use Rattle.macaque_v.specs.declared.Opening.{Opening}
use Rattle.place_table.specs.Calls as table
use Rattle.place_table.specs.Made.{MadeBeside}
use Rattle.exports.specs.Face.{bound_of, plain_fault, row_in}
use Rattle.exports_stream.specs.Row.{writer_length, writer_row, writer_in}
use Rattle.exports_stream.specs.Calls.{opening_of, count_in, RowMade}
use Rattle.exports_stream.specs.Tabled.{entries_after, table_write_fault, table_write_row, table_write_buffer, table_write_words, table_write_entries}

-- the words of a state as it is handed out
abbrev pub beside_row : Beside MacaqueV → List ℕ
beside_row a = writer_row a.writer

-- ---- reopen: 1, 3, 12, 13, then 4 for the row, and only then what the stream gives. Till then the buffer is untouched.

abbrev pub table_reopen_causes_with : ErrorBound → ℕ → ℕ → ℕ → ℕ → ℕ → ℕ → ℕ → List Cause
table_reopen_causes_with b room used count k words entries row_words = table.table_reopen_causes b room used count k words entries ++ (4 when ltb row_words writer_length ∷ [])

abbrev pub table_reopen_face_causes : List ℕ → ℕ → ℕ → ℕ → ℕ → ℕ → ℕ → List ℕ → List ℕ → ℕ → List Cause
table_reopen_face_causes buf used count k mode kind bound row words entries =
    table_reopen_causes_with (bound_of kind bound) (length buf) used (count_in mode count) k (length words) entries (length row)

abbrev pub table_reopen_said : List ℕ → ℕ → ℕ → ℕ → ℕ → ℕ → ℕ → ℕ → List ℕ → ℕ → Said (Beside MacaqueV)
table_reopen_said buf used count k mode opening kind bound words entries =
    table.table_reopen_answer buf used (count_in mode count) k (opening_of mode opening) (bound_of kind bound) (length words) entries

abbrev pub table_reopen_left : List ℕ → ℕ → ℕ → ℕ → ℕ → ℕ → ℕ → ℕ → List ℕ → ℕ → List ℕ
table_reopen_left buf used count k mode opening kind bound words entries =
    table.table_reopen_memory buf used (count_in mode count) k (opening_of mode opening) (bound_of kind bound) (length words) entries

unfoldable pub table_reopen_fault : List ℕ → ℕ → ℕ → ℕ → ℕ → ℕ → ℕ → ℕ → List ℕ → List ℕ → ℕ → Fault
table_reopen_fault buf used count k mode opening kind bound row words entries =
    judge itself (table_reopen_face_causes buf used count k mode kind bound row words entries) (plain_fault (table_reopen_said buf used count k mode opening kind bound words entries))

unfoldable pub table_reopen_row : List ℕ → ℕ → ℕ → ℕ → ℕ → ℕ → ℕ → ℕ → List ℕ → List ℕ → ℕ → List ℕ
table_reopen_row buf used count k mode opening kind bound row words entries =
    judged_memory row (table_reopen_face_causes buf used count k mode kind bound row words entries)
    (row_in beside_row row (table_reopen_said buf used count k mode opening kind bound words entries))

unfoldable pub table_reopen_buffer : List ℕ → ℕ → ℕ → ℕ → ℕ → ℕ → ℕ → ℕ → List ℕ → List ℕ → ℕ → List ℕ
table_reopen_buffer buf used count k mode opening kind bound row words entries =
    judged_memory buf (table_reopen_face_causes buf used count k mode kind bound row words entries) (table_reopen_left buf used count k mode opening kind bound words entries)

unfoldable pub table_reopen_entries : List ℕ → ℕ → ℕ → ℕ → ℕ → ℕ → ℕ → ℕ → List ℕ → List ℕ → ℕ → ℕ
table_reopen_entries buf used count k mode opening kind bound row words entries =
    judge (keeping entries) (table_reopen_face_causes buf used count k mode kind bound row words entries)
    (entries_after entries (table_reopen_said buf used count k mode opening kind bound words entries))

-- ---- check: the fault

unfoldable pub table_check_fault : List ℕ → ℕ → ℕ → ℕ → List ℕ → ℕ → Fault
table_check_fault bytes count mode opening words entries = plain_fault (table.check_answer bytes (count_in mode count) (opening_of mode opening) words entries)

-- ---- range: the fault and the output

unfoldable pub table_range_fault : List ℕ → ℕ → ℕ → ℕ → List ℕ → ℕ → ℕ → ℕ → List ℕ → Fault
table_range_fault bytes count mode opening words entries p q out =
    plain_fault (table.range_answer bytes (count_in mode count) (opening_of mode opening) words entries p q (length out))

unfoldable pub table_range_out : List ℕ → ℕ → ℕ → ℕ → List ℕ → ℕ → ℕ → ℕ → List ℕ → List ℕ
table_range_out bytes count mode opening words entries p q out = table.range_memory bytes (count_in mode count) (opening_of mode opening) words entries p q out

-- ---- the spine of the promises, of rows

-- row, buffer, words and number are what one fresh run over xs leaves: the row and the buffer are, and the entries in use are the table beside them
pub record RowMadeBeside (b : ErrorBound) (o : Opening) (xs buf row words : List ℕ) (entries : ℕ) : Type 0 where
  pub plain : RowMade b o xs buf row
  pub beside : MadeBeside b o xs buf (writer_in row) words entries

-- a buffer whose first `used` bytes hold xs is reopened at k beside its table, into a row, which then is `after`, the buffer `cut` and `kept` entries in
-- use; and ys are written through it
pub record RowTableResumes (xs buf : List ℕ) (used k mode opening kind bound : ℕ) (row words : List ℕ) (entries : ℕ) (ys after cut : List ℕ) (kept : ℕ) : Type 0 where
  pub opens : table_reopen_fault buf used (length xs) k mode opening kind bound row words entries ≡ no_fault
  pub keeps : kept ≡ entries_for k
  pub accepts : table_write_fault after ys cut words kept ≡ no_fault
  pub made : RowMadeBeside (bound_of kind bound) (opening_of mode opening) (take k xs ++ ys) (table_write_buffer after ys cut words kept)
      (table_write_row after ys cut words kept) (table_write_words after ys cut words kept) (table_write_entries after ys cut words kept)

abbrev pub RowTableResumesAsOne : List ℕ → List ℕ → ℕ → ℕ → ℕ → ℕ → ℕ → ℕ → List ℕ → List ℕ → ℕ → List ℕ → Type 0
RowTableResumesAsOne xs buf used k mode opening kind bound row words entries ys =
    RowTableResumes xs buf used k mode opening kind bound row words entries ys (table_reopen_row buf used (length xs) k mode opening kind bound row words entries)
    (table_reopen_buffer buf used (length xs) k mode opening kind bound row words entries) (table_reopen_entries buf used (length xs) k mode opening kind bound row words entries)
