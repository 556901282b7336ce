-- Rescue with a place table through a row: what the call answers and leaves, and what is said of it. Assumes nothing.
use Rattle.std.specs.Prelude.{◌≡◌, List, [], ◌∷◌, ◌++◌, ℕ, ◌+◌, ◌*◌, ◌≤◌, ◌<◌, ltb, length, take, drop}
use Rattle.bits.specs.Bits.{Below}
use Rattle.models.specs.Answers.{Said, Cause, ◌when◌, judge, judged_memory, keeping, itself, no_fault}
use Rattle.models.specs.Limits.{most_values}
use Rattle.models.specs.declared.ErrorBound.{ErrorBound}
use Rattle.models.specs.declared.Fault.{Fault}
use Rattle.places.specs.Calls.{Beside, entries_lent, words_each}
use Rattle.places.specs.Table.{entries_for}
use Rattle.macaque_v.specs.Made.{state_over}
use Rattle.macaque_v.specs.Rescued.{Saves}
use Rattle.macaque_v.specs.declared.MacaqueV.{MacaqueV}
use Rattle.place_table.specs.Calls.{table_rescue_causes, table_rescue_answer, table_rescue_memory, table_rescue_table}
use Rattle.exports.specs.Face.{bound_of, plain_fault, row_in}
use Rattle.exports_stream.specs.Row.{writer_length, bytes_in_use, length_word}
use Rattle.exports_stream.specs.Calls.{opening_of, count_in}
use Rattle.exports_stream.specs.Rescue.{rescue_fault, rescue_row, rescue_buffer}
use Rattle.exports_stream.specs.Tabled.{entries_after, table_write_fault, table_write_row, table_write_buffer, table_write_words, table_write_entries}
use Rattle.exports_table.specs.Calls.{beside_row, table_check_fault, RowMadeBeside}

-- 1, 3, 12, 4 for the table, then 4 for the row, and only then what the bytes give. Till then nothing that is lent is touched.

abbrev pub table_rescue_causes_with : ErrorBound → ℕ → ℕ → ℕ → ℕ → ℕ → List Cause
table_rescue_causes_with b room used limit words row_words = table_rescue_causes b room used limit words ++ (4 when ltb row_words writer_length ∷ [])

abbrev pub table_rescue_face_causes : List ℕ → ℕ → ℕ → ℕ → ℕ → ℕ → List ℕ → List ℕ → List Cause
table_rescue_face_causes buf used limit mode kind bound row words =
    table_rescue_causes_with (bound_of kind bound) (length buf) used (count_in mode limit) (length words) (length row)

abbrev pub table_rescue_said : List ℕ → ℕ → ℕ → ℕ → ℕ → ℕ → ℕ → List ℕ → Said (Beside MacaqueV)
table_rescue_said buf used limit mode opening kind bound words =
    table_rescue_answer buf used (count_in mode limit) (opening_of mode opening) (bound_of kind bound) (length words)

abbrev pub table_rescue_left : List ℕ → ℕ → ℕ → ℕ → ℕ → ℕ → ℕ → List ℕ → List ℕ
table_rescue_left buf used limit mode opening kind bound words =
    table_rescue_memory buf used (count_in mode limit) (opening_of mode opening) (bound_of kind bound) (length words)

abbrev pub table_rescue_noted : List ℕ → ℕ → ℕ → ℕ → ℕ → ℕ → ℕ → List ℕ → List ℕ
table_rescue_noted buf used limit mode opening kind bound words = table_rescue_table buf used (count_in mode limit) (opening_of mode opening) (bound_of kind bound) words

unfoldable pub table_rescue_fault : List ℕ → ℕ → ℕ → ℕ → ℕ → ℕ → ℕ → List ℕ → List ℕ → Fault
table_rescue_fault buf used limit mode opening kind bound row words =
    judge itself (table_rescue_face_causes buf used limit mode kind bound row words) (plain_fault (table_rescue_said buf used limit mode opening kind bound words))

unfoldable pub table_rescue_row : List ℕ → ℕ → ℕ → ℕ → ℕ → ℕ → ℕ → List ℕ → List ℕ → List ℕ
table_rescue_row buf used limit mode opening kind bound row words =
    judged_memory row (table_rescue_face_causes buf used limit mode kind bound row words) (row_in beside_row row (table_rescue_said buf used limit mode opening kind bound words))

unfoldable pub table_rescue_buffer : List ℕ → ℕ → ℕ → ℕ → ℕ → ℕ → ℕ → List ℕ → List ℕ → List ℕ
table_rescue_buffer buf used limit mode opening kind bound row words =
    judged_memory buf (table_rescue_face_causes buf used limit mode kind bound row words) (table_rescue_left buf used limit mode opening kind bound words)

unfoldable pub table_rescue_words : List ℕ → ℕ → ℕ → ℕ → ℕ → ℕ → ℕ → List ℕ → List ℕ → List ℕ
table_rescue_words buf used limit mode opening kind bound row words =
    judged_memory words (table_rescue_face_causes buf used limit mode kind bound row words) (table_rescue_noted buf used limit mode opening kind bound words)

-- the number that was handed in is not looked at
unfoldable pub table_rescue_entries : List ℕ → ℕ → ℕ → ℕ → ℕ → ℕ → ℕ → List ℕ → List ℕ → ℕ → ℕ
table_rescue_entries buf used limit mode opening kind bound row words entries =
    judge (keeping entries) (table_rescue_face_causes buf used limit mode kind bound row words)
    (entries_after entries (table_rescue_said buf used limit mode opening kind bound words))

-- What a rescue with a table leaves: the row, the buffer, the words and the number.
pub record Afterwards : Type 0 where
  pub row : List ℕ
  pub buffer : List ℕ
  pub words : List ℕ
  pub entries : ℕ

abbrev pub rescued_into : List ℕ → ℕ → ℕ → ℕ → ℕ → ℕ → ℕ → List ℕ → List ℕ → ℕ → Afterwards
rescued_into buf used limit mode opening kind bound row words entries =
    record {
      row = table_rescue_row buf used limit mode opening kind bound row words;
      buffer = table_rescue_buffer buf used limit mode opening kind bound row words;
      words = table_rescue_words buf used limit mode opening kind bound row words;
      entries = table_rescue_entries buf used limit mode opening kind bound row words entries;
    }

-- Of a stream that was made of xs the first j bytes arrived, and stand at the front of buf; it is rescued with a table of any words into a row, and `is` says what
-- they are then. Row, buffer, words and number are those of one fresh run over the inputs that the call behind keeps (`Saves`); written on they go on as it.
pub record RowSavesBesideAs (mode value kind bound : ℕ) (xs : List ℕ) (j : ℕ) (buf row words : List ℕ) (is : Afterwards) : Type 0 where
  pub saves : Saves (bound_of kind bound) (opening_of mode value) xs j buf
  pub opens : table_rescue_fault buf j (length xs) mode value kind bound row words ≡ no_fault
  pub number : is.entries ≡ entries_for saves.number
  pub made : RowMadeBeside (bound_of kind bound) (opening_of mode value) (take saves.number xs) is.buffer is.row is.words is.entries
  pub accepts : (ys : List ℕ) → saves.number + length ys ≤ most_values → (state_over (bound_of kind bound) (opening_of mode value) (take saves.number xs ++ ys)).place ≤ 8 * length buf
      → entries_for (saves.number + length ys) ≤ entries_lent (length words) → table_write_fault is.row ys is.buffer is.words is.entries ≡ no_fault
  pub goes_on : (ys : List ℕ) → Below 32 ys → (table_write_fault is.row ys is.buffer is.words is.entries).number ≡ 0
      → RowMadeBeside (bound_of kind bound) (opening_of mode value) (take saves.number xs ++ ys) (table_write_buffer is.row ys is.buffer is.words is.entries)
      (table_write_row is.row ys is.buffer is.words is.entries) (table_write_words is.row ys is.buffer is.words is.entries)
      (table_write_entries is.row ys is.buffer is.words is.entries)
  pub any_limit : saves.number < length xs → (i : ℕ) → saves.number ≤ i → i ≤ most_values → entries_for i ≤ entries_lent (length words) → (in_use : ℕ)
      → (table_rescue_fault buf j i mode value kind bound row words ≡ no_fault) × (rescued_into buf j i mode value kind bound row words in_use ≡ is)

abbrev pub RowSavesBeside : ℕ → ℕ → ℕ → ℕ → List ℕ → ℕ → List ℕ → List ℕ → List ℕ → ℕ → Type 0
RowSavesBeside mode value kind bound xs j buf row words entries =
    RowSavesBesideAs mode value kind bound xs j buf row words (rescued_into buf j (length xs) mode value kind bound row words entries)

-- Of any bytes at all, where nothing is refused: row and buffer are those of the plain call, and the check accepts the words on what is left, by the
-- row's count and the number of entries; the words behind the entries stay.
pub record RowRescuesBesideAs (mode value kind bound limit used : ℕ) (buf row words : List ℕ) (is : Afterwards) : Type 0 where
  pub plain : rescue_fault buf used limit mode value kind bound row ≡ no_fault
  pub same_row : is.row ≡ rescue_row buf used limit mode value kind bound row
  pub same_buffer : is.buffer ≡ rescue_buffer buf used limit mode value kind bound row
  pub checks : table_check_fault (bytes_in_use is.row is.buffer) (length_word is.row) mode value is.words is.entries ≡ no_fault
  pub number : is.entries ≡ entries_for (length_word is.row)
  pub behind : drop (words_each * is.entries) is.words ≡ drop (words_each * is.entries) words

abbrev pub RowRescuesBeside : ℕ → ℕ → ℕ → ℕ → ℕ → ℕ → List ℕ → List ℕ → List ℕ → ℕ → Type 0
RowRescuesBeside mode value kind bound limit used buf row words entries =
    RowRescuesBesideAs mode value kind bound limit used buf row words (rescued_into buf used limit mode value kind bound row words entries)
