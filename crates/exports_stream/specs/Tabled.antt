-- What a write with a place table beside it answers and leaves: the fault and the row of a step, the buffer, the table's words, and how many entries are in
-- use, by what the call behind says. Assumes nothing.
use Rattle.std.specs.Prelude.{◌≡◌, List, take, drop, ℕ}
use Rattle.models.specs.Answers.{Said, answered, refused, SaidOn, stateless}
use Rattle.models.specs.declared.Fault.{Fault}
use Rattle.places.specs.Calls.{Beside}
use Rattle.macaque_v.specs.declared.MacaqueV.{MacaqueV}
use Rattle.place_table.specs.Calls as table
use Rattle.exports.specs.Face.{step_fault, step_row}
use Rattle.exports_stream.specs.Row.{written_row, writer_in}
use Rattle.exports_stream.specs.Calls.{TenWords, row_of}

-- the state's words after a write
abbrev pub beside_written : List ℕ → Beside MacaqueV → List ℕ
beside_written row a = written_row row a.writer

-- the number afterwards: a refusal leaves it
abbrev pub entries_after : ℕ → Said (Beside MacaqueV) → ℕ
entries_after entries (answered a) = a.entries
entries_after entries (refused f) = entries

abbrev pub table_write_said : List ℕ → List ℕ → List ℕ → List ℕ → ℕ → SaidOn MacaqueV (Beside MacaqueV)
table_write_said row xs buf words entries = table.table_write_answer (writer_in row) xs buf words entries

abbrev pub table_write_fault : List ℕ → List ℕ → List ℕ → List ℕ → ℕ → Fault
table_write_fault row xs buf words entries = step_fault (table_write_said row xs buf words entries)

abbrev pub table_write_row : List ℕ → List ℕ → List ℕ → List ℕ → ℕ → List ℕ
table_write_row row xs buf words entries = step_row (beside_written row) row (table_write_said row xs buf words entries)

abbrev pub table_write_buffer : List ℕ → List ℕ → List ℕ → List ℕ → ℕ → List ℕ
table_write_buffer row xs buf words entries = table.table_write_memory (writer_in row) xs buf words entries

abbrev pub table_write_words : List ℕ → List ℕ → List ℕ → List ℕ → ℕ → List ℕ
table_write_words row xs buf words entries = table.table_write_table (writer_in row) xs buf words entries

abbrev pub table_write_entries : List ℕ → List ℕ → List ℕ → List ℕ → ℕ → ℕ
table_write_entries row xs buf words entries = entries_after entries (stateless (table_write_said row xs buf words entries))

-- ---- a row that is handed in with the sum t instead of s

-- a write with a table: the same fault, buffer, table and number, and the same words but for the sum's (which is that of the plain write, where it is accepted)
pub record RowCarriesTheSumBeside (w : TenWords) (s t : ℕ) (rest xs buf words : List ℕ) (entries : ℕ) : Type 0 where
  pub fault : table_write_fault (row_of w t rest) xs buf words entries ≡ table_write_fault (row_of w s rest) xs buf words entries
  pub buffer : table_write_buffer (row_of w t rest) xs buf words entries ≡ table_write_buffer (row_of w s rest) xs buf words entries
  pub table : table_write_words (row_of w t rest) xs buf words entries ≡ table_write_words (row_of w s rest) xs buf words entries
  pub number : table_write_entries (row_of w t rest) xs buf words entries ≡ table_write_entries (row_of w s rest) xs buf words entries
  pub others : take 10 (table_write_row (row_of w t rest) xs buf words entries) ≡ take 10 (table_write_row (row_of w s rest) xs buf words entries)
  pub behind : drop 11 (table_write_row (row_of w t rest) xs buf words entries) ≡ drop 11 (table_write_row (row_of w s rest) xs buf words entries)
