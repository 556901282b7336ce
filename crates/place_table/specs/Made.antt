-- The spine of the promises with a place table: lent bytes, a writer and lent words that any chain of writes, stops and resumes has made. Assumes nothing.
use Rattle.std.specs.Prelude.{◌≡◌, List, ◌++◌, ℕ, ◌+◌, ◌*◌, ◌≤◌, length, take}
use Rattle.bits.specs.Bits.{Below, whole_bytes}
use Rattle.models.specs.Answers.{answered, answered_on}
use Rattle.models.specs.Limits.{most_values}
use Rattle.models.specs.declared.ErrorBound.{ErrorBound}
use Rattle.places.specs.Table.{Entry, entries_for, table_of, added}
use Rattle.places.specs.Calls.{Beside, entries_lent, table_in, laid_entries}
use Rattle.coding.specs.Keep.{keep_rule}
use Rattle.macaque_v.specs.State.{stream_in, state_of, writer_of, is_first, opening_value}
use Rattle.macaque_v.specs.Write.{stream_by, rule_by, writer_at, wrote_by}
use Rattle.macaque_v.specs.Calls.{write_answer, write_memory}
use Rattle.macaque_v.specs.Read.{reopen_answer, reopen_memory}
use Rattle.macaque_v.specs.Made.{state_over, Made}
use Rattle.macaque_v.specs.declared.MacaqueV.{MacaqueV}
use Rattle.macaque_v.specs.declared.Opening.{Opening}
use Rattle.place_table.specs.Calls.{table_write_answer, table_write_memory, table_write_table, table_reopen_answer, table_reopen_memory, check_answer}

-- the table of one fresh run over xs: "an entry for each value number that is a multiple of 64 and below the count"
abbrev pub table_over : ErrorBound → Opening → List ℕ → List Entry
table_over b o xs = table_of (keep_rule b) (stream_in (is_first o)) (opening_value o) xs

-- the bytes in use, the writer and the entries in use are those of one fresh run over xs, with the bound b and the opening o
pub record MadeBeside (b : ErrorBound) (o : Opening) (xs buf : List ℕ) (m : MacaqueV) (words : List ℕ) (entries : ℕ) : Type 0 where
  pub made : Made b o xs buf m
  pub lent : entries ≤ entries_lent (length words)
  pub beside : table_in words entries ≡ table_over b o xs

-- the writer over xs
abbrev pub writer_over : ErrorBound → Opening → List ℕ → MacaqueV
writer_over b o xs = writer_of b (is_first o) (state_over b o xs)

-- and with it as many entries as its count asks for
abbrev pub over : ErrorBound → Opening → List ℕ → Beside MacaqueV
over b o xs = record { writer = writer_over b o xs; entries = entries_for (length xs) }

-- an accepted write with a table, by any writer: what the plain call answers and leaves, and the new entries behind those in use
pub record WritesBeside (m : MacaqueV) (xs buf words : List ℕ) (entries : ℕ) (r : Beside MacaqueV) : Type 0 where
  pub plain : write_answer m xs buf ≡ answered_on r.writer
  pub bytes : table_write_memory m xs buf words entries ≡ write_memory m xs buf
  pub table : table_write_table m xs buf words entries ≡ laid_entries words entries (added (rule_by m) (stream_by m) (state_of m) xs)
  pub before : entries ≡ entries_for m.length
  pub after : r.entries ≡ entries_for (m.length + length xs)
  pub lent : r.entries ≤ entries_lent (length words)

-- an accepted reopening with a table: what the plain call answers and leaves, and as many entries as k asks for
pub record ReopensBeside (b : ErrorBound) (o : Opening) (buf : List ℕ) (used n k words entries : ℕ) (r : Beside MacaqueV) : Type 0 where
  pub plain : reopen_answer buf used n k o b ≡ answered r.writer
  pub bytes : table_reopen_memory buf used n k o b words entries ≡ reopen_memory buf used n k o b
  pub before : entries ≡ entries_for n
  pub after : r.entries ≡ entries_for k
  pub lent : entries ≤ entries_lent words

-- reopening the first `used` bytes of buf, which hold xs, at k, beside a table of these words, and writing ys: what is answered, and what is left
pub record TableResumesAsOne (b : ErrorBound) (o : Opening) (xs buf : List ℕ) (used k : ℕ) (words : List ℕ) (entries : ℕ) (ys : List ℕ) : Type 0 where
  pub opens : table_reopen_answer buf used (length xs) k o b (length words) entries ≡ answered (over b o (take k xs))
  pub accepts : table_write_answer (writer_over b o (take k xs)) ys (table_reopen_memory buf used (length xs) k o b (length words) entries) words (entries_for k)
      ≡ answered_on (over b o (take k xs ++ ys))
  pub made : MadeBeside b o (take k xs ++ ys)
      (table_write_memory (writer_over b o (take k xs)) ys (table_reopen_memory buf used (length xs) k o b (length words) entries) words (entries_for k))
      (writer_over b o (take k xs ++ ys))
      (table_write_table (writer_over b o (take k xs)) ys (table_reopen_memory buf used (length xs) k o b (length words) entries) words (entries_for k))
      (entries_for (length (take k xs ++ ys)))

-- what reopening at k answers where the first `used` bytes of buf hold any stream of n values and the words its own table, and that after any accepted
-- write from there the table is the stream's own again
pub record TableResumes (b : ErrorBound) (o : Opening) (n k used : ℕ) (buf words : List ℕ) (entries : ℕ) : Type 0 where
  pub writer : MacaqueV
  pub opens : table_reopen_answer buf used n k o b (length words) entries ≡ answered (record { writer = writer; entries = entries_for k })
  -- any further list that room, count limit and lent entries allow is accepted
  pub accepts : (ys : List ℕ) → k + length ys ≤ most_values → (wrote_by writer ys).place ≤ 8 * length buf → entries_for (k + length ys) ≤ entries_lent (length words)
      → table_write_answer writer ys (table_reopen_memory buf used n k o b (length words) entries) words (entries_for k)
      ≡ answered_on (record { writer = writer_at writer (wrote_by writer ys); entries = entries_for (k + length ys) })
  pub checks : (ys : List ℕ) → Below 32 ys → (after : Beside MacaqueV)
      → table_write_answer writer ys (table_reopen_memory buf used n k o b (length words) entries) words (entries_for k) ≡ answered_on after
      → check_answer
      (take (whole_bytes after.writer.place) (table_write_memory writer ys (table_reopen_memory buf used n k o b (length words) entries) words (entries_for k)))
      (k + length ys) o (table_write_table writer ys (table_reopen_memory buf used n k o b (length words) entries) words (entries_for k)) after.entries
      ≡ answered tt
