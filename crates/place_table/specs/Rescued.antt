-- What is said of rescue with a place table, in MacaqueV's words. Assumes nothing.
use Rattle.std.specs.Prelude.{◌≡◌, List, ◌++◌, ℕ, ◌+◌, ◌*◌, ◌≤◌, ◌<◌, length, take, drop}
use Rattle.bits.specs.Bits.{whole_bytes}
use Rattle.models.specs.Answers.{answered, answered_on}
use Rattle.models.specs.Limits.{most_values}
use Rattle.models.specs.declared.ErrorBound.{ErrorBound}
use Rattle.places.specs.Table.{entries_for}
use Rattle.places.specs.Calls.{Beside, words_each, entries_lent}
use Rattle.macaque_v.specs.Read.{rescue_answer, rescue_memory}
use Rattle.macaque_v.specs.Made.{state_over}
use Rattle.macaque_v.specs.declared.MacaqueV.{MacaqueV}
use Rattle.macaque_v.specs.declared.Opening.{Opening}
use Rattle.place_table.specs.Calls.{table_write_answer, table_write_memory, table_write_table, table_rescue_answer, table_rescue_memory, table_rescue_table, check_answer}
use Rattle.place_table.specs.Made.{MadeBeside, writer_over, over}

-- Of any bytes at all: an accepted rescue with a table answers and leaves what the plain call does, and as many entries as the number kept asks for. They are
-- those of what is left: the check accepts them there. The words behind them stay.
pub record RescuesBeside (b : ErrorBound) (o : Opening) (limit used : ℕ) (buf words : List ℕ) (r : Beside MacaqueV) : Type 0 where
  pub plain : rescue_answer buf used limit o b ≡ answered r.writer
  pub bytes : table_rescue_memory buf used limit o b (length words) ≡ rescue_memory buf used limit o b
  pub number : r.entries ≡ entries_for r.writer.length
  pub lent : r.entries ≤ entries_lent (length words)
  pub long : length (table_rescue_table buf used limit o b words) ≡ length words
  pub behind : drop (words_each * r.entries) (table_rescue_table buf used limit o b words) ≡ drop (words_each * r.entries) words
  pub checks : check_answer (take (whole_bytes r.writer.place) (table_rescue_memory buf used limit o b (length words))) r.writer.length o
      (table_rescue_table buf used limit o b words) r.entries ≡ answered tt

-- Of a stream that a fresh writer made of xs the first j bytes arrived, of which a rescue keeps the first k inputs. With a table of any words the entries in use
-- are the table of one fresh run over these; any further list that room, count limit and lent entries allow is accepted, and goes on as that run would; and
-- where an input is missing every limit from k on, for whose entries there is room, does the same.
pub record SavesBeside (b : ErrorBound) (o : Opening) (xs : List ℕ) (j : ℕ) (buf words : List ℕ) (k : ℕ) : Type 0 where
  pub answers : table_rescue_answer buf j (length xs) o b (length words) ≡ answered (over b o (take k xs))
  pub made : MadeBeside b o (take k xs) (table_rescue_memory buf j (length xs) o b (length words)) (writer_over b o (take k xs)) (table_rescue_table buf j (length xs) o b words) (entries_for k)
  pub accepts : (ys : List ℕ) → k + length ys ≤ most_values → (state_over b o (take k xs ++ ys)).place ≤ 8 * length buf → entries_for (k + length ys) ≤ entries_lent (length words)
      → table_write_answer (writer_over b o (take k xs)) ys (table_rescue_memory buf j (length xs) o b (length words)) (table_rescue_table buf j (length xs) o b words) (entries_for k)
      ≡ answered_on (over b o (take k xs ++ ys))
  pub goes_on : (ys : List ℕ) (r : Beside MacaqueV)
      → table_write_answer (writer_over b o (take k xs)) ys (table_rescue_memory buf j (length xs) o b (length words)) (table_rescue_table buf j (length xs) o b words) (entries_for k) ≡ answered_on r
      → MadeBeside b o (take k xs ++ ys)
      (table_write_memory (writer_over b o (take k xs)) ys (table_rescue_memory buf j (length xs) o b (length words)) (table_rescue_table buf j (length xs) o b words) (entries_for k)) r.writer
      (table_write_table (writer_over b o (take k xs)) ys (table_rescue_memory buf j (length xs) o b (length words)) (table_rescue_table buf j (length xs) o b words) (entries_for k)) r.entries
  pub any_limit : k < length xs → (i : ℕ) → k ≤ i → i ≤ most_values → entries_for i ≤ entries_lent (length words)
      → (table_rescue_answer buf j i o b (length words) ≡ table_rescue_answer buf j (length xs) o b (length words))
      × (table_rescue_memory buf j i o b (length words) ≡ table_rescue_memory buf j (length xs) o b (length words))
      × (table_rescue_table buf j i o b words ≡ table_rescue_table buf j (length xs) o b words)
