-- Rescue with a place table: what the call answers and leaves, over any writer of a stream, and what is said of it. Assumes nothing.
use Rattle.std.specs.Prelude.{◌≡◌, List, [], ◌∷◌, ◌++◌, ℕ, ◌+◌, ◌*◌, ◌≤◌, ◌<◌, ltb, length, take, drop}
use Rattle.bits.specs.Bits.{bits_of, whole_bytes}
use Rattle.models.specs.Answers.{Said, answered, refused, answered_on, Cause, ◌when◌, judge, judged_memory}
use Rattle.stream.specs.Format.{Stream, fresh, most_values}
use Rattle.stream.specs.Read.{Reopened, reopened, unopened, buffer_after}
use Rattle.stream.specs.Calls.{Coder, rescuing, rescue_causes, rescue_answer, rescue_memory}
use Rattle.stream.specs.Made.{state_over}
use Rattle.stream.specs.Rescued.{Saves}
use Rattle.places.specs.Table.{entries_for, entries_in}
use Rattle.places.specs.Calls.{words_each, entries_lent, laid_entries, Beside, resumed_beside, table_write_answer, table_write_memory, table_write_table, check_answer, MadeByBeside, over}

-- "4, no room for new entries": the lent words have to hold as many entries as the limit asks for
abbrev pub table_rescue_causes : List Cause → ℕ → ℕ → ℕ → ℕ → List Cause
table_rescue_causes first room used limit words = rescue_causes first room used limit ++ (4 when ltb (entries_lent words) (entries_for limit) ∷ [])

-- The table is made anew: whatever the first words held, in them stand the entries of the values that are kept, as a reader of the bytes that arrived meets
-- them; the words behind stay. No word of the old table is looked at.
abbrev pub table_anew : {A : Type 0} → Stream A → ℕ → List ℕ → List ℕ → Reopened A → List ℕ
table_anew S l bytes words (reopened s) = laid_entries words 0 (entries_in S s.count (fresh S l) (bits_of bytes))
table_anew S l bytes words (unopened f) = words

module _ {A W : Type 0} (C : Coder A W) where
  abbrev pub table_rescue_answer : ℕ → List ℕ → ℕ → ℕ → ℕ → Said (Beside W)
  table_rescue_answer l buf used limit words =
      judge refused (table_rescue_causes C.first (length buf) used limit words) (resumed_beside C (rescuing C.stream l (take used buf) limit))

  abbrev pub table_rescue_memory : ℕ → List ℕ → ℕ → ℕ → ℕ → List ℕ
  table_rescue_memory l buf used limit words =
      judged_memory buf (table_rescue_causes C.first (length buf) used limit words) (buffer_after (rescuing C.stream l (take used buf) limit) buf)

  abbrev pub table_rescue_table : ℕ → List ℕ → ℕ → ℕ → List ℕ → List ℕ
  table_rescue_table l buf used limit words =
      judged_memory words (table_rescue_causes C.first (length buf) used limit (length words))
      (table_anew C.stream l (take used buf) words (rescuing C.stream l (take used buf) limit))

-- Of any bytes at all: an accepted rescue with a table answers and leaves what the plain call does, and as many entries as the number kept asks for. They are
-- those of what is left: the check accepts them there. The words behind them stay.
pub record RescuesBeside {A W : Type 0} (C : Coder A W) (l limit used : ℕ) (buf words : List ℕ) (r : Beside W) : Type 0 where
  pub plain : rescue_answer C l buf used limit ≡ answered r.writer
  pub bytes : table_rescue_memory C l buf used limit (length words) ≡ rescue_memory C l buf used limit
  pub number : r.entries ≡ entries_for (C.state r.writer).count
  pub lent : r.entries ≤ entries_lent (length words)
  pub long : length (table_rescue_table C l buf used limit words) ≡ length words
  pub behind : drop (words_each * r.entries) (table_rescue_table C l buf used limit words) ≡ drop (words_each * r.entries) words
  pub checks : check_answer C.stream l (take (whole_bytes (C.state r.writer).place) (table_rescue_memory C l buf used limit (length words)))
      (C.state r.writer).count (table_rescue_table C l buf used limit words) r.entries ≡ answered tt

-- Of a stream that a fresh writer made of xs the first j bytes arrived, and R says what a rescue keeps of it. With a table of any words, if they have room for the
-- entries of xs: the entries in use are the table of one fresh run over the kept inputs; any further list that room, count limit and lent entries allow is
-- accepted, and goes on as that run would; and the limit matters as little as without a table.
pub record SavesBeside {A W : Type 0} (C : Coder A W) (l : ℕ) (xs : List ℕ) (j : ℕ) (buf words : List ℕ) (R : Saves C l xs j buf) : Type 0 where
  pub answers : table_rescue_answer C l buf j (length xs) (length words) ≡ answered (over C l (take R.number xs))
  pub made : MadeByBeside C l (take R.number xs) (table_rescue_memory C l buf j (length xs) (length words)) (C.hold (state_over C l (take R.number xs)))
      (table_rescue_table C l buf j (length xs) words) (entries_for R.number)
  pub accepts : (ys : List ℕ) → R.number + length ys ≤ most_values → (state_over C l (take R.number xs ++ ys)).place ≤ 8 * length buf
      → entries_for (R.number + length ys) ≤ entries_lent (length words)
      → table_write_answer C (state_over C l (take R.number xs)) ys (table_rescue_memory C l buf j (length xs) (length words)) (table_rescue_table C l buf j (length xs) words) (entries_for R.number)
      ≡ answered_on (over C l (take R.number xs ++ ys))
  pub goes_on : (ys : List ℕ) (r : Beside W)
      → table_write_answer C (state_over C l (take R.number xs)) ys (table_rescue_memory C l buf j (length xs) (length words)) (table_rescue_table C l buf j (length xs) words) (entries_for R.number)
      ≡ answered_on r
      → MadeByBeside C l (take R.number xs ++ ys)
      (table_write_memory C (state_over C l (take R.number xs)) ys (table_rescue_memory C l buf j (length xs) (length words)) (table_rescue_table C l buf j (length xs) words) (entries_for R.number))
      r.writer
      (table_write_table C (state_over C l (take R.number xs)) ys (table_rescue_memory C l buf j (length xs) (length words)) (table_rescue_table C l buf j (length xs) words) (entries_for R.number))
      r.entries
  pub any_limit : R.number < length xs → (i : ℕ) → R.number ≤ i → i ≤ most_values → entries_for i ≤ entries_lent (length words)
      → (table_rescue_answer C l buf j i (length words) ≡ table_rescue_answer C l buf j (length xs) (length words))
      × (table_rescue_memory C l buf j i (length words) ≡ table_rescue_memory C l buf j (length xs) (length words))
      × (table_rescue_table C l buf j i words ≡ table_rescue_table C l buf j (length xs) words)
