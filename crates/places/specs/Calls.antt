-- The place table in lent words, and what its calls answer and leave in lent memory, over any writer of a stream: writing and reopening with a table, the
-- check, and a range. "1, 2, 3, 12, 13, 4, .. then 5 to 8". Assumes nothing.
use Rattle.std.specs.Prelude.{◌≡◌, Bool, not, ◌&&◌, ◌||◌, ◌⊎◌, List, [], ◌∷◌, ◌++◌, ℕ, zero, suc, ◌+◌, ◌-◌, ◌*◌, ◌/◌, ◌^◌, ◌≤◌, ◌<◌, eqb, leb, ltb, length, take, drop, get_or}
use Rattle.std.proofs.Math.ListN.{get_elem?}
use Rattle.bits.specs.Bits.{Below, bits_of, whole_bytes}
use Rattle.models.specs.Answers.{Said, Done, answered, refused, answered_on, SaidOn, Cause, ◌when◌, judge, judged_on, judged_memory, verdict}
use Rattle.stream.specs.Format.{Format, window_in, Stream, State, fresh, most_values}
use Rattle.stream.specs.Write.{wrote, wrote_in}
use Rattle.stream.specs.Read.{done, read_n, Reopened, reopened, unopened, buffer_after}
use Rattle.stream.specs.Calls.{Coder, lent_bytes, fault_at, drawn, drawn_in, reopening, start_causes, write_answer, write_memory, reopen_causes, reopen_answer, reopen_memory}
use Rattle.stream.specs.Made.{MadeBy, state_over}
use Rattle.places.specs.Table.{spacing, Entry, entry_of, entries_for, table_of, added, Belongs, check_table, entry_before, reads_from, reads_in_all, may_start, read_range, MetIn}

-- ---- lent words: four to an entry, its place, last value, leading and trailing zeros

abbrev pub words_each : ℕ
words_each = 4

abbrev pub entries_lent : ℕ → ℕ
entries_lent words = words / words_each

abbrev pub entry_at : List ℕ → ℕ → Entry
entry_at words i =
    record {
      place = get_or words (words_each * i) 0;
      last = get_or words (words_each * i + 1) 0;
      win = window_in (get_or words (words_each * i + 2) 0) (get_or words (words_each * i + 3) 0);
    }

-- the first n entries: those in use
unfoldable pub table_in : List ℕ → ℕ → List Entry
table_in words zero = []
table_in words (suc n) = table_in words n ++ (entry_at words n ∷ [])

unfoldable pub words_of : List Entry → List ℕ
words_of [] = []
words_of (e ∷ es) = e.place ∷ e.last ∷ e.win.lead ∷ e.win.trail ∷ words_of es

-- the entries es stand behind the first n, and the words behind them keep what they held
abbrev pub laid_entries : List ℕ → ℕ → List Entry → List ℕ
laid_entries words n es = take (words_each * n) words ++ (words_of es ++ drop (words_each * (n + length es)) words)

-- ---- the number of entries in use: 12 where it is above what is lent, 13 where it is not what the count asks for

abbrev pub table_causes : ℕ → ℕ → ℕ → List Cause
table_causes words entries count = 12 when ltb (entries_lent words) entries ∷ 13 when not (eqb entries (entries_for count)) ∷ []

-- reopening, where these causes come first
abbrev pub table_reopen_causes : List Cause → ℕ → ℕ → ℕ → ℕ → ℕ → ℕ → List Cause
table_reopen_causes first room used count k words entries = reopen_causes first room used count k ++ table_causes words entries count

-- what a call with a table answers: a writer, and how many entries are in use
pub record Beside (W : Type 0) : Type 0 where
  pub writer : W
  pub entries : ℕ

module _ {A W : Type 0} (C : Coder A W) where
  -- ---- writing with a table: "4, no room for new entries", or for the bits

  abbrev pub table_write_causes : State A → List ℕ → ℕ → ℕ → ℕ → List Cause
  table_write_causes s xs bytes words entries =
      start_causes C s (length xs) bytes
      ++ (table_causes words entries s.count
      ++ (4 when (ltb (entries_lent words) (entries_for (s.count + length xs)) || not (leb (wrote C.rule C.stream s xs).place (8 * bytes))) ∷ []))

  -- the causes of lent memory of these lengths
  abbrev pub table_write_judged : State A → List ℕ → List ℕ → List ℕ → ℕ → List Cause
  table_write_judged s xs buf words entries = table_write_causes s xs (lent_bytes (length buf)) (length words) entries

  abbrev pub table_write_answer : State A → List ℕ → List ℕ → List ℕ → ℕ → SaidOn W (Beside W)
  table_write_answer s xs buf words entries =
      judged_on (C.hold s) (table_write_judged s xs buf words entries)
      (record { writer = C.hold (wrote C.rule C.stream s xs); entries = entries_for (s.count + length xs) })

  abbrev pub table_write_memory : State A → List ℕ → List ℕ → List ℕ → ℕ → List ℕ
  table_write_memory s xs buf words entries = judged_memory buf (table_write_judged s xs buf words entries) (wrote_in C.rule C.stream s xs buf)

  -- "Writing adds entries"
  abbrev pub table_write_table : State A → List ℕ → List ℕ → List ℕ → ℕ → List ℕ
  table_write_table s xs buf words entries =
      judged_memory words (table_write_judged s xs buf words entries) (laid_entries words entries (added C.rule C.stream s xs))

  -- ---- reopening with a table: "reopening at k drops those for k and above", so it answers how many stay; it looks at none and changes none

  abbrev pub resumed_beside : Reopened A → Said (Beside W)
  resumed_beside (reopened s) = answered (record { writer = C.hold s; entries = entries_for s.count })
  resumed_beside (unopened f) = refused (fault_at f)

  abbrev pub table_reopen_answer : ℕ → List ℕ → ℕ → ℕ → ℕ → ℕ → ℕ → Said (Beside W)
  table_reopen_answer l buf used count k words entries =
      judge refused (table_reopen_causes C.first (length buf) used count k words entries) (resumed_beside (reopening C.stream l (take used buf) count k))

  abbrev pub table_reopen_memory : ℕ → List ℕ → ℕ → ℕ → ℕ → ℕ → ℕ → List ℕ
  table_reopen_memory l buf used count k words entries =
      judged_memory buf (table_reopen_causes C.first (length buf) used count k words entries) (buffer_after (reopening C.stream l (take used buf) count k) buf)

-- ---- a range: "p above q, or q above the count, is 12"; "with p = q it answers no values", whatever the table and the output

abbrev pub range_causes : Format → ℕ → ℕ → List ℕ → ℕ → ℕ → ℕ → ℕ → List Cause
range_causes F bytes count words entries p q room =
    3 when ltb most_values count
    ∷ 12 when (ltb q p || (ltb count q || (ltb p q && ltb (entries_lent (length words)) entries)))
    ∷ 13 when (ltb p q && not (may_start F (8 * lent_bytes bytes) (get_elem? (table_in words entries) (entry_before p))))
    ∷ 4 when ltb room (q - p)
    ∷ []

-- the entry at or before p, in its words: it is in use, its last value is one of the width, its place is not "beyond the stream's bits (equal is not
-- beyond)", and its window is "the opening one" or can be said and leaves a bit, of 32 bits "leading + trailing at most 31"
pub record MayStart (F : Format) (bits : ℕ) (words : List ℕ) (in_use p : ℕ) : Type 0 where
  pub there : p / 64 < in_use
  pub small : get_or words (4 * (p / 64) + 1) 0 < 2 ^ F.width
  pub within : get_or words (4 * (p / 64)) 0 ≤ bits
  pub window : ((get_or words (4 * (p / 64) + 2) 0 ≡ 255) × (get_or words (4 * (p / 64) + 3) 0 ≡ 0))
      ⊎ ((get_or words (4 * (p / 64) + 2) 0 ≤ 2 ^ F.lead_bits - 1) × (get_or words (4 * (p / 64) + 2) 0 + get_or words (4 * (p / 64) + 3) 0 ≤ F.width - 1))

-- ---- the check: 3, 12, 13 by the number of entries; 5 to 8; 13 by what they hold

abbrev pub check_causes : ℕ → ℕ → ℕ → List Cause
check_causes count words entries = 3 when ltb most_values count ∷ table_causes words entries count

module _ {A : Type 0} (S : Stream A) where
  abbrev pub check_answer : ℕ → List ℕ → ℕ → List ℕ → ℕ → Said Done
  check_answer l bytes count words entries =
      judge refused (check_causes count (length words) entries) (check_table S count (fresh S l) (bits_of bytes) (table_in words entries))

  -- the values p to q − 1 of the bytes, by the entries in use
  abbrev pub range_read : List ℕ → List ℕ → ℕ → ℕ → ℕ → Said (List ℕ)
  range_read bytes words entries p q = read_range S (bits_of bytes) (table_in words entries) p q

  abbrev pub range_answer : List ℕ → ℕ → List ℕ → ℕ → ℕ → ℕ → ℕ → Said Done
  range_answer bytes count words entries p q room =
      judge refused (range_causes S.format (length bytes) count words entries p q room) (drawn (range_read bytes words entries p q))

  abbrev pub range_memory : List ℕ → ℕ → List ℕ → ℕ → ℕ → ℕ → List ℕ → List ℕ
  range_memory bytes count words entries p q out =
      judged_memory out (range_causes S.format (length bytes) count words entries p q (length out)) (drawn_in out (range_read bytes words entries p q))

-- ---- the spine of the promises, with a table

-- the bytes in use, the writer and the entries in use are those of one fresh run over xs
pub record MadeByBeside {A W : Type 0} (C : Coder A W) (l : ℕ) (xs buf : List ℕ) (m : W) (words : List ℕ) (entries : ℕ) : Type 0 where
  pub made : MadeBy C l xs buf m
  pub lent : entries ≤ entries_lent (length words)
  pub beside : table_in words entries ≡ table_of C.rule C.stream l xs

-- a writer over xs, and as many entries as its count asks for
abbrev pub over : {A W : Type 0} → Coder A W → ℕ → List ℕ → Beside W
over C l xs = record { writer = C.hold (state_over C l xs); entries = entries_for (length xs) }

-- an accepted write with a table: what the plain call answers and leaves, and the new entries behind those in use
pub record WritesBeside {A W : Type 0} (C : Coder A W) (s : State A) (xs buf words : List ℕ) (entries : ℕ) (r : Beside W) : Type 0 where
  pub plain : write_answer C s xs buf ≡ answered_on r.writer
  pub bytes : table_write_memory C s xs buf words entries ≡ write_memory C s xs buf
  pub table : table_write_table C s xs buf words entries ≡ laid_entries words entries (added C.rule C.stream s xs)
  pub before : entries ≡ entries_for s.count
  pub after : r.entries ≡ entries_for (s.count + length xs)
  pub lent : r.entries ≤ entries_lent (length words)

-- an accepted reopening with a table: what the plain call answers and leaves, and as many entries as k asks for
pub record ReopensBeside {A W : Type 0} (C : Coder A W) (l : ℕ) (buf : List ℕ) (used n k words entries : ℕ) (r : Beside W) : Type 0 where
  pub plain : reopen_answer C l buf used n k ≡ answered r.writer
  pub bytes : table_reopen_memory C l buf used n k words entries ≡ reopen_memory C l buf used n k
  pub before : entries ≡ entries_for n
  pub after : r.entries ≡ entries_for k
  pub lent : entries ≤ entries_lent words

-- reopening the first `used` bytes of buf, which hold xs, at k, beside a table of these words, and writing ys: what is answered, and what is left
pub record TableResumesAsOne {A W : Type 0} (C : Coder A W) (l : ℕ) (xs buf : List ℕ) (used k : ℕ) (words : List ℕ) (entries : ℕ) (ys : List ℕ) : Type 0 where
  pub opens : table_reopen_answer C l buf used (length xs) k (length words) entries ≡ answered (over C l (take k xs))
  pub accepts : table_write_answer C (state_over C l (take k xs)) ys (table_reopen_memory C l buf used (length xs) k (length words) entries) words (entries_for k)
      ≡ answered_on (over C l (take k xs ++ ys))
  pub made : MadeByBeside C l (take k xs ++ ys)
      (table_write_memory C (state_over C l (take k xs)) ys (table_reopen_memory C l buf used (length xs) k (length words) entries) words (entries_for k))
      (C.hold (state_over C l (take k xs ++ ys)))
      (table_write_table C (state_over C l (take k xs)) ys (table_reopen_memory C l buf used (length xs) k (length words) entries) words (entries_for k))
      (entries_for (length (take k xs ++ ys)))

-- what the check accepts: there are not too many values, the entries in use are lent, the stream is accepted, and they are its own
pub record OwnTable {A : Type 0} (S : Stream A) (l : ℕ) (bytes : List ℕ) (count : ℕ) (words : List ℕ) (entries : ℕ) : Type 0 where
  pub few : count ≤ most_values
  pub lent : entries ≤ entries_lent (length words)
  pub belongs : Belongs S count (fresh S l) (bits_of bytes) (table_in words entries)

-- entry i of a stream's own table, where the bytes are read as vs: that of the state that a reader has behind the first 64 * i values
pub record OwnEntry {A : Type 0} (S : Stream A) (l : ℕ) (bytes vs : List ℕ) (i : ℕ) (e : Entry) : Type 0 where
  pub state : State A
  pub rest : List Bool
  pub reads : read_n S (spacing * i) (fresh S l) (bits_of bytes) ≡ done (take (spacing * i) vs) state rest
  pub is : e ≡ entry_of S state

-- what reopening at k answers where the first `used` bytes of buf hold any stream of n values and the words its own table, and that after any accepted
-- write from there the table is the stream's own again
pub record TableResumes {A W : Type 0} (C : Coder A W) (l n k used : ℕ) (buf words : List ℕ) (entries : ℕ) : Type 0 where
  pub state : State A
  pub opens : table_reopen_answer C l buf used n k (length words) entries ≡ answered (record { writer = C.hold state; entries = entries_for k })
  -- any further list that room, count limit and lent entries allow is accepted
  pub accepts : (ys : List ℕ) → k + length ys ≤ most_values → (wrote C.rule C.stream state ys).place ≤ 8 * length buf
      → entries_for (k + length ys) ≤ entries_lent (length words)
      → table_write_answer C state ys (table_reopen_memory C l buf used n k (length words) entries) words (entries_for k)
      ≡ answered_on (record { writer = C.hold (wrote C.rule C.stream state ys); entries = entries_for (k + length ys) })
  pub checks : (ys : List ℕ) → Below C.stream.format.width ys → (after : Beside W)
      → table_write_answer C state ys (table_reopen_memory C l buf used n k (length words) entries) words (entries_for k) ≡ answered_on after
      → check_answer C.stream l
      (take (whole_bytes (C.state after.writer).place) (table_write_memory C state ys (table_reopen_memory C l buf used n k (length words) entries) words (entries_for k)))
      (k + length ys) (table_write_table C state ys (table_reopen_memory C l buf used n k (length words) entries) words (entries_for k)) after.entries
      ≡ answered tt

-- what a range with any table says: it is accepted only where no cause holds, and refused by the first of its causes, or with 5 to 7 at one of the values
-- that it reads
abbrev pub RangeAnswers : List Cause → ℕ → ℕ → Said Done → Type 0
RangeAnswers causes p q (answered u) = verdict causes ≡ answered tt
RangeAnswers causes p q (refused f) = (verdict causes ≡ refused f) ⊎ ((verdict causes ≡ answered tt) × MetIn (reads_from p) (reads_in_all p q) f)
