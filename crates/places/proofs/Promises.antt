-- The promises of the place table, over any stream: start reading here. Each is proved in the module it cites, over any good format, any rule of what is kept
-- and anything that a state gathers; those of the calls over any writer stand in Calls and ReadCalls. Assumes nothing.
use mathlib.Core.Path.{◌≡◌, refl, sym, ap, ◌∙◌}
use mathlib.Core.Bool.{Bool}
use mathlib.Core.List.{List, [], ◌∷◌, ◌++◌}
use mathlib.Core.Option.{some}
use Prim.Native.Nat.{ℕ, ◌+◌, ◌-◌, ◌*◌, ◌^◌, ◌≤◌, ◌<◌}
use lib.Count.{count_leading_zeros, count_trailing_zeros}
use lib.ListN.{length, take, drop, replicate, get_elem?}
use Rattle.bits.specs.Bits.{Below, field, value, starts, bits_of, padded, whole_bytes}
use Rattle.models.specs.Answers.{answered}
use Rattle.stream.specs.Format.{lead_of, trail_of, kind_of, body_of, window_by, bits_for, window_for, opening, with_first, without_first, raw_next, opened_on, bare, Stream, State, fresh, is_raw}
use Rattle.stream.specs.Write.{lossless, kept_from, kept, Keeps, after, wrote, wrote_in}
use Rattle.stream.specs.Read.{done, read_n, read_all, reopened, reopen, buffer_after}
use Rattle.stream.specs.Made.{Resumed}
use Rattle.stream.specs.Needs.{Good}
use Rattle.stream.proofs.Promises.{resumed-as-one-run}
use Rattle.places.specs.Table.{spacing, Entry, entry_of, entries_for, entries, entries_in, table_of, added, table_wrote, table_after, MadeBeside, no_match, Belongs, check_table, entry_before, reads_from, reads_in_all, state_from, without, read_range, RangeSays}
use Rattle.places.specs.Calls.{words_of}
use Rattle.places.proofs.Entries.{asked-for, fresh-entry, own-number, entry_read}
use Rattle.places.proofs.Made.{entry-of-run, run-number, table-append, beside-fresh, beside-number, beside-write, beside-reopen, raw-entry-added}
use Rattle.places.proofs.Check.{check-says, check-number, check-own, check-other, made-checks}
use Rattle.places.proofs.Any.{few-before, raw-at-entry, range-says}
use Rattle.places.proofs.Range.{right-range, checked-range, made_range}
use Rattle.places.proofs.Resume.{any-table-resumed}

abbrev one : ℕ
one = 0x3F80_0000

-- ---- beside a stream, in a check, and in a range

module _ {A : Type 0} (rule : ℕ → ℕ → ℕ) (S : Stream A) (l : ℕ) where
  -- "bit place, last kept value and window before that value", for value number 64 * i
  pub an-entry-is-the-state-before-its-value : (xs : List ℕ) (i : ℕ) → spacing * i < length xs
      → get_elem? (table_of rule S l xs) i ≡ some (entry_of S (wrote rule S (fresh S l) (take (spacing * i) xs)))
  an-entry-is-the-state-before-its-value = entry-of-run rule S l

  -- so entry 0 is the fresh state: place 0, the opening window, and as last the value that the stream opens on, in the mode with a first value +0
  pub entry-0-is-the-fresh-state : (xs : List ℕ) → 0 < length xs
      → get_elem? (table_of rule S l xs) 0 ≡ some (record { place = 0; last = opened_on S.mode l; win = opening })
  unfolding kept_from after
  entry-0-is-the-fresh-state xs some-value = entry-of-run rule S l xs 0 some-value ∙ ap some (fresh-entry S l)

  -- "for each value number that is a multiple of 64 and below the count"
  pub as-many-entries-as-the-count-asks-for : (xs : List ℕ) → length (table_of rule S l xs) ≡ entries_for (length xs)
  as-many-entries-as-the-count-asks-for = run-number rule S l

  pub a-fresh-writer-with-a-table : (buf : List ℕ) → MadeBeside rule S l [] buf (fresh S l) []
  a-fresh-writer-with-a-table = beside-fresh rule S l

  module _ {xs buf : List ℕ} {s : State A} {table : List Entry} (M : MadeBeside rule S l xs buf s table) where
    -- so that neither a write nor a reopening refuses it with 13
    pub its-table-has-the-number-of-entries : length table ≡ entries_for s.count
    its-table-has-the-number-of-entries = beside-number rule S l M

    pub a-write-adds-its-entries : (ys : List ℕ) → (wrote rule S s ys).place ≤ 8 * length buf
        → MadeBeside rule S l (xs ++ ys) (wrote_in rule S s ys buf) (wrote rule S s ys) (table_wrote rule S s ys table)
    a-write-adds-its-entries = beside-write rule S l M

    module _ (good : Good S.format) (K : Keeps S.format.width rule) (hl : l < 2 ^ S.format.width) (bx : Below S.format.width xs) where
      -- "reopening at k drops those for k and above": the others stay, and are the table of the first k inputs
      pub reopening-keeps-the-entries-below : (k : ℕ) → k ≤ length xs
          → (table_after (reopen S (length xs) k (fresh S l) (bits_of (take (whole_bytes s.place) buf))) table ≡ take (entries_for k) table)
          × MadeBeside rule S l (take k xs) (buffer_after (reopen S (length xs) k (fresh S l) (bits_of (take (whole_bytes s.place) buf))) buf)
          (wrote rule S (fresh S l) (take k xs)) (table_after (reopen S (length xs) k (fresh S l) (bits_of (take (whole_bytes s.place) buf))) table)
      reopening-keeps-the-entries-below = beside-reopen rule S l M good K hl bx

      -- so reopening at k and writing ys leaves the bytes, the state and the table of one fresh run over the first k inputs and ys
      pub resumed-with-its-table : (k : ℕ) → k ≤ length xs → (ys : List ℕ) → (wrote rule S (wrote rule S (fresh S l) (take k xs)) ys).place ≤ 8 * length buf
          → MadeBeside rule S l (take k xs ++ ys)
          (wrote_in rule S (wrote rule S (fresh S l) (take k xs)) ys (buffer_after (reopen S (length xs) k (fresh S l) (bits_of (take (whole_bytes s.place) buf))) buf))
          (wrote rule S (wrote rule S (fresh S l) (take k xs)) ys)
          (table_wrote rule S (wrote rule S (fresh S l) (take k xs)) ys (take (entries_for k) table))
      resumed-with-its-table k le ys room =
          let m : State A = wrote rule S (fresh S l) (take k xs) in
          let back = reopening-keeps-the-entries-below k le in
          record {
            made = resumed-as-one-run rule S l M.made good K hl bx k le ys room;
            beside =
                ap (table_wrote rule S m ys) (sym back.0 ∙ back.1.beside) ∙ sym (table-append rule S l (take k xs) ys);
          }

      -- the check accepts it
      pub a-made-table-is-accepted : check_table S (length xs) (fresh S l) (bits_of (take (whole_bytes s.place) buf)) table ≡ answered tt
      a-made-table-is-accepted = made-checks rule S l M good K hl bx

      -- a range of what was written: the kept values p to q − 1
      pub a-made-range : (p q : ℕ) → p ≤ q → q ≤ length xs
          → read_range S (bits_of (take (whole_bytes s.place) buf)) table p q ≡ answered (take (q - p) (drop p (kept rule S (fresh S l) xs)))
      a-made-range = made_range rule S l M good K hl bx

-- "With a first value, entry 0 .. holds place 0, last +0 and the opening window": +0 whatever last value a state of length 0 is handed in with
pub entry-0-before-a-raw-value : {A : Type 0} (rule : ℕ → ℕ → ℕ) (S : Stream A) (s : State A) → S.mode ≡ with_first → s.count ≡ 0 → (x : ℕ) (xs : List ℕ)
    → get_elem? (added rule S s (x ∷ xs)) 0 ≡ some (record { place = s.place; last = 0; win = s.win })
entry-0-before-a-raw-value = raw-entry-added

-- FORMAT's tables, in words: 65 times 1.0 with a first value; and 63 times 1.0, then 3F800001 and 3F808001, opened on 1.0
pub the-tables-of-the-document : (words_of (table_of lossless (bare with_first) one (replicate 65 one)) ≡ 0 ∷ 0 ∷ 255 ∷ 0 ∷ 158 ∷ one ∷ 255 ∷ 0 ∷ [])
    × (words_of (table_of lossless (bare without_first) one (replicate 63 one ++ (0x3F80_0001 ∷ 0x3F80_8001 ∷ []))) ≡ 0 ∷ one ∷ 255 ∷ 0 ∷ 140 ∷ 0x3F80_0001 ∷ 31 ∷ 0 ∷ [])
unfolding entries words_of kept_from field value starts bits_of padded lead_of trail_of count_leading_zeros count_trailing_zeros kind_of body_of window_by bits_for window_for
the-tables-of-the-document = (refl, refl)

-- a count asks for the entries of the value numbers below it that are multiples of 64, so reopening at k keeps exactly those below k
pub an-entry-is-asked-for-below-the-count : (i n : ℕ) → (i < entries_for n → spacing * i < n) × (spacing * i < n → i < entries_for n)
an-entry-is-asked-for-below-the-count = asked-for

-- the check accepts no table of a stream that is refused, and of an accepted one its own, and no other
pub the-check-accepts-only-what-belongs : {A : Type 0} (S : Stream A) (n : ℕ) (s : State A) (bits : List Bool) (table : List Entry)
    → check_table S n s bits table ≡ answered tt → Belongs S n s bits table
the-check-accepts-only-what-belongs = check-says

pub the-check-accepts-its-own-table : {A : Type 0} (S : Stream A) (n l : ℕ) (bits : List Bool) (vs : List ℕ) (t : State A) (r : List Bool)
    → read_all S n (fresh S l) bits ≡ done vs t r → (table : List Entry) → table ≡ entries_in S n (fresh S l) bits
    → check_table S n (fresh S l) bits table ≡ answered tt
the-check-accepts-its-own-table = check-own

pub the-check-refuses-any-other : {A : Type 0} (S : Stream A) (n l : ℕ) (bits : List Bool) (vs : List ℕ) (t : State A) (r : List Bool)
    → read_all S n (fresh S l) bits ≡ done vs t r → (table : List Entry) → (table ≡ entries_in S n (fresh S l) bits → ⊥)
    → check_table S n (fresh S l) bits table ≡ no_match
the-check-refuses-any-other = check-other

pub the-check-counts-the-entries-first : {A : Type 0} (S : Stream A) (n : ℕ) (s : State A) (bits : List Bool) (table : List Entry)
    → (length table ≡ entries_for n → ⊥) → check_table S n s bits table ≡ no_match
the-check-counts-the-entries-first = check-number

-- the entries of any stream that is read, ours or not: as many as its count asks for, and entry i is of the state that a reader has behind 64 * i values
pub a-stream-has-the-number-of-entries : {A : Type 0} (S : Stream A) (l n : ℕ) (bits : List Bool) (vs : List ℕ) (t : State A) (r : List Bool)
    → read_n S n (fresh S l) bits ≡ done vs t r → length (entries_in S n (fresh S l) bits) ≡ entries_for n
a-stream-has-the-number-of-entries = own-number

pub an-entry-is-the-state-a-reader-has : {A : Type 0} (S : Stream A) (l n i : ℕ) (bits : List Bool) → spacing * i < n → (us : List ℕ) (t : State A) (r : List Bool)
    → read_n S (spacing * i) (fresh S l) bits ≡ done us t r → get_elem? (entries_in S n (fresh S l) bits) i ≡ some (entry_of S t)
an-entry-is-the-state-a-reader-has = entry_read

-- "For each table that the check accepts, this must be shown equal to that part of the full reading."
pub a-range-is-that-part-of-the-reading : {A : Type 0} (S : Stream A) → Good S.format → (l : ℕ) → l < 2 ^ S.format.width
    → (n : ℕ) (bits : List Bool) (vs : List ℕ) (t : State A) (r : List Bool) → read_all S n (fresh S l) bits ≡ done vs t r
    → (table : List Entry) → check_table S n (fresh S l) bits table ≡ answered tt → (p q : ℕ) → p ≤ q → q ≤ n
    → read_range S bits table p q ≡ answered (take (q - p) (drop p vs))
a-range-is-that-part-of-the-reading = checked-range

-- with the right entry at or before p a range is that part of reading the first q values, though the stream breaks behind them or in them: it is then refused
-- as reading is, with the value and the place counted from the start
pub a-range-of-a-right-entry : {A : Type 0} (S : Stream A) → Good S.format → (l : ℕ) → l < 2 ^ S.format.width
    → (bits : List Bool) (p q : ℕ) → p < q → (table : List Entry) (us : List ℕ) (s : State A) (rest : List Bool)
    → read_n S (reads_from p) (fresh S l) bits ≡ done us s rest → get_elem? table (entry_before p) ≡ some (entry_of S s)
    → read_range S bits table p q ≡ without p (read_n S q (fresh S l) bits)
a-range-of-a-right-entry = right-range

-- any accepted stream whose table the check accepts, reopened at k and written on: the check accepts what was kept and added
pub any-table-resumes : {A : Type 0} (rule : ℕ → ℕ → ℕ) (S : Stream A) → Good S.format → Keeps S.format.width rule → (l : ℕ) → l < 2 ^ S.format.width
    → (n k used : ℕ) (buf : List ℕ) → k ≤ n → used ≤ length buf → (vs : List ℕ) (t : State A) (r : List Bool)
    → read_all S n (fresh S l) (bits_of (take used buf)) ≡ done vs t r
    → (table : List Entry) → check_table S n (fresh S l) (bits_of (take used buf)) table ≡ answered tt → (R : Resumed rule S l n k used buf vs)
    → (ys : List ℕ) → Below S.format.width ys → (wrote rule S R.state ys).place ≤ 8 * length buf
    → check_table S (k + length ys) (fresh S l)
    (bits_of (take (whole_bytes (wrote rule S R.state ys).place) (wrote_in rule S R.state ys (buffer_after (reopened R.state) buf))))
    (table_wrote rule S R.state ys (table_after (reopened R.state) table)) ≡ answered tt
any-table-resumes = any-table-resumed

-- with any table a range answers q − p values, or refuses with 13, or with 5 to 7 at one of the values that it reads
pub a-range-of-any-table : {A : Type 0} (S : Stream A) (bits : List Bool) (table : List Entry) (p q : ℕ) → p ≤ q → RangeSays p q (read_range S bits table p q)
a-range-of-any-table = range-says

-- and reads at most 63 values before p, and none from q on
pub a-range-reads-few-more : (p q : ℕ) → p ≤ q → (reads_from p ≤ p) × (p ≤ reads_from p + 63) × (reads_from p + reads_in_all p q ≡ q)
a-range-reads-few-more = few-before

-- "With a first value, entry 0 and no other begins at the raw value."
pub only-entry-0-begins-at-the-raw-value : {A : Type 0} (S : Stream A) (i : ℕ) (e : Entry) → is_raw S (state_from S (spacing * i) e) ≡ raw_next S.mode i
only-entry-0-begins-at-the-raw-value = raw-at-entry
