-- The promises of the calls with a place table, in bytes and words: start reading here. `table_write_answer`, `table_reopen_answer`, `check_answer`, `range_answer`, ..
-- are what the contracts of the calls say that they answer and leave in lent memory. Each is a promise of the theory's calls (proofs/Calls and
-- ReadCalls of `places`), in MacaqueV's words. Assumes nothing.
use mathlib.Core.Path.{◌≡◌, refl, sym, ap, ◌∙◌, subst}
use mathlib.Core.Bool.{Bool, true}
use mathlib.Core.Logic.{◌⊎◌}
use mathlib.Core.List.{List, [], ◌∷◌, ◌++◌}
use mathlib.Core.Option.{some}
use Prim.Native.Nat.{ℕ, ◌+◌, ◌-◌, ◌*◌, ◌^◌, ◌≤◌, ◌<◌}
use native.Mathlib.Omega.{arith}
use lib.ListN.{length, take, drop, get_elem?, length-append}
use Rattle.bits.specs.Bits.{Below, bits_of, whole_bytes}
use Rattle.models.specs.Answers.{fault, answered, refused, answered_on, refused_on, verdict, keeping, NoneHolds}
use Rattle.models.proofs.Judged.{accepted}
use Rattle.models.specs.Limits.{most_values}
use Rattle.models.specs.Bound.{bound_allowed}
use Rattle.models.specs.declared.ErrorBound.{ErrorBound}
use Rattle.models.specs.declared.ErrorBound.TheVariants.{Lossless}
use Rattle.models.specs.declared.Fault.{Fault}
use Rattle.stream.specs.Format.{macaque, opening, raw_next, State, is_raw}
use Rattle.stream.specs.Read.{StreamRefusal, done, stopped, read_n, read_all}
use Rattle.stream.specs.Calls.{lent_bytes, fault_at, drawn, drawn_in}
use Rattle.stream.specs.Rescued as rescued
use Rattle.places.specs.Table.{spacing, Entry, entry_of, entries_for, entries_in, no_match, entry_before, reads_from, reads_in_all, state_from, without, range_from}
use Rattle.places.specs.Calls.{words_each, entries_lent, entry_at, table_in, MayStart, Beside, MadeByBeside, OwnTable, OwnEntry, RangeAnswers}
use Rattle.places.proofs.Entries.{asked-for}
use Rattle.places.proofs.Made.{entry-of-run, run-number}
use Rattle.places.proofs.Any.{few-before, raw-at-entry}
use Rattle.places.proofs.Calls as calls
use Rattle.places.proofs.ReadCalls as reads
use Rattle.places.proofs.RescueCalls as rescues
use Rattle.coding.specs.Keep.{keep_rule}
use Rattle.macaque_v.specs.State.{Known, mode_of, stream_in, state_of, writer_of, is_first, opening_value, opened}
use Rattle.macaque_v.specs.Write.{coder_of, coder_by}
use Rattle.macaque_v.specs.Calls.{new_answer, write_answer, write_memory}
use Rattle.macaque_v.specs.Read.{values_in, reopen_answer, reopen_memory, rescue_answer, rescue_memory}
use Rattle.macaque_v.specs.Made.{state_over, kept_of}
use Rattle.macaque_v.specs.Rescued.{Saves}
use Rattle.macaque_v.specs.Size.{most_of}
use Rattle.macaque_v.specs.declared.MacaqueV.{MacaqueV}
use Rattle.macaque_v.specs.declared.Opening.{Opening}
use Rattle.macaque_v.proofs.Accepting as writer
use Rattle.macaque_v.proofs.Room.{a-stream-has-room}
use Rattle.place_table.specs.Calls.{table_write_answer, table_write_memory, table_write_table, table_reopen_answer, table_reopen_memory, table_rescue_causes, table_rescue_answer, table_rescue_memory, table_rescue_table, check_answer, range_causes, range_answer, range_memory}
use Rattle.place_table.specs.Made.{table_over, MadeBeside, writer_over, over, WritesBeside, ReopensBeside, TableResumesAsOne, TableResumes}
use Rattle.place_table.specs.Rescued.{RescuesBeside, SavesBeside}

-- ---- the table of a stream's inputs

-- "bit place, last kept value and window before that value", for value number 64 * i
pub an-entry-is-the-state-before-its-value : (b : ErrorBound) (o : Opening) (xs : List ℕ) (i : ℕ) → spacing * i < length xs
    → get_elem? (table_over b o xs) i ≡ some (entry_of (stream_in (is_first o)) (state_over b o (take (spacing * i) xs)))
an-entry-is-the-state-before-its-value b o = entry-of-run (keep_rule b) (stream_in (is_first o)) (opening_value o)

-- "an entry for each value number that is a multiple of 64 and below the count"
pub as-many-entries-as-the-count-asks-for : (b : ErrorBound) (o : Opening) (xs : List ℕ) → length (table_over b o xs) ≡ entries_for (length xs)
as-many-entries-as-the-count-asks-for b o = run-number (keep_rule b) (stream_in (is_first o)) (opening_value o)

-- so reopening at k, which keeps as many as k asks for, keeps exactly those below k
pub an-entry-is-asked-for-below-the-count : (i n : ℕ) → (i < entries_for n → spacing * i < n) × (spacing * i < n → i < entries_for n)
an-entry-is-asked-for-below-the-count = asked-for

-- "With a first value, entry 0 and no other begins at the raw value."
pub only-entry-0-begins-at-the-raw-value : (o : Opening) (i : ℕ) (e : Entry)
    → is_raw (stream_in (is_first o)) (state_from (stream_in (is_first o)) (spacing * i) e) ≡ raw_next (mode_of (is_first o)) i
only-entry-0-begins-at-the-raw-value o = raw-at-entry (stream_in (is_first o))

-- it "holds place 0, last +0 and the opening window", whatever last value a writer of length 0 is handed in with
pub entry-0-before-a-raw-value : (m : MacaqueV) → m.with_first ≡ true → m.length ≡ 0 → (x : ℕ) (xs buf words : List ℕ) (entries : ℕ) (r : Beside MacaqueV)
    → table_write_answer m (x ∷ xs) buf words entries ≡ answered_on r
    → get_elem? (table_in (table_write_table m (x ∷ xs) buf words entries) r.entries) 0 ≡ some (record { place = 0; last = 0; win = opening })
unfolding table_write_answer table_write_table
entry-0-before-a-raw-value m first =
    calls.entry-0-before-a-raw-value (coder_by m) (writer.coder-good m.error_bound m.with_first) (ap mode_of first) (state_of m)

-- ---- the spine, as the theory of place tables has it

in-theory : {b : ErrorBound} {o : Opening} {xs buf : List ℕ} {m : MacaqueV} {words : List ℕ} {entries : ℕ} → MadeBeside b o xs buf m words entries
    → MadeByBeside (coder_of b (is_first o)) (opening_value o) xs buf m words entries
in-theory M = record { made = writer.in-theory M.made; lent = M.lent; beside = M.beside }

by-theory : (b : ErrorBound) (o : Opening) {xs buf : List ℕ} {m : MacaqueV} {words : List ℕ} {entries : ℕ}
    → MadeByBeside (coder_of b (is_first o)) (opening_value o) xs buf m words entries → MadeBeside b o xs buf m words entries
by-theory b o M = record { made = writer.by-theory b o M.made; lent = M.lent; beside = M.beside }

-- the entries in use, and how many they are, are told by the bound, the opening and the inputs
pub made-once : {b : ErrorBound} {o : Opening} {xs buf other : List ℕ} {m n : MacaqueV} {words us : List ℕ} {entries es : ℕ} → MadeBeside b o xs buf m words entries
    → MadeBeside b o xs other n us es → (entries ≡ es) × (table_in words entries ≡ table_in us es)
made-once {b} {o} M N =
    let good = writer.coder-good b (is_first o) in (
      calls.its-number-of-entries (coder_of b (is_first o)) good (opening_value o) (in-theory M)
          ∙ sym (calls.its-number-of-entries (coder_of b (is_first o)) good (opening_value o) (in-theory N)),
      M.beside ∙ sym N.beside,
    )

-- a fresh writer has no entries in use, whatever the buffer and the words hold
pub a-fresh-writer-with-a-table : (b : ErrorBound) (o : Opening) (buf words : List ℕ) (m : MacaqueV) → new_answer b o ≡ answered m → MadeBeside b o [] buf m words 0
unfolding new_answer
a-fresh-writer-with-a-table b o buf words m h =
    by-theory b o (calls.a-fresh-writer-with-a-table (coder_of b (is_first o)) (writer.coder-good b (is_first o)) (opening_value o) buf words m h)

module _ {b : ErrorBound} {o : Opening} {xs buf : List ℕ} {m : MacaqueV} {words : List ℕ} {entries : ℕ} (M : MadeBeside b o xs buf m words entries) where
  -- ---- "Writing adds entries": an accepted write leaves the table of both lists, for any list, the empty one too
  pub a-write-adds-its-entries : (ys : List ℕ) (r : Beside MacaqueV) → table_write_answer m ys buf words entries ≡ answered_on r
      → MadeBeside b o (xs ++ ys) (table_write_memory m ys buf words entries) r.writer (table_write_table m ys buf words entries) r.entries
  unfolding table_write_answer table_write_memory table_write_table
  a-write-adds-its-entries ys =
      subst (λ (w : MacaqueV). (r : Beside MacaqueV) → table_write_answer w ys buf words entries ≡ answered_on r
      → MadeBeside b o (xs ++ ys) (table_write_memory w ys buf words entries) r.writer (table_write_table w ys buf words entries) r.entries) (sym M.made.writer)
      (λ r h. by-theory b o (calls.a-write-adds-its-entries (coder_of b (is_first o)) (writer.coder-good b (is_first o)) (opening_value o) (in-theory M) ys r h))

  -- and it is accepted, wherever room for bits and entries and the count limit allow
  pub a-write-is-accepted : Below 32 xs → opening_value o < 2 ^ 32 → bound_allowed b ≡ true → (ys : List ℕ) → length xs + length ys ≤ most_values
      → (state_over b o (xs ++ ys)).place ≤ 8 * length buf → entries_for (length xs + length ys) ≤ entries_lent (length words)
      → table_write_answer m ys buf words entries ≡ answered_on (over b o (xs ++ ys))
  unfolding table_write_answer
  a-write-is-accepted bx hl ok ys most room lent =
      ap (λ (w : MacaqueV). table_write_answer w ys buf words entries) M.made.writer
      ∙ calls.a-write-with-a-table-is-accepted (coder_of b (is_first o)) (writer.coder-good b (is_first o)) (opening_value o) (in-theory M) bx hl (writer.no-bound-refuses b ok) ys
      most room lent

  -- so where the bytes hold the most bits that n values can take, and the table their entries, what is left of n is accepted
  pub a-write-has-room : Below 32 xs → opening_value o < 2 ^ 32 → bound_allowed b ≡ true → (n : ℕ) → n ≤ most_values → whole_bytes (most_of n o) ≤ length buf
      → entries_for n ≤ entries_lent (length words) → (ys : List ℕ) → length xs + length ys ≤ n → table_write_answer m ys buf words entries ≡ answered_on (over b o (xs ++ ys))
  a-write-has-room bx hl ok n most room lent ys few =
      a-write-is-accepted bx hl ok ys (omega arith) (a-stream-has-room b o n (length buf) room (xs ++ ys) (omega (arith, few, length-append xs ys))) (omega arith)

  -- ---- "reopening at k drops those for k and above": it answers the writer after the first k inputs and how many entries stay, and leaves the buffer as the
  -- plain call does; the entries below k stay, and are the table of these inputs
  pub reopening-keeps-the-entries-below : Below 32 xs → opening_value o < 2 ^ 32 → bound_allowed b ≡ true → length xs ≤ most_values → (k : ℕ) → k ≤ length xs
      → (table_reopen_answer buf (whole_bytes m.place) (length xs) k o b (length words) entries ≡ answered (over b o (take k xs)))
      × (table_reopen_memory buf (whole_bytes m.place) (length xs) k o b (length words) entries ≡ reopen_memory buf (whole_bytes m.place) (length xs) k o b)
      × MadeBeside b o (take k xs) (table_reopen_memory buf (whole_bytes m.place) (length xs) k o b (length words) entries) (writer_over b o (take k xs)) words (entries_for k)
  unfolding table_reopen_answer table_reopen_memory reopen_memory
  reopening-keeps-the-entries-below bx hl ok few k le =
      let r =
      calls.reopening-keeps-the-entries-below (coder_of b (is_first o)) (writer.coder-good b (is_first o)) (opening_value o) (in-theory M) bx hl (writer.no-bound-refuses b ok) few
      k le in
      (r.0, r.1, by-theory b o r.2)

  -- "Demand 3 then speaks of the table too": reopened at any k, any further list that room, count limit and lent entries allow is accepted, and leaves the
  -- buffer, the writer and the table of one fresh run over the first k inputs and the list
  pub resumed-with-its-table : Below 32 xs → opening_value o < 2 ^ 32 → bound_allowed b ≡ true → length xs ≤ most_values → (k : ℕ) → k ≤ length xs → (ys : List ℕ)
      → k + length ys ≤ most_values → (state_over b o (take k xs ++ ys)).place ≤ 8 * length buf → entries_for (k + length ys) ≤ entries_lent (length words)
      → TableResumesAsOne b o xs buf (whole_bytes m.place) k words entries ys
  unfolding table_write_answer table_write_memory table_write_table table_reopen_answer table_reopen_memory
  resumed-with-its-table bx hl ok few k le ys most room lent =
      let r =
      calls.resumed-with-its-table (coder_of b (is_first o)) (writer.coder-good b (is_first o)) (opening_value o) (in-theory M) bx hl (writer.no-bound-refuses b ok) few k le ys most
      room lent in
      record { opens = r.opens; accepts = r.accepts; made = by-theory b o r.made }

  -- ---- the check accepts the table that a writer made
  pub a-made-table-is-accepted : Below 32 xs → opening_value o < 2 ^ 32 → length xs ≤ most_values
      → check_answer (take (whole_bytes m.place) buf) (length xs) o words entries ≡ answered tt
  unfolding check_answer
  a-made-table-is-accepted bx hl few = reads.a-made-table-is-accepted (coder_of b (is_first o)) (writer.coder-good b (is_first o)) (opening_value o) hl (in-theory M) bx few

  -- so a range of what was written is the kept values p to q − 1
  pub a-made-range : Below 32 xs → opening_value o < 2 ^ 32 → length xs ≤ most_values → (p q : ℕ) → p ≤ q → q ≤ length xs → (out : List ℕ) → q - p ≤ length out
      → (range_answer (take (whole_bytes m.place) buf) (length xs) o words entries p q (length out) ≡ answered tt)
      × (range_memory (take (whole_bytes m.place) buf) (length xs) o words entries p q out ≡ take (q - p) (drop p (kept_of b o xs)) ++ drop (q - p) out)
  unfolding range_answer range_memory
  a-made-range bx hl few = reads.a-made-range (coder_of b (is_first o)) (writer.coder-good b (is_first o)) (opening_value o) hl (in-theory M) bx few

-- ---- writing and reopening with any writer, any table and any bytes

module _ (m : MacaqueV) (xs buf words : List ℕ) (entries : ℕ) where
  -- an accepted write with a table is the plain one, and lays its entries behind those in use
  pub a-write-with-a-table-is-the-plain-one : (r : Beside MacaqueV) → table_write_answer m xs buf words entries ≡ answered_on r → WritesBeside m xs buf words entries r
  unfolding table_write_answer table_write_memory table_write_table write_answer write_memory
  a-write-with-a-table-is-the-plain-one r h =
      let w = calls.a-write-with-a-table-is-the-plain-one (coder_by m) (state_of m) xs buf words entries r h in
      record { plain = w.plain; bytes = w.bytes; table = w.table; before = w.before; after = w.after; lent = w.lent }

  -- it is accepted where the plain one is, the number of entries is what the length asks for, and there is room for the new ones
  pub a-plain-write-goes-with-a-table : (n : MacaqueV) → write_answer m xs buf ≡ answered_on n → entries ≡ entries_for m.length
      → entries_for (m.length + length xs) ≤ entries_lent (length words)
      → table_write_answer m xs buf words entries ≡ answered_on (record { writer = n; entries = entries_for (m.length + length xs) })
  unfolding table_write_answer write_answer
  a-plain-write-goes-with-a-table = calls.a-plain-write-goes-with-a-table (coder_by m) (state_of m) xs buf words entries

  -- and where the plain one is refused, it is refused alike
  pub a-write-is-refused-as-the-plain-one : entries ≡ entries_for m.length → entries_for (m.length + length xs) ≤ entries_lent (length words) → (f : Fault) (n : MacaqueV)
      → write_answer m xs buf ≡ refused_on f n → table_write_answer m xs buf words entries ≡ refused_on f n
  unfolding table_write_answer write_answer
  a-write-is-refused-as-the-plain-one = calls.a-write-is-refused-as-the-plain-one (coder_by m) (state_of m) xs buf words entries

  -- "lent memory is untouched", the buffer and the table, and the writer is handed back
  pub a-refused-write-changes-nothing : (f : Fault) (n : MacaqueV) → table_write_answer m xs buf words entries ≡ refused_on f n
      → (n ≡ m) × (table_write_memory m xs buf words entries ≡ buf) × (table_write_table m xs buf words entries ≡ words)
  unfolding table_write_answer table_write_memory table_write_table
  a-refused-write-changes-nothing = calls.a-refused-write-changes-nothing (coder_by m) (state_of m) xs buf words entries

  -- of the words only those of the new entries change, accepted or not: those before them and behind them stay
  pub a-write-keeps-the-entries-in-use : take (words_each * entries) (table_write_table m xs buf words entries) ≡ take (words_each * entries) words
  unfolding table_write_table
  a-write-keeps-the-entries-in-use = calls.a-write-keeps-the-entries-in-use (coder_by m) (state_of m) xs buf words entries

  pub a-write-keeps-the-words-behind : drop (words_each * entries_for (m.length + length xs)) (table_write_table m xs buf words entries)
      ≡ drop (words_each * entries_for (m.length + length xs)) words
  unfolding table_write_table
  a-write-keeps-the-words-behind = calls.a-write-keeps-the-words-behind (coder_by m) (state_of m) xs buf words entries

  -- and there are as many words, and as many bytes, as before
  pub a-write-keeps-the-number-of-words : length (table_write_table m xs buf words entries) ≡ length words
  unfolding table_write_table
  a-write-keeps-the-number-of-words = calls.a-write-keeps-the-number-of-words (coder_by m) (state_of m) xs buf words entries

  pub a-write-keeps-the-length : length (table_write_memory m xs buf words entries) ≡ length buf
  unfolding table_write_memory
  a-write-keeps-the-length = calls.a-write-keeps-the-length (coder_by m) (writer.coder-good m.error_bound m.with_first) (state_of m) xs buf words entries

-- "An empty write changes nothing", of the table either: an accepted one answers the writer that it was handed and as many entries, and whether or not it is
-- accepted the buffer and the words are what they were
pub an-empty-write-changes-nothing : (m : MacaqueV) (buf words : List ℕ) (entries : ℕ) → Below 8 buf
    → ((r : Beside MacaqueV) → table_write_answer m [] buf words entries ≡ answered_on r → (r.writer ≡ m) × (r.entries ≡ entries))
    × (table_write_memory m [] buf words entries ≡ buf) × (table_write_table m [] buf words entries ≡ words)
unfolding table_write_answer table_write_memory table_write_table
an-empty-write-changes-nothing m = calls.an-empty-write-changes-nothing (coder_by m) (state_of m)

module _ (b : ErrorBound) (o : Opening) (buf : List ℕ) (used n k words entries : ℕ) where
  -- an accepted reopening with a table is the plain one, and answers as many entries as k asks for
  pub reopening-with-a-table-is-the-plain-one : opening_value o < 2 ^ 32 → (r : Beside MacaqueV) → table_reopen_answer buf used n k o b words entries ≡ answered r
      → ReopensBeside b o buf used n k words entries r
  unfolding table_reopen_answer table_reopen_memory reopen_answer reopen_memory
  reopening-with-a-table-is-the-plain-one hl r h =
      let w = calls.reopening-with-a-table-is-the-plain-one (coder_of b (is_first o)) (writer.coder-good b (is_first o)) (opening_value o) hl buf used n k words entries r h in
      record { plain = w.plain; bytes = w.bytes; before = w.before; after = w.after; lent = w.lent }

  -- it is accepted where the plain one is, and the number of entries is lent and what the count asks for
  pub a-plain-reopening-goes-with-a-table : opening_value o < 2 ^ 32 → (m : MacaqueV) → reopen_answer buf used n k o b ≡ answered m → entries ≤ entries_lent words
      → entries ≡ entries_for n → table_reopen_answer buf used n k o b words entries ≡ answered (record { writer = m; entries = entries_for k })
  unfolding table_reopen_answer reopen_answer
  a-plain-reopening-goes-with-a-table hl =
      calls.a-plain-reopening-goes-with-a-table (coder_of b (is_first o)) (writer.coder-good b (is_first o)) (opening_value o) hl buf used n k words entries

  -- and where the plain one is refused, it is refused alike, with value and place
  pub reopening-is-refused-as-the-plain-one : entries ≤ entries_lent words → entries ≡ entries_for n → (f : Fault) → reopen_answer buf used n k o b ≡ refused f
      → table_reopen_answer buf used n k o b words entries ≡ refused f
  unfolding table_reopen_answer reopen_answer
  reopening-is-refused-as-the-plain-one = calls.reopening-is-refused-as-the-plain-one (coder_of b (is_first o)) (opening_value o) buf used n k words entries

  -- "lent memory is untouched"
  pub a-refused-reopening-changes-nothing : (f : Fault) → table_reopen_answer buf used n k o b words entries ≡ refused f → table_reopen_memory buf used n k o b words entries ≡ buf
  unfolding table_reopen_answer table_reopen_memory
  a-refused-reopening-changes-nothing = calls.a-refused-reopening-changes-nothing (coder_of b (is_first o)) (opening_value o) buf used n k words entries

  pub reopening-keeps-the-length : opening_value o < 2 ^ 32 → length (table_reopen_memory buf used n k o b words entries) ≡ length buf
  unfolding table_reopen_memory
  reopening-keeps-the-length hl =
      calls.reopening-keeps-the-length (coder_of b (is_first o)) (writer.coder-good b (is_first o)) (opening_value o) hl buf used n k words entries

-- ---- the check

module _ (o : Opening) (bytes : List ℕ) (count : ℕ) (words : List ℕ) (entries : ℕ) where
  -- "A checking call goes through the stream once and refuses a table that doesn't belong to it": it accepts a table exactly if the stream is accepted and
  -- the table is its own
  pub the-check-accepts-exactly-its-own-table : (check_answer bytes count o words entries ≡ answered tt → OwnTable (stream_in (is_first o)) (opening_value o) bytes count words entries)
      × (OwnTable (stream_in (is_first o)) (opening_value o) bytes count words entries → check_answer bytes count o words entries ≡ answered tt)
  unfolding check_answer
  the-check-accepts-exactly-its-own-table = reads.the-check-accepts-exactly-its-own-table (stream_in (is_first o)) (opening_value o) bytes count words entries

  -- else it refuses. First with 13, "table doesn't match", for a number of entries that the count does not ask for, whatever the bytes and the entries hold
  pub the-check-counts-the-entries-first : count ≤ most_values → entries ≤ entries_lent (length words) → (entries ≡ entries_for count → ⊥)
      → check_answer bytes count o words entries ≡ no_match
  unfolding check_answer
  the-check-counts-the-entries-first = reads.the-check-counts-the-entries-first (stream_in (is_first o)) (opening_value o) bytes count words entries

  -- and of an accepted stream any other table
  pub the-check-refuses-any-other-table : count ≤ most_values → entries ≤ entries_lent (length words) → (vs : List ℕ) → values_in bytes count o ≡ answered vs
      → (table_in words entries ≡ entries_in (stream_in (is_first o)) count (opened o) (bits_of bytes) → ⊥) → check_answer bytes count o words entries ≡ no_match
  unfolding check_answer
  the-check-refuses-any-other-table = reads.the-check-refuses-any-other-table (stream_in (is_first o)) (opening_value o) bytes count words entries

  -- between the two, a stream that reading refuses as reading does, with value and place
  pub the-check-refuses-what-reading-refuses : count ≤ most_values → entries ≤ entries_lent (length words) → entries ≡ entries_for count
      → (f : StreamRefusal) → read_all (stream_in (is_first o)) count (opened o) (bits_of bytes) ≡ stopped f → check_answer bytes count o words entries ≡ refused (fault_at f)
  unfolding check_answer
  the-check-refuses-what-reading-refuses = reads.the-check-refuses-what-reading-refuses (stream_in (is_first o)) (opening_value o) bytes count words entries

  -- ---- "For each table that the check accepts, this must be shown equal to that part of the full reading."
  module _ (hl : opening_value o < 2 ^ 32) (ok : check_answer bytes count o words entries ≡ answered tt) where
    -- the stream is read as some values
    pub a-checked-stream-reads : (vs : List ℕ) × (values_in bytes count o ≡ answered vs)
    unfolding check_answer
    a-checked-stream-reads =
        let good = writer.coder-good Lossless (is_first o) in
        reads.a-checked-stream-reads (stream_in (is_first o)) good.format good.near (opening_value o) hl bytes count words entries ok

    -- its entries are those that the count asks for, and entry i is of the state that a reader has behind the first 64 * i of these values
    pub a-checked-table-has-its-entries : (vs : List ℕ) → values_in bytes count o ≡ answered vs
        → (entries ≡ entries_for count)
        × ((i : ℕ) → spacing * i < count → OwnEntry (stream_in (is_first o)) (opening_value o) bytes vs i (entry_at words i))
    unfolding check_answer
    a-checked-table-has-its-entries =
        let good = writer.coder-good Lossless (is_first o) in
        reads.a-checked-table-has-its-entries (stream_in (is_first o)) good.format good.near (opening_value o) hl bytes count words entries ok

    -- and each range of it is that part of them, where the output has room; later places of it stay
    pub a-range-is-that-part-of-the-reading : (vs : List ℕ) → values_in bytes count o ≡ answered vs → (p q : ℕ) → p ≤ q → q ≤ count → (out : List ℕ) → q - p ≤ length out
        → (range_answer bytes count o words entries p q (length out) ≡ answered tt)
        × (range_memory bytes count o words entries p q out ≡ take (q - p) (drop p vs) ++ drop (q - p) out)
    unfolding check_answer range_answer range_memory
    a-range-is-that-part-of-the-reading =
        let good = writer.coder-good Lossless (is_first o) in
        reads.a-range-is-that-part-of-the-reading (stream_in (is_first o)) good.format good.near (opening_value o) hl bytes count words entries ok

-- ---- a range "takes any table"

-- "with p = q it answers no values", whatever the table and the output
pub a-range-of-no-values : (o : Opening) (bytes : List ℕ) (count : ℕ) (words : List ℕ) (entries p : ℕ) (out : List ℕ) → count ≤ most_values → p ≤ count
    → (range_answer bytes count o words entries p p (length out) ≡ answered tt) × (range_memory bytes count o words entries p p out ≡ out)
unfolding range_answer range_memory
a-range-of-no-values o = reads.a-range-of-no-values (stream_in (is_first o))

-- its causes, one by one, where the count is none: what is asked for, the entries in use, the entry at or before p by its words, and the output
module _ (o : Opening) (bytes : List ℕ) (count : ℕ) (words : List ℕ) (entries p q room : ℕ) (few : count ≤ most_values) where
  -- "p above q, or q above the count, is 12"
  pub a-range-is-12 : (q < p) ⊎ (count < q) → range_answer bytes count o words entries p q room ≡ refused (fault 12)
  unfolding range_answer
  a-range-is-12 = reads.a-range-is-12 (stream_in (is_first o)) bytes count words entries p q room few

  module _ (lt : p < q) (most : q ≤ count) where
    pub a-range-of-more-than-is-lent-is-12 : entries_lent (length words) < entries → range_answer bytes count o words entries p q room ≡ refused (fault 12)
    unfolding range_answer
    a-range-of-more-than-is-lent-is-12 = reads.a-range-of-more-than-is-lent-is-12 (stream_in (is_first o)) bytes count words entries p q room few lt most

    -- "refuses with 13 one that is missing, has its place beyond the stream's bits, or has a window neither the opening one nor of leading + trailing at most
    -- 31"; and one whose last value is above 32 bits
    pub a-range-is-13 : entries ≤ entries_lent (length words) → (MayStart macaque (8 * lent_bytes (length bytes)) words entries p → ⊥)
        → range_answer bytes count o words entries p q room ≡ no_match
    unfolding range_answer
    a-range-is-13 = reads.a-range-is-13 (stream_in (is_first o)) bytes count words entries p q room few lt most

    pub a-range-is-4 : entries ≤ entries_lent (length words) → MayStart macaque (8 * lent_bytes (length bytes)) words entries p → room < q - p
        → range_answer bytes count o words entries p q room ≡ refused (fault 4)
    unfolding range_answer
    a-range-is-4 = reads.a-range-is-4 (stream_in (is_first o)) bytes count words entries p q room few lt most

-- else it is accepted, or refused by the first of its causes, or "with 5 to 7 as they arise", at one of the values that it reads; "8 isn't judged"
pub a-range-with-any-table : (o : Opening) (bytes : List ℕ) (count : ℕ) (words : List ℕ) (entries p q room : ℕ)
    → RangeAnswers (range_causes (length bytes) count words entries p q room) p q (range_answer bytes count o words entries p q room)
unfolding range_answer
a-range-with-any-table o = reads.a-range-with-any-table (stream_in (is_first o))

-- where no cause holds it "answers what reading from there gives": from the entry at or before p, which is then in use, to value q − 1, without the values
-- before p; that and its 5 to 7 are `range_from` of this entry
pub a-range-reads-from-its-entry : (o : Opening) (bytes : List ℕ) (count : ℕ) (words : List ℕ) (entries p q : ℕ) (out : List ℕ)
    → NoneHolds (range_causes (length bytes) count words entries p q (length out)) → p < q
    → (entry_before p < entries)
    × (range_answer bytes count o words entries p q (length out)
    ≡ drawn (range_from (stream_in (is_first o)) (bits_of bytes) p q (some (entry_at words (entry_before p)))))
    × (range_memory bytes count o words entries p q out
    ≡ drawn_in out (range_from (stream_in (is_first o)) (bits_of bytes) p q (some (entry_at words (entry_before p)))))
unfolding range_answer range_memory
a-range-reads-from-its-entry o bytes count words entries p q out free lt =
    let r = reads.a-range-reads-from-its-entry (stream_in (is_first o)) bytes count words entries p q (length out) free lt in
    (r.0, sym (accepted refused _ _ free) ∙ ap drawn r.1, sym (accepted (keeping out) _ _ free) ∙ ap (drawn_in out) r.1)

-- with the right entry at or before p, that of the state that a reader has there, it is that part of reading the first q values, though the stream breaks
-- behind them or in them: it is then refused as reading is, with the value and the place counted from the start
pub a-range-of-a-right-entry : (o : Opening) → opening_value o < 2 ^ 32 → (bytes : List ℕ) (count : ℕ) (words : List ℕ) (entries : ℕ) → count ≤ most_values
    → entries ≤ entries_lent (length words) → (p q : ℕ) → p < q → q ≤ count → (us : List ℕ) (s : State Known) (rest : List Bool)
    → read_n (stream_in (is_first o)) (reads_from p) (opened o) (bits_of bytes) ≡ done us s rest → entry_before p < entries
    → entry_at words (entry_before p) ≡ entry_of (stream_in (is_first o)) s → (out : List ℕ) → q - p ≤ length out
    → (range_answer bytes count o words entries p q (length out) ≡ drawn (without p (read_n (stream_in (is_first o)) q (opened o) (bits_of bytes))))
    × (range_memory bytes count o words entries p q out ≡ drawn_in out (without p (read_n (stream_in (is_first o)) q (opened o) (bits_of bytes))))
unfolding range_answer range_memory
a-range-of-a-right-entry o hl =
    let good = writer.coder-good Lossless (is_first o) in
    reads.a-range-of-a-right-entry (stream_in (is_first o)) good.format good.near (opening_value o) hl

-- "an output's places past the answer keep what they held" (01), with any table
pub a-range-changes-only-its-places : (o : Opening) (bytes : List ℕ) (count : ℕ) (words : List ℕ) (entries p q : ℕ) (out : List ℕ)
    → (drop (q - p) (range_memory bytes count o words entries p q out) ≡ drop (q - p) out) × (length (range_memory bytes count o words entries p q out) ≡ length out)
unfolding range_memory
a-range-changes-only-its-places o = reads.a-range-changes-only-its-places (stream_in (is_first o))

-- "no data": a refused range leaves the output as it was
pub a-refused-range-changes-nothing : (o : Opening) (bytes : List ℕ) (count : ℕ) (words : List ℕ) (entries p q : ℕ) (out : List ℕ) (f : Fault)
    → range_answer bytes count o words entries p q (length out) ≡ refused f → range_memory bytes count o words entries p q out ≡ out
unfolding range_answer range_memory
a-refused-range-changes-nothing o = reads.a-refused-range-changes-nothing (stream_in (is_first o))

-- it "starts from the entry at or before p" and looks at no other: two tables that agree in whether that entry is in use and in what it holds give the same
pub a-range-looks-at-one-entry : (o : Opening) (bytes : List ℕ) (count p q : ℕ) (ws us : List ℕ) (n m : ℕ) → n ≤ entries_lent (length ws) → m ≤ entries_lent (length us)
    → get_elem? (table_in ws n) (entry_before p) ≡ get_elem? (table_in us m) (entry_before p) → (out : List ℕ)
    → (range_answer bytes count o ws n p q (length out) ≡ range_answer bytes count o us m p q (length out))
    × (range_memory bytes count o ws n p q out ≡ range_memory bytes count o us m p q out)
unfolding range_answer range_memory
a-range-looks-at-one-entry o = reads.a-range-looks-at-one-entry (stream_in (is_first o))

-- and reads at most 63 values before p, and none from q on
pub a-range-reads-few-more : (p q : ℕ) → p ≤ q → (reads_from p ≤ p) × (p ≤ reads_from p + 63) × (reads_from p + reads_in_all p q ≡ q)
a-range-reads-few-more = few-before

-- ---- any accepted stream with its own table, even one that this writer would not write, has its own table again after reopening at k and writing on

pub any-table-resumes : (b : ErrorBound) (o : Opening) (n k used : ℕ) (buf words : List ℕ) (entries : ℕ) → bound_allowed b ≡ true → opening_value o < 2 ^ 32 → k ≤ n
    → used ≤ length buf → check_answer (take used buf) n o words entries ≡ answered tt → TableResumes b o n k used buf words entries
unfolding table_write_answer table_write_memory table_write_table table_reopen_answer table_reopen_memory check_answer
any-table-resumes b o n k used buf words entries ok hl le fits h =
    let r =
    reads.any-table-resumes (coder_of b (is_first o)) (writer.coder-good b (is_first o)) (opening_value o) hl n k used buf words entries (writer.no-bound-refuses b ok) le fits h in
    record { writer = writer_of b (is_first o) r.state; opens = r.opens; accepts = r.accepts; checks = r.checks }

-- ---- rescue with a table: it is made anew of what arrived

-- what a rescue keeps, as the theory of streams has it
kept-in-theory : {b : ErrorBound} {o : Opening} {xs : List ℕ} {j : ℕ} {buf : List ℕ} (R : Saves b o xs j buf)
    → (T : rescued.Saves (coder_of b (is_first o)) (opening_value o) xs j buf) × (T.number ≡ R.number)
unfolding write_answer write_memory rescue_answer rescue_memory
kept-in-theory {b} {o} R = (
  record {
    number = R.number;
    few = R.few;
    here = R.here;
    missing = R.missing;
    most = R.most;
    counted = R.counted;
    answers = R.answers;
    made = writer.in-theory R.made;
    accepts = R.accepts;
    goes_on = λ ys n h. writer.in-theory (R.goes_on ys n h);
    any_limit = R.any_limit;
  },
  refl,
)

-- of a stream that a fresh writer made and whose first bytes arrived: `Saves` says which inputs are kept (proofs/Promises of `macaque_v`), and beside them stands
-- the table of one fresh run over these, whatever words are lent for it, if they have room for the entries of all inputs
pub rescue-keeps-what-arrived-with-a-table : {b : ErrorBound} {o : Opening} {xs : List ℕ} {j : ℕ} {buf : List ℕ} (R : Saves b o xs j buf) → Below 32 xs → opening_value o < 2 ^ 32
    → bound_allowed b ≡ true → (words : List ℕ) → entries_for (length xs) ≤ entries_lent (length words) → SavesBeside b o xs j buf words R.number
unfolding table_write_answer table_write_memory table_write_table table_rescue_answer table_rescue_memory table_rescue_table
rescue-keeps-what-arrived-with-a-table {b} {o} {xs} {j} {buf} R bx hl ok words lent =
    let T = kept-in-theory R in
    let r = rescues.keeps-what-arrived-with-a-table (coder_of b (is_first o)) (writer.coder-good b (is_first o)) (opening_value o) hl T.0 bx (writer.no-bound-refuses b ok) words lent in
    subst (SavesBeside b o xs j buf words) T.1
    (record { answers = r.answers; made = by-theory b o r.made; accepts = r.accepts; goes_on = λ ys n h. by-theory b o (r.goes_on ys n h); any_limit = r.any_limit })

-- of any bytes at all
pub what-is-rescued-with-a-table : (b : ErrorBound) (o : Opening) → opening_value o < 2 ^ 32 → (buf : List ℕ) (used limit : ℕ) (words : List ℕ) (r : Beside MacaqueV)
    → table_rescue_answer buf used limit o b (length words) ≡ answered r → RescuesBeside b o limit used buf words r
unfolding rescue_answer rescue_memory table_rescue_answer table_rescue_memory table_rescue_table check_answer
what-is-rescued-with-a-table b o hl buf used limit words r h =
    let R = rescues.what-is-rescued-with-a-table (coder_of b (is_first o)) (writer.coder-good b (is_first o)) (opening_value o) hl buf used limit words r h in
    record { plain = R.plain; bytes = R.bytes; number = R.number; lent = R.lent; long = R.long; behind = R.behind; checks = R.checks }

-- what is refused: by its causes, or as the plain call refuses the bytes; buffer and words are as they were
pub a-refused-rescue-changes-nothing : (b : ErrorBound) (o : Opening) → opening_value o < 2 ^ 32 → (buf : List ℕ) (used limit : ℕ) (words : List ℕ) (f : Fault)
    → table_rescue_answer buf used limit o b (length words) ≡ refused f
    → (table_rescue_memory buf used limit o b (length words) ≡ buf) × (table_rescue_table buf used limit o b words ≡ words)
    × ((verdict (table_rescue_causes b (length buf) used limit (length words)) ≡ refused f)
    ⊎ ((verdict (table_rescue_causes b (length buf) used limit (length words)) ≡ answered tt) × (rescue_answer buf used limit o b ≡ refused f)))
unfolding rescue_answer table_rescue_answer table_rescue_memory table_rescue_table
a-refused-rescue-changes-nothing b o hl = rescues.what-is-refused-with-a-table (coder_of b (is_first o)) (writer.coder-good b (is_first o)) (opening_value o) hl
