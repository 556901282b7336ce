-- The promises of the place table's C face: what is promised of the calls with a table is promised of rows too. The row, buffer, words and number that a call
-- leaves are what the next one begins with; the check accepts a stream's own table and no other; a range is that part of what the grid draws; and words that
-- stand for no state, or for no mode, are refused. Assumes nothing.
use mathlib.Core.Path.{◌≡◌, refl, sym, ap, ◌∙◌, subst}
use mathlib.Core.Bool.{true, false}
use mathlib.Core.List.{List, [], ◌∷◌, ◌++◌}
use Prim.Native.Nat.{ℕ, ◌+◌, ◌-◌, ◌*◌, ◌^◌, ◌≤◌, ◌<◌}
use native.Mathlib.Omega.{arith}
use borrow.Author.Tests.{le-ltb, le-leb, lt-leb}
use lib.Dec.{ltb}
use lib.ListN.{length, take, drop, length-drop}
use lib.Seq.{length-take-le, take-append-le, drop-append-le}
use Rattle.bits.specs.Bits.{Below, bits_of, whole_bytes}
use Rattle.bits.proofs.Below.{below-take}
use Rattle.models.specs.Answers.{fault, no_fault, Said, Done, answered, refused, SaidOn, answered_on, refused_on, stateless, Cause, ◌when◌, judge, itself, keeping, NoneHolds}
use Rattle.models.specs.declared.Fault.{Fault}
use Rattle.models.specs.Limits.{most_values}
use Rattle.models.specs.Bound.{bound_allowed}
use Rattle.models.specs.declared.ErrorBound.{ErrorBound}
use Rattle.models.specs.declared.ErrorBound.TheVariants.{Lossless}
use Rattle.models.proofs.Judged.{accepted, answered-only}
use Rattle.stream.specs.Format.{Stream}
use Rattle.stream.specs.Write.{kept_from}
use Rattle.stream.specs.Read.{read_all}
use Rattle.stream.specs.Calls.{values_read, drawn, drawn_in, grid_causes}
use Rattle.places.specs.Table.{entries, entries_for, entries_in}
use Rattle.places.specs.Calls.{entries_lent, table_in, Beside, OwnTable}
use Rattle.macaque_v.specs.State.{Known, stream_in, is_first, opening_value, opened}
use Rattle.macaque_v.specs.Made.{state_over, kept_of, Made}
use Rattle.macaque_v.specs.Size.{most_of}
use Rattle.macaque_v.specs.Calls.{write_answer}
use Rattle.macaque_v.specs.Read.{values_in, grid_answer, grid_memory}
use Rattle.macaque_v.specs.declared.MacaqueV.{MacaqueV}
use Rattle.macaque_v.specs.declared.Opening.{Opening}
use Rattle.macaque_v.proofs.Promises.{lossless-keeps-the-inputs}
use Rattle.place_table.specs.Calls.{table_reopen_causes, table_reopen_answer, table_reopen_memory, check_answer, range_answer, range_memory}
use Rattle.place_table.specs.Made.{MadeBeside, writer_over, over}
use Rattle.place_table.proofs.Promises as call
use Rattle.exports.specs.Face.{bound_of, plain_fault, row_in, no_state, step_fault, step_row}
use Rattle.exports.specs.Words.{bound_front}
use Rattle.exports.proofs.Back.{bound-of-held}
use Rattle.exports_stream.specs.Row.{writer_length, writer_row, written_row, stands_for_state, writer_in, bytes_in_use, length_word}
use Rattle.exports_stream.specs.Calls.{opening_of, count_in, new_fault, new_row, write_fault, write_row, write_buffer, grid_fault, grid_out, RowMade}
use Rattle.exports_stream.proofs.Words.{short-stands-for-none, written-long, own-words}
use Rattle.exports_stream.proofs.Promises.{row_made, place-word, length-word, a-new-row, a-row-goes-on, one_more}
use Rattle.exports_stream.specs.Tabled.{beside_written, entries_after, table_write_said, table_write_fault, table_write_row, table_write_buffer, table_write_words, table_write_entries}
use Rattle.exports_stream.proofs.Tabled.{no-state-refused, stands}
use Rattle.exports_table.specs.Calls.{beside_row, table_reopen_face_causes, table_reopen_said, table_reopen_left, table_reopen_fault, table_reopen_row, table_reopen_buffer, table_reopen_entries, table_check_fault, table_range_fault, table_range_out, RowMadeBeside, RowTableResumesAsOne}
use Rattle.exports_table.proofs.Told.{a-write-told, a-check-told, as-many-values, read-refused}

-- ---- a new row

-- beside what has no value stand no entries
no-entries : {b : ErrorBound} {o : Opening} {buf : List ℕ} {m : MacaqueV} → Made b o [] buf m → (words : List ℕ) → MadeBeside b o [] buf m words 0
unfolding table_in entries kept_from
no-entries M words = record { made = M; lent = omega arith; beside = refl }

-- an allowed bound, a mode and a row of eleven words are accepted, and nothing of the buffer and of the words is in use, whatever they hold
pub a-new-row-with-a-table : (kind bound mode value : ℕ) (row : List ℕ) → opening_value (opening_of mode value) < 2 ^ 32 → bound_allowed (bound_of kind bound) ≡ true
    → mode ≤ 1 → writer_length ≤ length row
    → (new_fault kind bound mode value row ≡ no_fault)
    × ((buf words : List ℕ) → RowMadeBeside (bound_of kind bound) (opening_of mode value) [] buf (new_row kind bound mode value row) words 0)
a-new-row-with-a-table kind bound mode value row hl ok mode-is words =
    let r = a-new-row kind bound mode value row hl ok mode-is words in
    (r.0, λ buf table. record { plain = r.1 buf; beside = no-entries (r.1 buf).made table })

-- ---- writing through a row, with any table

module _ (row xs buf words : List ℕ) (in_use : ℕ) where
  -- an accepted write with a table is the plain one, and leaves as many entries in use as the count asks for
  pub a-write-with-a-table-is-the-plain-one : (table_write_fault row xs buf words in_use).number ≡ 0
      → (write_fault row xs buf ≡ no_fault)
      × (table_write_row row xs buf words in_use ≡ write_row row xs buf)
      × (table_write_buffer row xs buf words in_use ≡ write_buffer row xs buf)
      × (table_write_entries row xs buf words in_use ≡ entries_for ((writer_in row).length + length xs))
  a-write-with-a-table-is-the-plain-one zero =
      let a = a-write-told (writer_in row) xs buf words in_use zero in
      let w = call.a-write-with-a-table-is-the-plain-one (writer_in row) xs buf words in_use a.0 a.1 in (
        ap step_fault w.plain,
        ap (step_row (beside_written row) row) a.1 ∙ sym (ap (step_row (written_row row) row) w.plain),
        w.bytes,
        ap (λ (q : SaidOn MacaqueV (Beside MacaqueV)). entries_after in_use (stateless q)) a.1 ∙ w.after,
      )

  -- where the plain one is refused, it is refused alike
  pub a-write-is-refused-as-the-plain-one : in_use ≡ entries_for (writer_in row).length → entries_for ((writer_in row).length + length xs) ≤ entries_lent (length words)
      → ((write_fault row xs buf).number ≡ 0 → ⊥) → table_write_fault row xs buf words in_use ≡ write_fault row xs buf
  a-write-is-refused-as-the-plain-one number room h = go (write_answer (writer_in row) xs buf) refl
    where
      go : (q : SaidOn MacaqueV MacaqueV) → write_answer (writer_in row) xs buf ≡ q → table_write_fault row xs buf words in_use ≡ write_fault row xs buf
      go (answered_on n) e = absurd (h (ap (λ (q : SaidOn MacaqueV MacaqueV). (step_fault q).number) e))
      go (refused_on f s) e = ap step_fault (call.a-write-is-refused-as-the-plain-one (writer_in row) xs buf words in_use number room f s e) ∙ sym (ap step_fault e)

  -- "and then neither buffer nor table nor state has changed", nor the number
  pub a-refused-write-changes-nothing : ((table_write_fault row xs buf words in_use).number ≡ 0 → ⊥)
      → (table_write_row row xs buf words in_use ≡ row)
      × (table_write_buffer row xs buf words in_use ≡ buf)
      × (table_write_words row xs buf words in_use ≡ words)
      × (table_write_entries row xs buf words in_use ≡ in_use)
  a-refused-write-changes-nothing h = go (table_write_said row xs buf words in_use) refl
    where
      go : (q : SaidOn MacaqueV (Beside MacaqueV)) → table_write_said row xs buf words in_use ≡ q
          → (table_write_row row xs buf words in_use ≡ row)
          × (table_write_buffer row xs buf words in_use ≡ buf)
          × (table_write_words row xs buf words in_use ≡ words)
          × (table_write_entries row xs buf words in_use ≡ in_use)
      go (answered_on r) e = absurd (h (ap (λ (q : SaidOn MacaqueV (Beside MacaqueV)). (step_fault q).number) e))
      go (refused_on f s) e =
          let u = call.a-refused-write-changes-nothing (writer_in row) xs buf words in_use f s e in (
            ap (step_row (beside_written row) row) e,
            u.1,
            u.2,
            ap (λ (q : SaidOn MacaqueV (Beside MacaqueV)). entries_after in_use (stateless q)) e,
          )

-- "An empty write changes nothing": neither the row nor the buffer, the words or the number, accepted or not, whatever they hold
pub an-empty-write-changes-nothing : (row buf words : List ℕ) (in_use : ℕ) → Below 8 buf
    → (table_write_row row [] buf words in_use ≡ row)
    × (table_write_buffer row [] buf words in_use ≡ buf)
    × (table_write_words row [] buf words in_use ≡ words)
    × (table_write_entries row [] buf words in_use ≡ in_use)
an-empty-write-changes-nothing row buf words in_use small =
    let n = call.an-empty-write-changes-nothing (writer_in row) buf words in_use small in
    let g = go (table_write_said row [] buf words in_use) refl in
    (g.0, n.1, n.2, g.1)
  where
    go : (q : SaidOn MacaqueV (Beside MacaqueV)) → table_write_said row [] buf words in_use ≡ q
        → (step_row (beside_written row) row (table_write_said row [] buf words in_use) ≡ row) × (entries_after in_use (stateless (table_write_said row [] buf words in_use)) ≡ in_use)
    go (answered_on r) e =
        let same = (call.an-empty-write-changes-nothing (writer_in row) buf words in_use small).0 r e in (
          ap (step_row (beside_written row) row) e
              ∙ ap (λ (m : MacaqueV). written_row row m ++ drop (length (written_row row m)) row) same.0
              ∙ ap (λ (k : ℕ). written_row row (writer_in row) ++ drop k row) (written-long row (writer_in row))
              ∙ own-words row (stands row [] buf words in_use r e),
          ap (λ (q : SaidOn MacaqueV (Beside MacaqueV)). entries_after in_use (stateless q)) e ∙ same.1,
        )
    go (refused_on f s) e = (ap (step_row (beside_written row) row) e, ap (λ (q : SaidOn MacaqueV (Beside MacaqueV)). entries_after in_use (stateless q)) e)

-- ---- writing through a row beside which stands its table

module _ {b : ErrorBound} {o : Opening} {xs buf row words : List ℕ} {in_use : ℕ} (R : RowMadeBeside b o xs buf row words in_use) (hl : opening_value o < 2 ^ 32) where
  -- an accepted write leaves the bytes, the row and the table of one fresh run
  pub a-row-goes-on-with-its-table : (ys : List ℕ) → Below 32 (xs ++ ys) → (table_write_fault row ys buf words in_use).number ≡ 0
      → RowMadeBeside b o (xs ++ ys) (table_write_buffer row ys buf words in_use) (table_write_row row ys buf words in_use) (table_write_words row ys buf words in_use)
      (table_write_entries row ys buf words in_use)
  a-row-goes-on-with-its-table ys by zero =
      let a = a-write-told (writer_in row) ys buf words in_use zero in
      let same = a-write-with-a-table-is-the-plain-one row ys buf words in_use zero in
      let after : List ℕ = table_write_row row ys buf words in_use in
      let left : List ℕ = table_write_buffer row ys buf words in_use in
      let laid : List ℕ = table_write_words row ys buf words in_use in
      let went = a-row-goes-on R.plain hl ys by (ap (λ (f : Fault). f.number) same.0) in
      let plain : RowMade b o (xs ++ ys) left after =
      subst (RowMade b o (xs ++ ys) left) (sym same.1) (subst (λ (l : List ℕ). RowMade b o (xs ++ ys) l (write_row row ys buf)) (sym same.2) went) in
      let made = call.a-write-adds-its-entries R.beside ys a.0 a.1 in
      let writer : a.0.writer ≡ writer_in after = made.made.writer ∙ sym plain.made.writer in
      let number : a.0.entries ≡ table_write_entries row ys buf words in_use = sym (ap (λ (q : SaidOn MacaqueV (Beside MacaqueV)). entries_after in_use (stateless q)) a.1) in
      record {
        plain = plain;
        beside = subst (MadeBeside b o (xs ++ ys) left (writer_in after) laid) number (subst (λ (m : MacaqueV). MadeBeside b o (xs ++ ys) left m laid a.0.entries) writer made);
      }

  -- and it is accepted, wherever room, count limit and lent entries allow
  pub a-row-with-its-table-is-accepted : Below 32 xs → bound_allowed b ≡ true → (ys : List ℕ) → length xs + length ys ≤ most_values
      → (state_over b o (xs ++ ys)).place ≤ 8 * length buf → entries_for (length xs + length ys) ≤ entries_lent (length words)
      → table_write_fault row ys buf words in_use ≡ no_fault
  a-row-with-its-table-is-accepted bx ok ys most room lent = ap step_fault (call.a-write-is-accepted R.beside bx hl ok ys most room lent)

  -- so where the bytes hold the most bits that n values can take, and the table their entries, what is left of n is accepted
  pub a-row-with-its-table-has-room : Below 32 xs → bound_allowed b ≡ true → (n : ℕ) → n ≤ most_values → whole_bytes (most_of n o) ≤ length buf → entries_for n ≤ entries_lent (length words)
      → (ys : List ℕ) → length xs + length ys ≤ n → table_write_fault row ys buf words in_use ≡ no_fault
  a-row-with-its-table-has-room bx ok n most room lent ys few = ap step_fault (call.a-write-has-room R.beside bx hl ok n most room lent ys few)

-- ---- reopening through a row

module _ (kind bound mode value : ℕ) (row : List ℕ) {xs buf : List ℕ} {m : MacaqueV} {words : List ℕ} {in_use : ℕ}
    (M : MadeBeside (bound_of kind bound) (opening_of mode value) xs buf m words in_use) (hl : opening_value (opening_of mode value) < 2 ^ 32) (bx : Below 32 xs)
    (ok : bound_allowed (bound_of kind bound) ≡ true) (most : length xs ≤ most_values) (mode-is : mode ≤ 1) (long-row : writer_length ≤ length row) (k : ℕ) (le : k ≤ length xs) where
  abbrev b : ErrorBound
  b = bound_of kind bound

  abbrev o : Opening
  o = opening_of mode value

  abbrev used : ℕ
  used = whole_bytes m.place

  abbrev said : Said (Beside MacaqueV)
  said = table_reopen_answer buf used (length xs) k o b (length words) in_use

  abbrev cut : List ℕ
  cut = table_reopen_memory buf used (length xs) k o b (length words) in_use

  abbrev now : MacaqueV
  now = writer_over b o (take k xs)

  abbrev causes : List Cause
  causes = table_reopen_causes b (length buf) used (length xs) k (length words) in_use

  opens : said ≡ answered (over b o (take k xs))
  opens = (call.reopening-keeps-the-entries-below M bx hl ok most k le).0

  none : NoneHolds causes
  unfolding table_reopen_answer
  none = (answered-only causes _ _ opens).0

  held : ltb (length row) writer_length ≡ false
  held = le-ltb (length row) writer_length long-row

  fault-is : table_reopen_fault buf used (length xs) k mode value kind bound row words in_use ≡ no_fault
  unfolding table_reopen_fault
  fault-is = rw (le-leb mode 1 mode-is) (one_more itself (plain_fault said) causes 4 (ltb (length row) writer_length) none held ∙ ap plain_fault opens)

  row_is : table_reopen_row buf used (length xs) k mode value kind bound row words in_use ≡ writer_row now ++ drop (length (writer_row now)) row
  unfolding table_reopen_row
  row_is = rw (le-leb mode 1 mode-is) (one_more (keeping row) (row_in beside_row row said) causes 4 (ltb (length row) writer_length) none held ∙ ap (row_in beside_row row) opens)

  buffer-is : table_reopen_buffer buf used (length xs) k mode value kind bound row words in_use ≡ cut
  unfolding table_reopen_buffer
  buffer-is = rw (le-leb mode 1 mode-is) (one_more (keeping buf) cut causes 4 (ltb (length row) writer_length) none held)

  number_is : table_reopen_entries buf used (length xs) k mode value kind bound row words in_use ≡ entries_for k
  unfolding table_reopen_entries
  number_is =
      rw (le-leb mode 1 mode-is)
      (one_more (keeping in_use) (entries_after in_use said) causes 4 (ltb (length row) writer_length) none held ∙ ap (entries_after in_use) opens ∙ ap entries_for (length-take-le k xs le))

  -- reopened at any k, the row stands for the writer after the first k inputs, the cut bytes are those of one fresh run over these, and exactly the entries
  -- below k stay, which are its table
  pub a-row-resumes-with-its-table : (table_reopen_fault buf used (length xs) k mode value kind bound row words in_use ≡ no_fault)
      × (table_reopen_entries buf used (length xs) k mode value kind bound row words in_use ≡ entries_for k)
      × RowMadeBeside (bound_of kind bound) (opening_of mode value) (take k xs) (table_reopen_buffer buf used (length xs) k mode value kind bound row words in_use)
      (table_reopen_row buf used (length xs) k mode value kind bound row words in_use) words (table_reopen_entries buf used (length xs) k mode value kind bound row words in_use)
  a-row-resumes-with-its-table =
      let made = (call.reopening-keeps-the-entries-below M bx hl ok most k le).2 in
      let plain = row_made made.made hl (below-take 32 k xs bx) (bound-of-held kind bound) _ row_is in
      let after : MacaqueV = writer_in (table_reopen_row buf used (length xs) k mode value kind bound row words in_use) in
      let beside : MadeBeside b o (take k xs) cut after words (entries_for k) =
      subst (λ (w : MacaqueV). MadeBeside b o (take k xs) cut w words (entries_for k)) (sym plain.made.writer) made in
      (fault-is, number_is, rw (buffer-is, number_is) (record { plain = plain; beside = beside }))

  -- as one theorem: any further list that room, count limit and lent entries allow is accepted through the reopened row, and leaves the bytes, the row and the
  -- table of one fresh run over the first k inputs and the list
  pub row-resumed-with-its-table : (ys : List ℕ) → Below 32 (take k xs ++ ys) → k + length ys ≤ most_values
      → (state_over (bound_of kind bound) (opening_of mode value) (take k xs ++ ys)).place ≤ 8 * length buf → entries_for (k + length ys) ≤ entries_lent (length words)
      → RowTableResumesAsOne xs buf used k mode value kind bound row words in_use ys
  row-resumed-with-its-table ys by few room lent =
      let r = a-row-resumes-with-its-table in
      let firsts : length (take k xs) ≡ k = length-take-le k xs le in
      let long = ap length buffer-is ∙ call.reopening-keeps-the-length b o buf used (length xs) k (length words) in_use hl in
      let zero = a-row-with-its-table-is-accepted r.2 hl (below-take 32 k xs bx) ok ys (omega arith) (omega (arith, room, long)) (omega arith) in
      record { opens = r.0; keeps = r.1; accepts = zero; made = a-row-goes-on-with-its-table r.2 hl ys by (ap (λ (f : Fault). f.number) zero) }

-- "leaves lent memory and state as they were": a refused reopening changes neither the row nor the buffer nor the number; the words never change
pub refused-keeps : {X : Type 0} (before after : X) (causes : List Cause) (q : Said (Beside MacaqueV)) → ((f : Fault) → q ≡ refused f → after ≡ before)
    → ((judge itself causes (plain_fault q)).number ≡ 0 → ⊥) → judge (keeping before) causes after ≡ before
unfolding judge
refused-keeps before after [] (answered r) same h = absurd (h refl)
refused-keeps before after [] (refused f) same h = same f refl
refused-keeps before after (n when true ∷ more) q same h = refl
refused-keeps before after (n when false ∷ more) q same h = refused-keeps before after more q same h

pub a-refused-reopening-changes-nothing : (buf : List ℕ) (used count k mode value kind bound : ℕ) (row words : List ℕ) (in_use : ℕ)
    → ((table_reopen_fault buf used count k mode value kind bound row words in_use).number ≡ 0 → ⊥)
    → (table_reopen_row buf used count k mode value kind bound row words in_use ≡ row)
    × (table_reopen_buffer buf used count k mode value kind bound row words in_use ≡ buf)
    × (table_reopen_entries buf used count k mode value kind bound row words in_use ≡ in_use)
unfolding table_reopen_fault table_reopen_row table_reopen_buffer table_reopen_entries
a-refused-reopening-changes-nothing buf used count k mode value kind bound row words in_use h =
    let causes : List Cause = table_reopen_face_causes buf used count k mode kind bound row words in_use in
    let q : Said (Beside MacaqueV) = table_reopen_said buf used count k mode value kind bound words in_use in (
      refused-keeps row (row_in beside_row row q) causes q (λ f e. ap (row_in beside_row row) e) h,
      refused-keeps buf (table_reopen_left buf used count k mode value kind bound words in_use) causes q
          (call.a-refused-reopening-changes-nothing (bound_of kind bound) (opening_of mode value) buf used (count_in mode count) k (length words) in_use) h,
      refused-keeps in_use (entries_after in_use q) causes q (λ f e. ap (entries_after in_use) e) h,
    )

-- ---- the check, and a range of what it accepts

module _ (bytes : List ℕ) (count mode value : ℕ) (words : List ℕ) (in_use : ℕ) (mode-is : mode ≤ 1) where
  -- the check accepts exactly if the stream is accepted and the table is its own
  pub the-check-accepts-exactly-its-own-table : ((table_check_fault bytes count mode value words in_use).number ≡ 0
      → OwnTable (stream_in (is_first (opening_of mode value))) (opening_value (opening_of mode value)) bytes count words in_use)
      × (OwnTable (stream_in (is_first (opening_of mode value))) (opening_value (opening_of mode value)) bytes count words in_use
      → table_check_fault bytes count mode value words in_use ≡ no_fault)
  unfolding table_check_fault
  the-check-accepts-exactly-its-own-table =
      let c = call.the-check-accepts-exactly-its-own-table (opening_of mode value) bytes count words in_use in
      rw (le-leb mode 1 mode-is) (λ zero. c.0 (a-check-told bytes count (opening_of mode value) words in_use zero), λ own. ap plain_fault (c.1 own))

  -- else it refuses: with 13 a number of entries that the count does not ask for, whatever the bytes and the entries hold; then what the grid refuses as the
  -- grid does, with value and place; and of an accepted stream any other table with 13
  pub the-check-counts-the-entries-first : count ≤ most_values → in_use ≤ entries_lent (length words) → (in_use ≡ entries_for count → ⊥)
      → table_check_fault bytes count mode value words in_use ≡ fault 13
  unfolding table_check_fault
  the-check-counts-the-entries-first few lent other =
      rw (le-leb mode 1 mode-is) (ap plain_fault (call.the-check-counts-the-entries-first (opening_of mode value) bytes count words in_use few lent other))

  pub the-check-refuses-what-the-grid-refuses : count ≤ most_values → in_use ≤ entries_lent (length words) → in_use ≡ entries_for count → (f : Fault)
      → values_in bytes count (opening_of mode value) ≡ refused f → table_check_fault bytes count mode value words in_use ≡ f
  unfolding table_check_fault
  the-check-refuses-what-the-grid-refuses few lent number f h =
      let S : Stream Known = stream_in (is_first (opening_of mode value)) in
      let r = read-refused (read_all S count (opened (opening_of mode value)) (bits_of bytes)) f h in
      rw (le-leb mode 1 mode-is)
      (ap plain_fault (call.the-check-refuses-what-reading-refuses (opening_of mode value) bytes count words in_use few lent number r.0 r.1) ∙ r.2)

  pub the-check-refuses-any-other-table : count ≤ most_values → in_use ≤ entries_lent (length words) → (vs : List ℕ) → values_in bytes count (opening_of mode value) ≡ answered vs
      → (table_in words in_use ≡ entries_in (stream_in (is_first (opening_of mode value))) count (opened (opening_of mode value)) (bits_of bytes) → ⊥)
      → table_check_fault bytes count mode value words in_use ≡ fault 13
  unfolding table_check_fault
  the-check-refuses-any-other-table few lent vs h other =
      rw (le-leb mode 1 mode-is) (ap plain_fault (call.the-check-refuses-any-other-table (opening_of mode value) bytes count words in_use few lent vs h other))

  module _ (hl : opening_value (opening_of mode value) < 2 ^ 32) (zero : (table_check_fault bytes count mode value words in_use).number ≡ 0) where
    own : OwnTable (stream_in (is_first (opening_of mode value))) (opening_value (opening_of mode value)) bytes count words in_use
    own = the-check-accepts-exactly-its-own-table.0 zero

    abbrev vs : List ℕ
    vs = own.belongs.values

    reads : values_in bytes count (opening_of mode value) ≡ answered vs
    reads = ap values_read own.belongs.reads

    as_many : length vs ≡ count
    as_many = as-many-values (stream_in (is_first (opening_of mode value))) count _ _ vs _ _ own.belongs.reads

    -- the grid draws them all
    all-drawn : (all : List ℕ) → count ≤ length all → (grid_fault bytes count mode value all ≡ no_fault) × (grid_out bytes count mode value all ≡ vs ++ drop count all)
    unfolding grid_fault grid_out grid_answer grid_memory
    all-drawn all room =
        let free : NoneHolds (grid_causes count (length all)) = (le-ltb most_values count own.few, (le-ltb (length all) count room, tt)) in
        rw (le-leb mode 1 mode-is) (
          sym (ap plain_fault (sym (ap drawn reads) ∙ accepted _ _ (grid_causes count (length all)) free)),
          sym (accepted (keeping all) _ (grid_causes count (length all)) free) ∙ ap (drawn_in all) reads ∙ ap (λ (n : ℕ). vs ++ drop n all) as_many,
        )

    part-of-all : (all : List ℕ) (p q : ℕ) → p ≤ q → q ≤ count → take (q - p) (drop p (vs ++ all)) ≡ take (q - p) (drop p vs)
    part-of-all all p q le most =
        ap (take (q - p)) (drop-append-le p vs all (omega (arith, as_many)))
        ∙ take-append-le (q - p) (drop p vs) all (omega (arith, as_many, length-drop p vs))

    -- a range of an accepted table is that part of what the grid draws; later places of the output stay
    pub a-range-is-that-part-of-the-grid : (all : List ℕ) → count ≤ length all → (p q : ℕ) → p ≤ q → q ≤ count → (out : List ℕ) → q - p ≤ length out
        → (grid_fault bytes count mode value all ≡ no_fault)
        × (table_range_fault bytes count mode value words in_use p q out ≡ no_fault)
        × (table_range_out bytes count mode value words in_use p q out ≡ take (q - p) (drop p (grid_out bytes count mode value all)) ++ drop (q - p) out)
    unfolding table_check_fault table_range_fault table_range_out
    a-range-is-that-part-of-the-grid all room p q le most out fits =
        let g = all-drawn all room in
        let ok : check_answer bytes count (opening_of mode value) words in_use ≡ answered tt =
        (call.the-check-accepts-exactly-its-own-table (opening_of mode value) bytes count words in_use).1 own in
        let r = call.a-range-is-that-part-of-the-reading (opening_of mode value) bytes count words in_use hl ok vs reads p q le most out fits in
        let part = ap (λ (l : List ℕ). take (q - p) (drop p l)) g.1 ∙ part-of-all (drop count all) p q le most in
        (g.0, rw (le-leb mode 1 mode-is) (ap plain_fault r.0), rw (le-leb mode 1 mode-is) (r.1 ∙ sym (ap (λ (l : List ℕ). l ++ drop (q - p) out) part)))

  -- "with p = q it answers no values", whatever the table and the output
  pub a-range-of-no-values : (p : ℕ) (out : List ℕ) → count ≤ most_values → p ≤ count
      → (table_range_fault bytes count mode value words in_use p p out ≡ no_fault) × (table_range_out bytes count mode value words in_use p p out ≡ out)
  unfolding table_range_fault table_range_out
  a-range-of-no-values p out few most =
      let r = call.a-range-of-no-values (opening_of mode value) bytes count words in_use p out few most in
      rw (le-leb mode 1 mode-is) (ap plain_fault r.0, r.1)

-- "no data": a refused range leaves the output as it was
pub a-refused-range-changes-nothing : (bytes : List ℕ) (count mode value : ℕ) (words : List ℕ) (in_use p q : ℕ) (out : List ℕ)
    → ((table_range_fault bytes count mode value words in_use p q out).number ≡ 0 → ⊥) → table_range_out bytes count mode value words in_use p q out ≡ out
unfolding table_range_fault table_range_out
a-refused-range-changes-nothing bytes count mode value words in_use p q out h =
    go (range_answer bytes (count_in mode count) (opening_of mode value) words in_use p q (length out)) refl
  where
    go : (x : Said Done) → range_answer bytes (count_in mode count) (opening_of mode value) words in_use p q (length out) ≡ x
        → range_memory bytes (count_in mode count) (opening_of mode value) words in_use p q out ≡ out
    go (answered u) e = absurd (h (ap (λ (x : Said Done). (plain_fault x).number) e))
    go (refused f) e = call.a-refused-range-changes-nothing (opening_of mode value) bytes (count_in mode count) words in_use p q out f e

-- ---- the same of rows that were written

module _ {b : ErrorBound} (mode value : ℕ) {xs buf row words : List ℕ} {in_use : ℕ} (R : RowMadeBeside b (opening_of mode value) xs buf row words in_use) (mode-is : mode ≤ 1)
    (hl : opening_value (opening_of mode value) < 2 ^ 32) (bx : Below 32 xs) (most : length xs ≤ most_values) where
  bytes-are : bytes_in_use row buf ≡ take (whole_bytes (writer_in row).place) buf
  bytes-are = ap (λ (p : ℕ). take (whole_bytes p) buf) (sym (place-word R.plain))

  -- the bytes in use and the count that the row tells are accepted by the check, with the table
  pub a-made-table-is-accepted : table_check_fault (bytes_in_use row buf) (length_word row) mode value words in_use ≡ no_fault
  unfolding table_check_fault
  a-made-table-is-accepted =
      rw (le-leb mode 1 mode-is, bytes-are, length-word R.plain) (ap plain_fault (call.a-made-table-is-accepted R.beside bx hl most))

  -- and a range of them is the kept values p to q − 1; later places of the output stay
  pub a-made-range : (p q : ℕ) → p ≤ q → q ≤ length xs → (out : List ℕ) → q - p ≤ length out
      → (table_range_fault (bytes_in_use row buf) (length_word row) mode value words in_use p q out ≡ no_fault)
      × (table_range_out (bytes_in_use row buf) (length_word row) mode value words in_use p q out ≡ take (q - p) (drop p (kept_of b (opening_of mode value) xs)) ++ drop (q - p) out)
  unfolding table_range_fault table_range_out
  a-made-range p q le few out fits =
      let r = call.a-made-range R.beside bx hl most p q le few out fits in
      rw (le-leb mode 1 mode-is, bytes-are, length-word R.plain) (ap plain_fault r.0, r.1)

-- lossless: the inputs p to q − 1
pub a-lossless-made-range : (mode value : ℕ) {xs buf row words : List ℕ} {in_use : ℕ} → RowMadeBeside Lossless (opening_of mode value) xs buf row words in_use → mode ≤ 1
    → opening_value (opening_of mode value) < 2 ^ 32 → Below 32 xs → length xs ≤ most_values → (p q : ℕ) → p ≤ q → q ≤ length xs → (out : List ℕ) → q - p ≤ length out
    → (table_range_fault (bytes_in_use row buf) (length_word row) mode value words in_use p q out ≡ no_fault)
    × (table_range_out (bytes_in_use row buf) (length_word row) mode value words in_use p q out ≡ take (q - p) (drop p xs) ++ drop (q - p) out)
a-lossless-made-range mode value {xs = xs} R mode-is hl bx most p q le few out fits =
    let r = a-made-range mode value R mode-is hl bx most p q le few out fits in
    (r.0, r.1 ∙ ap (λ (l : List ℕ). take (q - p) (drop p l) ++ drop (q - p) out) (lossless-keeps-the-inputs (opening_of mode value) xs))

-- ---- words that stand for no state, or for no mode

-- a row that stands for no state, one that is too short among them, is refused with 2; where its bound is there and is not allowed, with 1 first
pub no-state-is-2 : (row xs buf words : List ℕ) (in_use : ℕ) → stands_for_state row ≡ false → table_write_fault row xs buf words in_use ≡ no_state (bound_allowed (bound_front row))
no-state-is-2 row xs buf words in_use h = ap plain_fault (no-state-refused row xs buf words in_use h)

pub a-short-row-is-2 : (row xs buf words : List ℕ) (in_use : ℕ) → length row < writer_length → table_write_fault row xs buf words in_use ≡ no_state (bound_allowed (bound_front row))
a-short-row-is-2 row xs buf words in_use h = no-state-is-2 row xs buf words in_use (short-stands-for-none row h)

-- a mode above 1 is refused with 3: in the reopening after the bound
pub no-mode-is-3-in-a-check : (bytes : List ℕ) (count mode value : ℕ) (words : List ℕ) (in_use : ℕ) → 1 < mode → table_check_fault bytes count mode value words in_use ≡ fault 3
unfolding table_check_fault check_answer judge
no-mode-is-3-in-a-check bytes count mode value words in_use h = rw (lt-leb mode 1 h)

pub no-mode-is-3-in-a-range : (bytes : List ℕ) (count mode value : ℕ) (words : List ℕ) (in_use p q : ℕ) (out : List ℕ) → 1 < mode
    → table_range_fault bytes count mode value words in_use p q out ≡ fault 3
unfolding table_range_fault range_answer judge
no-mode-is-3-in-a-range bytes count mode value words in_use p q out h = rw (lt-leb mode 1 h)

pub no-mode-is-3-in-a-reopening : (buf : List ℕ) (used count k mode value kind bound : ℕ) (row words : List ℕ) (in_use : ℕ) → bound_allowed (bound_of kind bound) ≡ true → 1 < mode
    → table_reopen_fault buf used count k mode value kind bound row words in_use ≡ fault 3
unfolding table_reopen_fault judge
no-mode-is-3-in-a-reopening buf used count k mode value kind bound row words in_use ok h = rw (lt-leb mode 1 h, ok)
