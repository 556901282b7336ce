-- The promises of rescue with a place table through a row: the table that it makes anew is that of what it keeps. Assumes nothing.
use mathlib.Core.Path.{◌≡◌, refl, sym, ap, ap₂, ◌∙◌, subst}
use mathlib.Core.Bool.{true, false}
use mathlib.Core.List.{List, ◌++◌}
use mathlib.Core.Logic.{◌⊎◌, inl, inr}
use Prim.Native.Nat.{ℕ, ◌^◌, ◌≤◌, ◌<◌}
use native.Mathlib.Omega.{arith}
use borrow.Author.Tests.{le-ltb, le-leb, lt-leb, ltb-false}
use lib.Dec.{ltb}
use lib.ListN.{length, take, drop}
use lib.Seq.{length-take-le}
use Rattle.bits.specs.Bits.{Below, bits_of, whole_bytes}
use Rattle.bits.proofs.Below.{below-take, below-append}
use Rattle.models.specs.Answers.{fault, no_fault, Said, answered, refused, Cause, judge, itself, keeping, NoneHolds, verdict}
use Rattle.models.specs.Limits.{most_values}
use Rattle.models.specs.Bound.{bound_allowed}
use Rattle.models.specs.declared.ErrorBound.{ErrorBound}
use Rattle.models.proofs.Judged.{answered-only}
use Rattle.stream.specs.Format.{Stream}
use Rattle.stream.specs.Read.{Reading, done, stopped, state_read}
use Rattle.stream.specs.Rescue.{read_whole}
use Rattle.stream.proofs.Rescue.{ArrivedOf, arrived}
use Rattle.places.specs.Table.{entries_for}
use Rattle.places.specs.Calls.{Beside, entries_lent, resumed_beside}
use Rattle.macaque_v.specs.State.{Known, stream_in, writer_of, is_first, opening_value, opened}
use Rattle.macaque_v.specs.Write.{coder_of}
use Rattle.macaque_v.specs.Made.{Made}
use Rattle.macaque_v.specs.Rescued.{Saves}
use Rattle.macaque_v.specs.declared.MacaqueV.{MacaqueV}
use Rattle.macaque_v.specs.declared.Opening.{Opening}
use Rattle.macaque_v.proofs.Promises.{rescue-keeps-what-arrived}
use Rattle.place_table.specs.Calls.{table_write_answer, table_rescue_causes, table_rescue_answer, table_rescue_memory, table_rescue_table}
use Rattle.place_table.specs.Made.{MadeBeside, over}
use Rattle.place_table.specs.Rescued.{RescuesBeside, SavesBeside}
use Rattle.place_table.proofs.Promises as call
use Rattle.exports.specs.Face.{bound_of, plain_fault, row_in, step_fault}
use Rattle.exports.proofs.Back.{bound-of-held}
use Rattle.exports_stream.specs.Row.{writer_length, writer_row, place_word, length_word}
use Rattle.exports_stream.specs.Calls.{opening_of, count_in}
use Rattle.exports_stream.specs.Tabled.{entries_after}
use Rattle.exports.proofs.Numbers.{judged-so}
use Rattle.exports_stream.proofs.Promises.{row_made, one_more}
use Rattle.exports_stream.proofs.Rescue.{fault-tells, place_in, length-in, rescued-fault, rescued-row, rescued-buffer}
use Rattle.exports_stream.proofs.Sums.{none-of-them}
use Rattle.exports_table.specs.Calls.{beside_row, table_check_fault, RowMadeBeside}
use Rattle.exports_table.specs.Rescue.{table_rescue_face_causes, table_rescue_said, table_rescue_fault, table_rescue_row, table_rescue_buffer, table_rescue_words, table_rescue_entries, Afterwards, rescued_into, RowSavesBeside, RowRescuesBeside}
use Rattle.exports_table.proofs.Promises.{refused-keeps, a-row-goes-on-with-its-table}

-- ---- where the call behind answers a writer and its entries

module _ (kind bound mode value : ℕ) (row : List ℕ) (mode-is : mode ≤ 1) (long-row : writer_length ≤ length row) (buf : List ℕ) (used limit : ℕ) (words : List ℕ) (in_use : ℕ) (now : Beside MacaqueV)
    (opens : table_rescue_answer buf used limit (opening_of mode value) (bound_of kind bound) (length words) ≡ answered now) where
  abbrev said : Said (Beside MacaqueV)
  said = table_rescue_answer buf used limit (opening_of mode value) (bound_of kind bound) (length words)

  abbrev causes : List Cause
  causes = table_rescue_causes (bound_of kind bound) (length buf) used limit (length words)

  none : NoneHolds causes
  unfolding table_rescue_answer
  none = (answered-only causes _ now opens).0

  held : ltb (length row) writer_length ≡ false
  held = le-ltb (length row) writer_length long-row

  fault-is : table_rescue_fault buf used limit mode value kind bound row words ≡ no_fault
  unfolding table_rescue_fault
  fault-is = rw (le-leb mode 1 mode-is) (one_more itself (plain_fault said) causes 4 (ltb (length row) writer_length) none held ∙ ap plain_fault opens)

  row_is : table_rescue_row buf used limit mode value kind bound row words ≡ writer_row now.writer ++ drop (length (writer_row now.writer)) row
  unfolding table_rescue_row
  row_is = rw (le-leb mode 1 mode-is) (one_more (keeping row) (row_in beside_row row said) causes 4 (ltb (length row) writer_length) none held ∙ ap (row_in beside_row row) opens)

  buffer-is : table_rescue_buffer buf used limit mode value kind bound row words ≡ table_rescue_memory buf used limit (opening_of mode value) (bound_of kind bound) (length words)
  unfolding table_rescue_buffer
  buffer-is = rw (le-leb mode 1 mode-is) (one_more (keeping buf) _ causes 4 (ltb (length row) writer_length) none held)

  words_are : table_rescue_words buf used limit mode value kind bound row words ≡ table_rescue_table buf used limit (opening_of mode value) (bound_of kind bound) words
  unfolding table_rescue_words
  words_are = rw (le-leb mode 1 mode-is) (one_more (keeping words) _ causes 4 (ltb (length row) writer_length) none held)

  number_is : table_rescue_entries buf used limit mode value kind bound row words in_use ≡ now.entries
  unfolding table_rescue_entries
  number_is = rw (le-leb mode 1 mode-is) (one_more (keeping in_use) (entries_after in_use said) causes 4 (ltb (length row) writer_length) none held ∙ ap (entries_after in_use) opens)

-- ---- a stream that was cut at any byte

module _ (kind bound mode value : ℕ) (row : List ℕ) (mode-is : mode ≤ 1) (long-row : writer_length ≤ length row) (hl : opening_value (opening_of mode value) < 2 ^ 32) (ok : bound_allowed (bound_of kind bound) ≡ true)
    {xs all : List ℕ} {m : MacaqueV} (M : Made (bound_of kind bound) (opening_of mode value) xs all m) (bx : Below 32 xs) (most : length xs ≤ most_values)
    (j : ℕ) (within : j ≤ whole_bytes m.place) (buf : List ℕ) (same : take j buf ≡ take j all) (words : List ℕ) (lent : entries_for (length xs) ≤ entries_lent (length words)) (in_use : ℕ) where
  abbrev b : ErrorBound
  b = bound_of kind bound

  abbrev o : Opening
  o = opening_of mode value

  abbrev is : Afterwards
  is = rescued_into buf j (length xs) mode value kind bound row words in_use

  R : Saves b o xs j buf
  R = rescue-keeps-what-arrived M bx hl ok most j within buf same

  B : SavesBeside b o xs j buf words R.number
  B = call.rescue-keeps-what-arrived-with-a-table R bx hl ok words lent

  abbrev now : Beside MacaqueV
  now = over b o (take R.number xs)

  row_now : is.row ≡ writer_row now.writer ++ drop (length (writer_row now.writer)) row
  row_now = row_is kind bound mode value row mode-is long-row buf j (length xs) words in_use now B.answers

  buffer-now : is.buffer ≡ table_rescue_memory buf j (length xs) o b (length words)
  buffer-now = buffer-is kind bound mode value row mode-is long-row buf j (length xs) words in_use now B.answers

  words-now : is.words ≡ table_rescue_table buf j (length xs) o b words
  words-now = words_are kind bound mode value row mode-is long-row buf j (length xs) words in_use now B.answers

  number-now : is.entries ≡ entries_for R.number
  number-now = number_is kind bound mode value row mode-is long-row buf j (length xs) words in_use now B.answers ∙ ap entries_for (length-take-le R.number xs R.few)

  made : RowMadeBeside b o (take R.number xs) is.buffer is.row is.words is.entries
  made =
      let firsts : Below 32 (take R.number xs) = below-take 32 R.number xs bx in
      let plain = row_made B.made.made hl firsts (bound-of-held kind bound) _ row_now in
      let beside = subst (λ (w : MacaqueV). MadeBeside b o (take R.number xs) (table_rescue_memory buf j (length xs) o b (length words)) w (table_rescue_table buf j (length xs) o b words) (entries_for R.number))
      (sym plain.made.writer) B.made in
      rw (buffer-now, words-now, number-now) (record { plain = plain; beside = beside })

  pub a-row-is-rescued-with-a-table : RowSavesBeside mode value kind bound xs j buf row words in_use
  a-row-is-rescued-with-a-table =
      record {
        saves = R;
        opens = fault-is kind bound mode value row mode-is long-row buf j (length xs) words in_use now B.answers;
        number = number-now;
        made = made;
        accepts = λ ys few room more.
            ap step_fault
            (ap (λ (w : MacaqueV). table_write_answer w ys is.buffer is.words is.entries) made.plain.made.writer
            ∙ ap (λ (z : List ℕ). table_write_answer now.writer ys z is.words is.entries) buffer-now
            ∙ ap₂ (λ (z : List ℕ) (n : ℕ). table_write_answer now.writer ys (table_rescue_memory buf j (length xs) o b (length words)) z n) words-now number-now ∙ B.accepts ys few room more);
        goes_on = λ ys by zero. a-row-goes-on-with-its-table made hl ys (below-append 32 (take R.number xs) ys (below-take 32 R.number xs bx) by) zero;
        any_limit = λ lt i le few held other.
            let a = B.any_limit lt i le few held in
            let answers = a.0 ∙ B.answers in
            let same_row = row_is kind bound mode value row mode-is long-row buf j i words other now answers ∙ sym row_now in
            let same-buffer = buffer-is kind bound mode value row mode-is long-row buf j i words other now answers ∙ a.1 ∙ sym buffer-now in
            let same-words = words_are kind bound mode value row mode-is long-row buf j i words other now answers ∙ a.2 ∙ sym words-now in
            let same_number = number_is kind bound mode value row mode-is long-row buf j i words other now answers
            ∙ sym (number_is kind bound mode value row mode-is long-row buf j (length xs) words in_use now B.answers) in (
              fault-is kind bound mode value row mode-is long-row buf j i words other now answers,
              rw (same_row, same-buffer, same-words, same_number) refl,
            );
      }

-- ---- any bytes at all

abbrev Opened : Said (Beside MacaqueV) → Type 0
Opened q = (plain_fault q).number ≡ 0 → (r : Beside MacaqueV) × (q ≡ answered r)

a-rescue-told : (buf : List ℕ) (used limit : ℕ) (o : Opening) (b : ErrorBound) (words : ℕ) → Opened (table_rescue_answer buf used limit o b words)
unfolding table_rescue_answer
a-rescue-told buf used limit o b words =
    judged-so Opened refused (λ j pos z. absurd (omega (arith, pos, z))) (table_rescue_causes b (length buf) used limit words) (omega arith, (omega arith, (omega arith, (omega arith, tt)))) _
    (go (read_whole S limit (opened o) (bits_of (take used buf))) (arrived S limit (opened o) (bits_of (take used buf))))
  where
    S : Stream Known
    S = stream_in (is_first o)

    go : (q : Reading Known) → ArrivedOf S limit (opened o) (bits_of (take used buf)) q → Opened (resumed_beside (coder_of b (is_first o)) (state_read q))
    go (done vs t r) a z = (record { writer = writer_of b (is_first o) t; entries = entries_for t.count }, refl)
    go (stopped f) d z = absurd (numbered d.other)
      where
        numbered : (f.no ≡ 6) ⊎ (f.no ≡ 7) → ⊥
        numbered (inl e) = omega (arith, e, z)
        numbered (inr e) = omega (arith, e, z)

module _ (mode value kind bound limit used : ℕ) (buf row words : List ℕ) (in_use : ℕ) (mode-is : mode ≤ 1) (hl : opening_value (opening_of mode value) < 2 ^ 32)
    (zero : (table_rescue_fault buf used limit mode value kind bound row words).number ≡ 0) where
  told : NoneHolds (table_rescue_face_causes buf used limit mode kind bound row words) × ((plain_fault (table_rescue_said buf used limit mode value kind bound words)).number ≡ 0)
  unfolding table_rescue_fault
  told =
      none-of-them (table_rescue_face_causes buf used limit mode kind bound row words) (omega arith, (omega arith, (omega arith, (omega arith, (omega arith, tt)))))
      (plain_fault (table_rescue_said buf used limit mode value kind bound words)) zero

  answers : (r : Beside MacaqueV) × (table_rescue_answer buf used limit (opening_of mode value) (bound_of kind bound) (length words) ≡ answered r)
  answers =
      let s = a-rescue-told buf used (count_in mode limit) (opening_of mode value) (bound_of kind bound) (length words) told.1 in
      (s.0, subst (λ (n : ℕ). table_rescue_answer buf used n (opening_of mode value) (bound_of kind bound) (length words) ≡ answered s.0) in-mode s.1)
    where
      in-mode : count_in mode limit ≡ limit
      in-mode = rw (le-leb mode 1 mode-is)

  pub a-rescued-row-with-a-table : RowRescuesBeside mode value kind bound limit used buf row words in_use
  unfolding table_check_fault
  a-rescued-row-with-a-table =
      let o : Opening = opening_of mode value in
      let b : ErrorBound = bound_of kind bound in
      let r : Beside MacaqueV = answers.0 in
      let a = answers.1 in
      let long : writer_length ≤ length row = ltb-false (length row) writer_length told.0.1.1.1.1.0 in
      let Q : RescuesBeside b o limit used buf words r = call.what-is-rescued-with-a-table b o hl buf used limit words r a in
      let rest : List ℕ = drop (length (writer_row r.writer)) row in
      let row_now = row_is kind bound mode value row mode-is long buf used limit words in_use r a in
      let buffer-now = buffer-is kind bound mode value row mode-is long buf used limit words in_use r a in
      let words-now = words_are kind bound mode value row mode-is long buf used limit words in_use r a in
      let number-now = number_is kind bound mode value row mode-is long buf used limit words in_use r a in
      let count = ap length_word row_now ∙ length-in r.writer rest in
      let place = ap place_word row_now ∙ place_in r.writer rest in
      record {
        plain = rescued-fault kind bound mode value row mode-is long buf used limit r.writer Q.plain;
        same_row = row_now ∙ sym (rescued-row kind bound mode value row mode-is long buf used limit r.writer Q.plain);
        same_buffer = buffer-now ∙ Q.bytes ∙ sym (rescued-buffer kind bound mode value row mode-is long buf used limit r.writer Q.plain);
        checks = rw (le-leb mode 1 mode-is, count, place, buffer-now, words-now, number-now) (ap plain_fault Q.checks);
        number = number-now ∙ Q.number ∙ ap entries_for (sym count);
        behind = rw (words-now, number-now) Q.behind;
      }

-- ---- what is refused

-- what is refused: by the causes of the row, or as the call behind refuses it, its number, value and place
pub what-a-rescued-row-refuses : (buf : List ℕ) (used limit mode value kind bound : ℕ) (row words : List ℕ) → ((table_rescue_fault buf used limit mode value kind bound row words).number ≡ 0 → ⊥)
    → (verdict (table_rescue_face_causes buf used limit mode kind bound row words) ≡ refused (table_rescue_fault buf used limit mode value kind bound row words))
    ⊎ ((verdict (table_rescue_face_causes buf used limit mode kind bound row words) ≡ answered tt)
    × (table_rescue_said buf used limit mode value kind bound words ≡ refused (table_rescue_fault buf used limit mode value kind bound row words)))
unfolding table_rescue_fault
what-a-rescued-row-refuses buf used limit mode value kind bound row words =
    fault-tells (table_rescue_face_causes buf used limit mode kind bound row words) (table_rescue_said buf used limit mode value kind bound words)

-- a refusal leaves the row, the buffer, the words and the number as they were
pub a-refused-rescue-changes-nothing : (buf : List ℕ) (used limit mode value kind bound : ℕ) (row words : List ℕ) (in_use : ℕ) → opening_value (opening_of mode value) < 2 ^ 32
    → ((table_rescue_fault buf used limit mode value kind bound row words).number ≡ 0 → ⊥)
    → (table_rescue_row buf used limit mode value kind bound row words ≡ row)
    × (table_rescue_buffer buf used limit mode value kind bound row words ≡ buf)
    × (table_rescue_words buf used limit mode value kind bound row words ≡ words)
    × (table_rescue_entries buf used limit mode value kind bound row words in_use ≡ in_use)
unfolding table_rescue_fault table_rescue_row table_rescue_buffer table_rescue_words table_rescue_entries
a-refused-rescue-changes-nothing buf used limit mode value kind bound row words in_use hl nonzero =
    let o : Opening = opening_of mode value in
    let b : ErrorBound = bound_of kind bound in
    let n : ℕ = count_in mode limit in
    let causes : List Cause = table_rescue_face_causes buf used limit mode kind bound row words in
    let q : Said (Beside MacaqueV) = table_rescue_said buf used limit mode value kind bound words in (
      refused-keeps row _ causes q (λ f e. ap (row_in beside_row row) e) nonzero,
      refused-keeps buf _ causes q (λ f e. (call.a-refused-rescue-changes-nothing b o hl buf used n words f e).0) nonzero,
      refused-keeps words _ causes q (λ f e. (call.a-refused-rescue-changes-nothing b o hl buf used n words f e).1) nonzero,
      refused-keeps in_use _ causes q (λ f e. ap (entries_after in_use) e) nonzero,
    )

-- a mode above 1 is 3, after the bound
pub no-mode-is-3-in-a-rescue : (buf : List ℕ) (used limit mode value kind bound : ℕ) (row words : List ℕ) → bound_allowed (bound_of kind bound) ≡ true → 1 < mode
    → table_rescue_fault buf used limit mode value kind bound row words ≡ fault 3
unfolding table_rescue_fault judge
no-mode-is-3-in-a-rescue buf used limit mode value kind bound row words ok h = rw (ok, lt-leb mode 1 h)
