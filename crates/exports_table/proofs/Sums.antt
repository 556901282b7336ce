-- The running sum through rows (document 02, W4), where a place table stands beside the stream: as through the rows of the plain calls. Assumes nothing.
use mathlib.Core.Path.{◌≡◌, refl, sym, ap, ◌∙◌}
use mathlib.Core.Bool.{Bool, true, false}
use mathlib.Core.Logic.{◌⊎◌}
use mathlib.Core.List.{List}
use Prim.Native.Nat.{ℕ, ◌^◌, ◌≤◌, ◌<◌}
use native.Mathlib.Omega.{arith}
use lib.ListN.{length, take, drop}
use lib.Ieee.{Float, binary32, of_bits}
use Rattle.bits.specs.Bits.{Below, bits_of}
use Rattle.models.specs.Answers.{Said, answered, refused, SaidOn, answered_on, refused_on, stateless, Cause, keeping}
use Rattle.models.specs.Limits.{most_values}
use Rattle.models.specs.declared.ErrorBound.{ErrorBound}
use Rattle.models.specs.declared.Fault.{Fault}
use Rattle.models.proofs.Judged.{not-answered}
use Rattle.models.proofs.Judged as judging
use Rattle.stream.specs.Format.{Stream}
use Rattle.stream.specs.Read.{Reading, done, stopped, read_n, read_all, state_read, checked, reopen}
use Rattle.places.specs.Calls as tables
use Rattle.places.specs.Calls.{Beside}
use Rattle.places.proofs.Any.{reads_in}
use Rattle.macaque_v.specs.State.{Known, stream_in, is_first, opening_value, opened}
use Rattle.macaque_v.specs.Write.{coder_of}
use Rattle.macaque_v.specs.Sums.{carried}
use Rattle.macaque_v.specs.declared.MacaqueV.{MacaqueV}
use Rattle.macaque_v.specs.declared.Opening.{Opening}
use Rattle.place_table.specs.Calls.{table_write_answer, table_write_memory, table_write_table, table_reopen_causes, table_reopen_answer}
use Rattle.place_table.specs.Sums.{with_sums_beside}
use Rattle.place_table.proofs.Sums.{the-sum-is-carried}
use Rattle.place_table.proofs.Promises.{reopening-with-a-table-is-the-plain-one}
use Rattle.exports.specs.Face.{bound_of, plain_fault, row_in, step_fault, step_row}
use Rattle.exports_stream.specs.Row.{written_row, stands_for_state, writer_in, length_word}
use Rattle.exports_stream.specs.Calls.{opening_of, count_in, write_fault, RowOfItsBytes, PlainSum, RowSumsAsTheCall, TenWords, row_of}
use Rattle.exports_stream.specs.Tabled.{beside_written, entries_after, table_write_said, table_write_fault, table_write_row, table_write_buffer, RowCarriesTheSumBeside}
use Rattle.exports_stream.proofs.Tabled.{no-state-refused}
use Rattle.exports.proofs.Numbers.{judged-so}
use Rattle.exports_stream.proofs.Sums.{AboveFour, read_above, end-above, none-of-them, row-of-the-reopened, a-row-sums, a-row-stays-of-its-bytes, a-written-row-sums, same-standing, other-writer, no-writer}
use Rattle.exports_table.specs.Calls.{beside_row, table_reopen_face_causes, table_reopen_said, table_reopen_fault, table_reopen_row, table_reopen_buffer}
use Rattle.exports_table.proofs.Promises.{a-write-with-a-table-is-the-plain-one}

-- ---- a write on a row of its bytes

module _ (mode value : ℕ) (mode-is : mode ≤ 1) (hl : opening_value (opening_of mode value) < 2 ^ 32) {buf row : List ℕ} (R : RowOfItsBytes mode value buf row) (small : Below 8 buf)
    (ys : List ℕ) (by : Below 32 ys) (words : List ℕ) (in_use : ℕ) (zero : (table_write_fault row ys buf words in_use).number ≡ 0) where
  plain-zero : (write_fault row ys buf).number ≡ 0
  plain-zero = ap (λ (f : Fault). f.number) (a-write-with-a-table-is-the-plain-one row ys buf words in_use zero).0

  pub a-row-stays-of-its-bytes-beside-its-table : RowOfItsBytes mode value (table_write_buffer row ys buf words in_use) (table_write_row row ys buf words in_use)
  a-row-stays-of-its-bytes-beside-its-table =
      let w = a-write-with-a-table-is-the-plain-one row ys buf words in_use zero in
      rw (w.1, w.2) (a-row-stays-of-its-bytes mode value mode-is hl R small ys by plain-zero).0

  pub a-written-row-sums-beside-its-table : PlainSum row ⊎ (0 < length ys) → (out : List ℕ) → 1 ≤ length out
      → RowSumsAsTheCall mode value (table_write_buffer row ys buf words in_use) (table_write_row row ys buf words in_use) out
  a-written-row-sums-beside-its-table h out room =
      let w = a-write-with-a-table-is-the-plain-one row ys buf words in_use zero in
      rw (w.1, w.2) (a-written-row-sums mode value mode-is hl R small ys by plain-zero h out room)

-- ---- a reopened row

abbrev Opened : Said (Beside MacaqueV) → Type 0
Opened q = (plain_fault q).number ≡ 0 → (r : Beside MacaqueV) × (q ≡ answered r)

opened-above : (b : ErrorBound) (first : Bool) (p q : Reading Known) → AboveFour p → AboveFour q → Opened (tables.resumed_beside (coder_of b first) (checked p (state_read q)))
opened-above b first (done vs t r) (done us u q) h k z = (_, refl)
opened-above b first (done vs t r) (stopped f) h k z = absurd (omega (arith, k, z))
opened-above b first (stopped f) q h k z = absurd (omega (arith, h, z))

a-reopening-told : (buf : List ℕ) (used n k : ℕ) (o : Opening) (b : ErrorBound) (words in_use : ℕ) → Opened (table_reopen_answer buf used n k o b words in_use)
unfolding table_reopen_answer reopen
a-reopening-told buf used n k o b words in_use =
    let S : Stream Known = stream_in (is_first o) in
    let bits : List Bool = bits_of (take used buf) in
    judged-so Opened refused (λ j pos z. absurd (omega (arith, pos, z))) (table_reopen_causes b (length buf) used n k words in_use)
    (omega arith, (omega arith, (omega arith, (omega arith, (omega arith, tt))))) _
    (opened-above b (is_first o) (read_all S n (opened o) bits) (read_n S k (opened o) bits) (end-above 0 n (read_n S n (opened o) bits) (reads_in S n (opened o) bits))
    (read_above 0 k (read_n S k (opened o) bits) (reads_in S k (opened o) bits)))

module _ (buf : List ℕ) (used count k mode value kind bound : ℕ) (row words : List ℕ) (in_use : ℕ) (mode-is : mode ≤ 1) (hl : opening_value (opening_of mode value) < 2 ^ 32)
    (zero : (table_reopen_fault buf used count k mode value kind bound row words in_use).number ≡ 0) where
  abbrev left : List ℕ
  left = table_reopen_buffer buf used count k mode value kind bound row words in_use

  abbrev after : List ℕ
  after = table_reopen_row buf used count k mode value kind bound row words in_use

  pub a-reopened-row-is-of-its-bytes-beside-its-table : RowOfItsBytes mode value left after × PlainSum after × (length_word after ≤ most_values)
  unfolding table_reopen_fault table_reopen_row table_reopen_buffer
  a-reopened-row-is-of-its-bytes-beside-its-table =
      let o : Opening = opening_of mode value in
      let b : ErrorBound = bound_of kind bound in
      let n : ℕ = count_in mode count in
      let causes : List Cause = table_reopen_face_causes buf used count k mode kind bound row words in_use in
      let told =
      none-of-them causes (omega arith, (omega arith, (omega arith, (omega arith, (omega arith, (omega arith, tt)))))) (plain_fault (table_reopen_said buf used count k mode value kind bound words in_use)) zero in
      let said = a-reopening-told buf used n k o b (length words) in_use told.1 in
      let w = reopening-with-a-table-is-the-plain-one b o buf used n k (length words) in_use hl said.0 said.1 in
      row-of-the-reopened mode value kind bound hl buf used n k said.0.writer w.plain after left (drop (length (beside_row said.0)) row)
      (sym (judging.accepted (keeping row) _ causes told.0) ∙ ap (row_in beside_row row) said.1) (sym (judging.accepted (keeping buf) _ causes told.0) ∙ w.bytes)

  pub a-reopened-row-sums-beside-its-table : (out : List ℕ) → 1 ≤ length out → RowSumsAsTheCall mode value left after out
  a-reopened-row-sums-beside-its-table out room = let r = a-reopened-row-is-of-its-bytes-beside-its-table in a-row-sums mode value mode-is r.0 r.1 r.2 out room

-- ---- another sum that is handed in

module _ (w : TenWords) (s t : ℕ) (hs : s < 2 ^ 32) (ht : t < 2 ^ 32) (rest xs buf words : List ℕ) (in_use : ℕ) where
  abbrev old : List ℕ
  old = row_of w s rest

  abbrev new : List ℕ
  new = row_of w t rest

  -- what an answer with another sum says through a row
  fault-of : (x y : Float) (q : SaidOn MacaqueV (Beside MacaqueV)) → step_fault (with_sums_beside x y q) ≡ step_fault q
  fault-of x y (answered_on r) = refl
  fault-of x y (refused_on f m) = refl

  number_of : (x y : Float) (q : SaidOn MacaqueV (Beside MacaqueV)) → entries_after in_use (stateless (with_sums_beside x y q)) ≡ entries_after in_use (stateless q)
  number_of x y (answered_on r) = refl
  number_of x y (refused_on f m) = refl

  front_of : (x y : Float) (q : SaidOn MacaqueV (Beside MacaqueV)) → take 10 (step_row (beside_written new) new (with_sums_beside x y q)) ≡ take 10 (step_row (beside_written old) old q)
  unfolding written_row
  front_of x y (answered_on r) = refl
  front_of x y (refused_on f m) = refl

  behind-of : (x y : Float) (q : SaidOn MacaqueV (Beside MacaqueV)) → drop 11 (step_row (beside_written new) new (with_sums_beside x y q)) ≡ drop 11 (step_row (beside_written old) old q)
  unfolding written_row
  behind-of x y (answered_on r) = refl
  behind-of x y (refused_on f m) = refl

  refused-row : (row : List ℕ) → stands_for_state row ≡ false → (q : SaidOn MacaqueV (Beside MacaqueV)) → table_write_said row xs buf words in_use ≡ q → step_row (beside_written row) row q ≡ row
  refused-row row h (answered_on r) e = absurd (not-answered (sym (no-state-refused row xs buf words in_use h) ∙ ap stateless e))
  refused-row row h (refused_on f m) e = refl

  pub a-row-carries-the-sum-beside-its-table : RowCarriesTheSumBeside w s t rest xs buf words in_use
  a-row-carries-the-sum-beside-its-table = go (stands_for_state old) refl
    where
      go : (b : Bool) → stands_for_state old ≡ b → RowCarriesTheSumBeside w s t rest xs buf words in_use
      go false h =
          let same = no-writer w s t hs ht rest h in
          let new-stays : table_write_row new xs buf words in_use ≡ new = refused-row new (same-standing w s t hs ht rest ∙ h) _ refl in
          let old-stays : table_write_row old xs buf words in_use ≡ old = refused-row old h _ refl in
          record {
            fault = ap (λ (m : MacaqueV). step_fault (table_write_answer m xs buf words in_use)) same;
            buffer = ap (λ (m : MacaqueV). table_write_memory m xs buf words in_use) same;
            table = ap (λ (m : MacaqueV). table_write_table m xs buf words in_use) same;
            number = ap (λ (m : MacaqueV). entries_after in_use (stateless (table_write_answer m xs buf words in_use))) same;
            others = ap (take 10) new-stays ∙ sym (ap (take 10) old-stays);
            behind = ap (drop 11) new-stays ∙ sym (ap (drop 11) old-stays);
          }
      go true h =
          let m : MacaqueV = writer_in old in
          let x : Float = of_bits binary32 t in
          let y : Float = carried m x xs in
          let C = the-sum-is-carried m x xs buf words in_use in
          let writer = other-writer w s t hs ht rest h in
          let q : SaidOn MacaqueV (Beside MacaqueV) = table_write_answer m xs buf words in_use in
          let is : table_write_answer (writer_in new) xs buf words in_use ≡ with_sums_beside x y q = ap (λ (n : MacaqueV). table_write_answer n xs buf words in_use) writer ∙ C.answer in
          record {
            fault = ap step_fault is ∙ fault-of x y q;
            buffer = ap (λ (n : MacaqueV). table_write_memory n xs buf words in_use) writer ∙ C.memory;
            table = ap (λ (n : MacaqueV). table_write_table n xs buf words in_use) writer ∙ C.table;
            number = ap (λ (z : SaidOn MacaqueV (Beside MacaqueV)). entries_after in_use (stateless z)) is ∙ number_of x y q;
            others = ap (λ (z : SaidOn MacaqueV (Beside MacaqueV)). take 10 (step_row (beside_written new) new z)) is ∙ front_of x y q;
            behind = ap (λ (z : SaidOn MacaqueV (Beside MacaqueV)). drop 11 (step_row (beside_written new) new z)) is ∙ behind-of x y q;
          }
