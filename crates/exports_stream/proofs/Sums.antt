-- The running sum through rows (document 02, W4): after a reopening of any accepted stream, and after a write on a row of its bytes, the row's word of the sum is
-- what the sum call of the C face answers on the bytes in use; and another sum that is handed in moves no other word. Assumes nothing.
use mathlib.Core.Path.{◌≡◌, refl, sym, ap, ◌∙◌, subst}
use mathlib.Core.Bool.{Bool, true, false, cond}
use mathlib.Core.List.{List, [], ◌∷◌, ◌++◌}
use mathlib.Core.Logic.{◌⊎◌, inl, inr}
use mathlib.Core.Option.{Option, none, some}
use Prim.Native.Nat.{ℕ, ◌^◌, ◌≤◌, ◌<◌}
use native.Mathlib.Omega.{arith}
use borrow.Author.Tests.{le-leb, lt-ltb, eq-eqb, ne_eqb}
use lib.Dec.{eqb}
use lib.ListN.{length, take, drop}
use lib.Ieee.{Float, binary32, of_bits, to_bits}
use lib.Ieee.Bits.{of_bits-to_bits}
use Rattle.bits.specs.Bits.{Below, bits_of, whole_bytes}
use Rattle.models.specs.Answers.{no_fault, Said, answered, refused, SaidOn, answered_on, refused_on, stateless, Cause, ◌when◌, judge, itself, keeping, NoneHolds}
use Rattle.models.specs.declared.Fault.{Fault}
use Rattle.models.specs.Limits.{most_values}
use Rattle.models.specs.Bound.{bound_allowed, BoundHeld}
use Rattle.models.proofs.Judged.{not-answered, same-answer-on}
use Rattle.models.proofs.Judged as judging
use Rattle.stream.specs.Format.{Stream}
use Rattle.stream.specs.Write as write
use Rattle.stream.specs.Write.{kept_from}
use Rattle.stream.specs.Read.{Reading, done, stopped, read_n, leftover, ended_by, ended, read_all, state_read, checked, reopen}
use Rattle.stream.specs.Calls.{resumed}
use Rattle.places.proofs.Any.{ReadsIn, reads_in}
use Rattle.models.specs.declared.ErrorBound.{ErrorBound}
use Rattle.macaque_v.specs.State.{Known, stream_in, writer_of, is_first, opening_value, opened}
use Rattle.macaque_v.specs.Write.{writer_at, coder_of, wrote_by}
use Rattle.macaque_v.specs.Calls.{write_answer, write_memory}
use Rattle.macaque_v.specs.Read.{sum_answer, reopen_causes, reopen_answer, reopen_memory}
use Rattle.macaque_v.specs.Sums.{OfItsBytes, with_sum, carried, with_sums}
use Rattle.macaque_v.specs.Made.{WordsSmall}
use Rattle.macaque_v.specs.declared.MacaqueV.{MacaqueV}
use Rattle.macaque_v.specs.declared.Opening.{Opening}
use Rattle.macaque_v.proofs.Sums.{its-sum, a-made-writer-is-of-its-bytes, a-reopened-writer-is-of-its-bytes, a-write-stays-of-its-bytes, a-written-writer-is-held, the-sum-is-carried}
use Rattle.macaque_v.proofs.Writing.{written_count}
use Rattle.exports.specs.Face.{bound_of, fault_said, row_in, row_after, plain_fault, no_state, step_fault, step_row}
use Rattle.exports.specs.Words.{small, bound_front}
use Rattle.exports_stream.specs.Row.{writer_row, written_row, sum_word, sum_after, stands_for_state, read_writer, spoiled_writer, writer_in, bytes_in_use, length_word}
use Rattle.exports_stream.specs.Calls.{opening_of, count_in, reopen_face_causes, reopen_said, reopen_fault, reopen_row, reopen_buffer, write_fault, write_row, write_buffer, sum_fault, sum_out, RowMade, RowOfItsBytes, PlainSum, RowSumsAsTheCall, TenWords, row_of, RowCarriesTheSum}
use Rattle.exports_stream.proofs.Words.{a-state, no-state, sum-small, words_small, row_back, row-stands, written_back, written_stands}
use Rattle.exports_stream.proofs.Faces.{no-state-refused}
use Rattle.exports_stream.proofs.Promises.{a-made-row-stands, length-word, plain-sum, accepted-zero, sum-after-is, sum-after-some}
use Rattle.exports.proofs.Numbers.{AboveZero, judged-so}
use Rattle.exports.proofs.Back.{is-small, bound-of-held}

-- ---- the sum call on the bytes of a row

pub a-row-sums : (mode value : ℕ) → mode ≤ 1 → {buf row : List ℕ} → RowOfItsBytes mode value buf row → PlainSum row → length_word row ≤ most_values → (out : List ℕ) → 1 ≤ length out
    → RowSumsAsTheCall mode value buf row out
unfolding sum_fault sum_out fault_said row_after
a-row-sums mode value mode-is {buf} {row} R plain most out room =
    let is : read_writer (bound_front row) row ≡ writer_in row = a-state row R.stands in
    let few : (writer_in row).length ≤ most_values = subst (λ (m : MacaqueV). m.length ≤ most_values) is most in
    let said : sum_answer (bytes_in_use row buf) (length_word row) (opening_of mode value) ≡ answered (sum_word row) =
    ap (λ (m : MacaqueV). sum_answer (take (whole_bytes m.place) buf) m.length (opening_of mode value)) is ∙ its-sum R.writer few ∙ ap answered (sym plain) in
    rw (le-leb mode 1 mode-is, said, le-leb 1 (length out) room) (refl, refl)

-- ---- a row that writes, stops and resumes have made, a new one among them

pub a-made-row-is-of-its-bytes : {b : ErrorBound} (mode value : ℕ) {xs buf row : List ℕ} → RowMade b (opening_of mode value) xs buf row → opening_value (opening_of mode value) < 2 ^ 32 → Below 32 xs
    → RowOfItsBytes mode value buf row × PlainSum row
a-made-row-is-of-its-bytes mode value R hl bx =
    (record { stands = a-made-row-stands R; writer = a-made-writer-is-of-its-bytes R.made hl bx }, plain-sum R hl)

pub a-made-row-sums : {b : ErrorBound} (mode value : ℕ) {xs buf row : List ℕ} → RowMade b (opening_of mode value) xs buf row → mode ≤ 1 → opening_value (opening_of mode value) < 2 ^ 32 → Below 32 xs
    → length xs ≤ most_values → (out : List ℕ) → 1 ≤ length out → RowSumsAsTheCall mode value buf row out
a-made-row-sums mode value R mode-is hl bx most out room =
    let r = a-made-row-is-of-its-bytes mode value R hl bx in
    a-row-sums mode value mode-is r.0 r.1 (subst (λ (n : ℕ). n ≤ most_values) (sym (length-word R)) most) out room

-- ---- a reopened row

-- no refusal has the number 0, so a fault of number 0 tells that the stream was reopened
abbrev Opened : Said MacaqueV → Type 0
Opened q = (plain_fault q).number ≡ 0 → (m : MacaqueV) × (q ≡ answered m)

abbrev pub AboveFour : Reading Known → Type 0
AboveFour (done vs t r) = Unit
AboveFour (stopped f) = 4 < f.no

pub read_above : (m n : ℕ) (q : Reading Known) → ReadsIn m n q → AboveFour q
read_above m n (done vs t r) h = tt
read_above m n (stopped f) h = omega (arith, h.low)

pub end-above : (m n : ℕ) (q : Reading Known) → ReadsIn m n q → AboveFour (ended q)
unfolding ended
end-above m n (stopped f) h = omega (arith, h.low)
end-above m n (done vs t r) h = go (leftover t.place r)
  where
    go : (p : Option ℕ) → AboveFour (ended_by vs t r p)
    go none = tt
    go (some p) = omega arith

opened-above : (b : ErrorBound) (first : Bool) (p q : Reading Known) → AboveFour p → AboveFour q → Opened (resumed (coder_of b first) (checked p (state_read q)))
opened-above b first (done vs t r) (done us u q) h k z = (writer_of b first u, refl)
opened-above b first (done vs t r) (stopped f) h k z = absurd (omega (arith, k, z))
opened-above b first (stopped f) q h k z = absurd (omega (arith, h, z))

a-reopening-told : (buf : List ℕ) (used n k : ℕ) (o : Opening) (b : ErrorBound) → Opened (reopen_answer buf used n k o b)
unfolding reopen_answer reopen
a-reopening-told buf used n k o b =
    let S : Stream Known = stream_in (is_first o) in
    let bits : List Bool = bits_of (take used buf) in
    judged-so Opened refused (λ j pos z. absurd (omega (arith, pos, z))) (reopen_causes b (length buf) used n k) (omega arith, (omega arith, (omega arith, tt))) _
    (opened-above b (is_first o) (read_all S n (opened o) bits) (read_n S k (opened o) bits) (end-above 0 n (read_n S n (opened o) bits) (reads_in S n (opened o) bits)) (read_above 0 k (read_n S k (opened o) bits) (reads_in S k (opened o) bits)))

-- a fault of number 0 tells that no cause holds
pub none-of-them : (causes : List Cause) → AboveZero causes → (f : Fault) → (judge itself causes f).number ≡ 0 → NoneHolds causes × (f.number ≡ 0)
unfolding judge
none-of-them [] h f z = (tt, z)
none-of-them (n when true ∷ causes) h f z = absurd (omega (arith, h.0, z))
none-of-them (n when false ∷ causes) h f z = let r = none-of-them causes h.1 f z in ((refl, r.0), r.1)

-- the row of a state that is handed out ends in its sum
last_word : (m : MacaqueV) (rest : List ℕ) → sum_word (writer_row m ++ rest) ≡ to_bits binary32 m.sum
unfolding writer_row
last_word m rest = refl

-- a row that begins with the words of a reopened writer, and the buffer that reopening left
pub row-of-the-reopened : (mode value kind bound : ℕ) → opening_value (opening_of mode value) < 2 ^ 32 → (buf : List ℕ) (used n k : ℕ) (m : MacaqueV)
    → reopen_answer buf used n k (opening_of mode value) (bound_of kind bound) ≡ answered m → (after left rest : List ℕ) → after ≡ writer_row m ++ rest
    → left ≡ reopen_memory buf used n k (opening_of mode value) (bound_of kind bound) → RowOfItsBytes mode value left after × PlainSum after × (length_word after ≤ most_values)
row-of-the-reopened mode value kind bound hl buf used n k m said after left rest row_is buffer-is =
    let o : Opening = opening_of mode value in
    let R = a-reopened-writer-is-of-its-bytes (bound_of kind bound) o hl buf used n k m said in
    let held : BoundHeld m.error_bound = subst BoundHeld (sym R.bound) (bound-of-held kind bound) in
    let back : writer_in after ≡ m = ap writer_in row_is ∙ row_back m rest held R.held in
    let stands : stands_for_state after ≡ true = ap stands_for_state row_is ∙ row-stands m rest R.held in
    let word : sum_word after ≡ to_bits binary32 m.sum = ap sum_word row_is ∙ last_word m rest in (
      record {
        stands = stands;
        writer = subst (λ (w : MacaqueV). OfItsBytes o left w) (sym back) (subst (λ (z : List ℕ). OfItsBytes o z m) (sym buffer-is) R.own);
      },
      word ∙ ap (λ (w : MacaqueV). to_bits binary32 w.sum) (sym back),
      subst (λ (j : ℕ). j ≤ most_values) (sym (ap (λ (w : MacaqueV). w.length) (a-state after stands ∙ back))) R.few,
    )

module _ (buf : List ℕ) (used count k mode value kind bound : ℕ) (row : List ℕ) (mode-is : mode ≤ 1) (hl : opening_value (opening_of mode value) < 2 ^ 32)
    (zero : (reopen_fault buf used count k mode value kind bound row).number ≡ 0) where
  abbrev left : List ℕ
  left = reopen_buffer buf used count k mode value kind bound row

  abbrev after : List ℕ
  after = reopen_row buf used count k mode value kind bound row

  -- the row that it leaves is of the bytes that it leaves, whichever stream they were
  pub a-reopened-row-is-of-its-bytes : RowOfItsBytes mode value left after × PlainSum after × (length_word after ≤ most_values)
  unfolding reopen_fault reopen_row reopen_buffer
  a-reopened-row-is-of-its-bytes =
      let causes : List Cause = reopen_face_causes buf used count k mode kind bound row in
      let told = none-of-them causes (omega arith, (omega arith, (omega arith, (omega arith, tt)))) (plain_fault (reopen_said buf used count k mode value kind bound)) zero in
      let said = a-reopening-told buf used (count_in mode count) k (opening_of mode value) (bound_of kind bound) told.1 in
      row-of-the-reopened mode value kind bound hl buf used (count_in mode count) k said.0 said.1 after left (drop (length (writer_row said.0)) row)
      (sym (judging.accepted (keeping row) _ causes told.0) ∙ ap (row_in writer_row row) said.1) (sym (judging.accepted (keeping buf) _ causes told.0))

  -- "Each reopening .. keeps it equal to what the sum call would answer on the used bytes"
  pub a-reopened-row-sums : (out : List ℕ) → 1 ≤ length out → RowSumsAsTheCall mode value left after out
  a-reopened-row-sums out room = let r = a-reopened-row-is-of-its-bytes in a-row-sums mode value mode-is r.0 r.1 r.2 out room

-- ---- a write on a row of its bytes

-- the sum's word after a write, whatever NaN the row held: it has 32 bits, and is read as the writer's sum
sum-read-back : (row : List ℕ) → stands_for_state row ≡ true → (ys : List ℕ) → WordsSmall (writer_at (writer_in row) (wrote_by (writer_in row) ys))
    → (small (sum_after row (writer_at (writer_in row) (wrote_by (writer_in row) ys))) ≡ true)
    × (of_bits binary32 (sum_after row (writer_at (writer_in row) (wrote_by (writer_in row) ys))) ≡ (writer_at (writer_in row) (wrote_by (writer_in row) ys)).sum)
unfolding kept_from write.after
sum-read-back row h [] s = go (eqb (writer_in row).length (length_word row))
  where
    go : (b : Bool) → (small (cond b (sum_word row) (to_bits binary32 (writer_in row).sum)) ≡ true)
        × (of_bits binary32 (cond b (sum_word row) (to_bits binary32 (writer_in row).sum)) ≡ (writer_in row).sum)
    go true = (sum-small row h, ap (λ (w : MacaqueV). w.sum) (a-state row h))
    go false = (is-small (writer_in row).sum s.total, of_bits-to_bits binary32 (writer_in row).sum s.total)
sum-read-back row h (y ∷ ys) s =
    let n : MacaqueV = writer_at (writer_in row) (wrote_by (writer_in row) (y ∷ ys)) in
    subst (λ (w : ℕ). (small w ≡ true) × (of_bits binary32 w ≡ n.sum)) (sym (sum-after-some row h y ys)) (is-small n.sum s.total, of_bits-to_bits binary32 n.sum s.total)

module _ (mode value : ℕ) (mode-is : mode ≤ 1) (hl : opening_value (opening_of mode value) < 2 ^ 32) {buf row : List ℕ} (R : RowOfItsBytes mode value buf row) (small_bytes : Below 8 buf)
    (ys : List ℕ) (by : Below 32 ys) (zero : (write_fault row ys buf).number ≡ 0) where
  abbrev m : MacaqueV
  m = writer_in row

  abbrev n : MacaqueV
  n = writer_at (writer_in row) (wrote_by (writer_in row) ys)

  accepted : write_answer m ys buf ≡ answered_on n
  accepted = accepted-zero m ys buf zero

  held : WordsSmall n
  held = a-written-writer-is-held R.writer hl small_bytes ys by n accepted (words_small row R.stands)

  row_is : write_row row ys buf ≡ written_row row n ++ drop (length (written_row row n)) row
  row_is = ap (step_row (written_row row) row) accepted

  pub a-written-row-stands : stands_for_state (write_row row ys buf) ≡ true
  a-written-row-stands = ap stands_for_state row_is ∙ written_stands row n (drop (length (written_row row n)) row) R.stands held (sum-read-back row R.stands ys held).0

  pub row-after-a-write : writer_in (write_row row ys buf) ≡ n
  row-after-a-write =
      let is : read_writer (bound_front row) row ≡ m = a-state row R.stands in
      let sum = sum-read-back row R.stands ys held in
      ap writer_in row_is
      ∙ written_back row n (drop (length (written_row row n)) row) R.stands (ap (λ (w : MacaqueV). w.error_bound) (sym is)) (ap (λ (w : MacaqueV). w.with_first) (sym is)) held sum.0 sum.1

  -- the row that it leaves is of the bytes that it leaves
  pub a-row-stays-of-its-bytes : RowOfItsBytes mode value (write_buffer row ys buf) (write_row row ys buf) × (length_word (write_row row ys buf) ≤ most_values)
  a-row-stays-of-its-bytes =
      let W = a-write-stays-of-its-bytes R.writer hl small_bytes ys by n accepted in (
        record { stands = a-written-row-stands; writer = subst (OfItsBytes (opening_of mode value) (write_buffer row ys buf)) (sym row-after-a-write) W.0 },
        subst (λ (j : ℕ). j ≤ most_values) (sym (ap (λ (w : MacaqueV). w.length) (a-state (write_row row ys buf) a-written-row-stands ∙ row-after-a-write))) W.1,
      )

  -- and its sum's word is as a call leaves it, where it was, or where a value came
  pub a-sum-stays-plain : PlainSum row ⊎ (0 < length ys) → PlainSum (write_row row ys buf)
  unfolding written_row
  a-sum-stays-plain h = ap sum_word row_is ∙ by_cases ys h ∙ ap (λ (w : MacaqueV). to_bits binary32 w.sum) (sym row-after-a-write)
    where
      by_cases : (ys : List ℕ) → PlainSum row ⊎ (0 < length ys) → sum_after row (writer_at (writer_in row) (wrote_by (writer_in row) ys)) ≡ to_bits binary32 (writer_at (writer_in row) (wrote_by (writer_in row) ys)).sum
      by_cases ys (inl plain) = sum-after-is row R.stands plain ys
      by_cases [] (inr came) = absurd (omega (arith, came))
      by_cases (y ∷ ys) (inr came) = sum-after-some row R.stands y ys

  -- "each write on a state whose last value, window, place, length and sum are those of its bytes, keeps it equal to what the sum call would answer"
  pub a-written-row-sums : PlainSum row ⊎ (0 < length ys) → (out : List ℕ) → 1 ≤ length out → RowSumsAsTheCall mode value (write_buffer row ys buf) (write_row row ys buf) out
  a-written-row-sums h out room = let r = a-row-stays-of-its-bytes in a-row-sums mode value mode-is r.0 (a-sum-stays-plain h) r.1 out room

-- ---- another sum that is handed in

module _ (w : TenWords) (s t : ℕ) (hs : s < 2 ^ 32) (ht : t < 2 ^ 32) (rest : List ℕ) where
  small-s : small s ≡ true
  small-s = lt-ltb s (2 ^ 32) hs

  small-t : small t ≡ true
  small-t = lt-ltb t (2 ^ 32) ht

  -- either row stands for a state where the other does
  pub same-standing : stands_for_state (row_of w t rest) ≡ stands_for_state (row_of w s rest)
  unfolding stands_for_state
  same-standing = rw (small-s, small-t)

  same-bound : bound_front (row_of w t rest) ≡ bound_front (row_of w s rest)
  unfolding bound_front
  same-bound = refl

  pub other-writer : stands_for_state (row_of w s rest) ≡ true → writer_in (row_of w t rest) ≡ with_sum (of_bits binary32 t) (writer_in (row_of w s rest))
  other-writer h =
      sym (a-state (row_of w t rest) (same-standing ∙ h)) ∙ ap (λ (b : ErrorBound). read_writer b (row_of w t rest)) same-bound
      ∙ ap (with_sum (of_bits binary32 t)) (a-state (row_of w s rest) h)

  pub no-writer : stands_for_state (row_of w s rest) ≡ false → writer_in (row_of w t rest) ≡ writer_in (row_of w s rest)
  no-writer h = sym (no-state (row_of w t rest) (same-standing ∙ h)) ∙ ap spoiled_writer same-bound ∙ no-state (row_of w s rest) h

module _ (w : TenWords) (s t : ℕ) (hs : s < 2 ^ 32) (ht : t < 2 ^ 32) (rest xs buf : List ℕ) where
  abbrev old : List ℕ
  old = row_of w s rest

  abbrev new : List ℕ
  new = row_of w t rest

  -- what an answer with another sum says through a row
  fault-of : (x y : Float) (q : SaidOn MacaqueV MacaqueV) → step_fault (with_sums x y q) ≡ step_fault q
  fault-of x y (answered_on n) = refl
  fault-of x y (refused_on f m) = refl

  front_of : (x y : Float) (q : SaidOn MacaqueV MacaqueV) → take 10 (step_row (written_row new) new (with_sums x y q)) ≡ take 10 (step_row (written_row old) old q)
  unfolding written_row
  front_of x y (answered_on n) = refl
  front_of x y (refused_on f m) = refl

  behind-of : (x y : Float) (q : SaidOn MacaqueV MacaqueV) → drop 11 (step_row (written_row new) new (with_sums x y q)) ≡ drop 11 (step_row (written_row old) old q)
  unfolding written_row
  behind-of x y (answered_on n) = refl
  behind-of x y (refused_on f m) = refl

  -- the sum's word, where none did
  word-stays : (y : Float) (n : MacaqueV) → n.length ≡ w.count → sum_word (step_row {S = MacaqueV} (written_row new) new (answered_on (with_sum y n))) ≡ t
  unfolding written_row
  word-stays y n same = rw (eq-eqb n.length w.count same)

  no_longer : stands_for_state old ≡ true → xs ≡ [] → (wrote_by (writer_in old) xs).count ≡ w.count
  no_longer h empty = omega (arith, ap length empty, written_count (writer_in old) xs, ap (λ (m : MacaqueV). m.length) (a-state old h))

  -- the sum's word, where a value came
  word_of : (y : Float) (n : MacaqueV) → ¬ (n.length ≡ w.count) → sum_word (step_row {S = MacaqueV} (written_row new) new (answered_on (with_sum y n))) ≡ to_bits binary32 y
  unfolding written_row
  word_of y n longer = rw (ne_eqb n.length w.count longer)

  longer : stands_for_state old ≡ true → 0 < length xs → ¬ ((wrote_by (writer_in old) xs).count ≡ w.count)
  longer h more e =
      omega (arith, more, e, written_count (writer_in old) xs, ap (λ (m : MacaqueV). m.length) (a-state old h))

  never-zero : (b : Bool) → no_state b ≡ no_fault → ⊥
  never-zero true e = omega (arith, ap (λ (f : Fault). f.number) e)
  never-zero false e = omega (arith, ap (λ (f : Fault). f.number) e)

  pub a-row-carries-the-sum : RowCarriesTheSum w s t rest xs buf
  a-row-carries-the-sum = go (stands_for_state old) refl
    where
      refused-row : (row : List ℕ) → stands_for_state row ≡ false → (q : SaidOn MacaqueV MacaqueV) → write_answer (writer_in row) xs buf ≡ q → step_row (written_row row) row q ≡ row
      refused-row row h (answered_on n) e = absurd (not-answered (sym (no-state-refused row xs buf h) ∙ ap stateless e))
      refused-row row h (refused_on f m) e = refl

      when-refused : (q : SaidOn MacaqueV MacaqueV) → (step_fault q ≡ no_fault → ⊥)
          → sum_word (step_row (written_row new) new (with_sums (of_bits binary32 t) (carried (writer_in old) (of_bits binary32 t) xs) q)) ≡ t
      when-refused (answered_on n) never = absurd (never refl)
      when-refused (refused_on f m) never = refl

      when-empty : stands_for_state old ≡ true → xs ≡ [] → (q : SaidOn MacaqueV MacaqueV) → write_answer (writer_in old) xs buf ≡ q
          → sum_word (step_row (written_row new) new (with_sums (of_bits binary32 t) (carried (writer_in old) (of_bits binary32 t) xs) q)) ≡ t
      when-empty h empty (answered_on n) e =
          let is : writer_at (writer_in old) (wrote_by (writer_in old) xs) ≡ n = same-answer-on (sym (accepted-zero (writer_in old) xs buf (ap (λ (q : SaidOn MacaqueV MacaqueV). (step_fault q).number) e)) ∙ e) in
          word-stays (carried (writer_in old) (of_bits binary32 t) xs) n (ap (λ (z : MacaqueV). z.length) (sym is) ∙ no_longer h empty)
      when-empty h empty (refused_on f m) e = refl

      go : (b : Bool) → stands_for_state old ≡ b → RowCarriesTheSum w s t rest xs buf
      go false h =
          let same = no-writer w s t hs ht rest h in
          let new-stays : write_row new xs buf ≡ new = refused-row new (same-standing w s t hs ht rest ∙ h) _ refl in
          let old-stays : write_row old xs buf ≡ old = refused-row old h _ refl in
          record {
            fault = ap (λ (m : MacaqueV). step_fault (write_answer m xs buf)) same;
            buffer = ap (λ (m : MacaqueV). write_memory m xs buf) same;
            others = ap (take 10) new-stays ∙ sym (ap (take 10) old-stays);
            behind = ap (drop 11) new-stays ∙ sym (ap (drop 11) old-stays);
            sum = λ z some. absurd (never-zero (bound_allowed (bound_front old)) (sym (ap plain_fault (no-state-refused old xs buf h)) ∙ z));
            empty = λ e. ap sum_word new-stays;
            refused = λ e. ap sum_word new-stays;
          }
      go true h =
          let m : MacaqueV = writer_in old in
          let x : Float = of_bits binary32 t in
          let y : Float = carried m x xs in
          let C = the-sum-is-carried m x xs buf in
          let is : write_answer (writer_in new) xs buf ≡ with_sums x y (write_answer m xs buf) = ap (λ (n : MacaqueV). write_answer n xs buf) (other-writer w s t hs ht rest h) ∙ C.answer in
          record {
            fault = ap step_fault is ∙ fault-of x y (write_answer m xs buf);
            buffer = ap (λ (n : MacaqueV). write_memory n xs buf) (other-writer w s t hs ht rest h) ∙ C.memory;
            others = ap (λ (q : SaidOn MacaqueV MacaqueV). take 10 (step_row (written_row new) new q)) is ∙ front_of x y (write_answer m xs buf);
            behind = ap (λ (q : SaidOn MacaqueV MacaqueV). drop 11 (step_row (written_row new) new q)) is ∙ behind-of x y (write_answer m xs buf);
            sum = λ z some.
                let a = accepted-zero m xs buf (ap (λ (f : Fault). f.number) z) in
                ap (λ (q : SaidOn MacaqueV MacaqueV). sum_word (step_row (written_row new) new q)) (is ∙ ap (with_sums x y) a) ∙ word_of y (writer_at m (wrote_by m xs)) (longer h some);
            empty = λ e. ap (λ (q : SaidOn MacaqueV MacaqueV). sum_word (step_row (written_row new) new q)) is ∙ when-empty h e (write_answer m xs buf) refl;
            refused = λ e. ap (λ (q : SaidOn MacaqueV MacaqueV). sum_word (step_row (written_row new) new q)) is ∙ when-refused (write_answer m xs buf) e;
          }
