-- The promises of MacaqueV's C face: the row that a call leaves stands for the writer that the next call begins with, so that demands 2 and 3 hold of rows
-- too; an empty write changes nothing; and words that stand for no state, or for no mode, are refused. Assumes nothing.
use mathlib.Core.Path.{◌≡◌, refl, sym, ap, ap₂, ◌∙◌, subst}
use mathlib.Core.Bool.{Bool, true, false, cond}
use mathlib.Core.List.{List, [], ◌∷◌, ◌++◌}
use Prim.Native.Nat.{ℕ, ◌+◌, ◌*◌, ◌^◌, ◌≤◌, ◌<◌}
use native.Mathlib.Omega.{arith}
use borrow.Author.Tests.{le-ltb, le-leb, lt-leb, ne_eqb}
use lib.Dec.{eqb, ltb}
use lib.Ieee.{binary32, to_bits}
use lib.ListN.{length, take, drop, get_or}
use lib.Seq.{length-take-le}
use Rattle.bits.specs.Bits.{Below, whole_bytes}
use Rattle.bits.proofs.Below.{below-nil, below-take}
use Rattle.models.specs.Answers.{fault, no_fault, Said, answered, SaidOn, answered_on, refused_on, refusing, stateless, Cause, ◌when◌, judge, judged_memory, itself, keeping, NoneHolds}
use Rattle.models.specs.declared.Fault.{Fault}
use Rattle.models.specs.Limits.{most_values}
use Rattle.models.specs.Bound.{bound_allowed, BoundHeld}
use Rattle.models.specs.declared.ErrorBound.{ErrorBound}
use Rattle.models.specs.declared.ErrorBound.TheVariants.{Lossless}
use Rattle.models.proofs.Judged.{judged-parts, accepted, answered-only}
use Rattle.stream.specs.Format.{Stream, State}
use Rattle.stream.specs.Write.{kept_from, after}
use Rattle.stream.proofs.Writing.{count-after, length-kept}
use Rattle.stream.proofs.Calls.{as_long}
use Rattle.macaque_v.specs.State.{sum_in, stream_in, writer_of, is_first, opening_value, opened}
use Rattle.macaque_v.specs.Calls.{new_answer, lent_bytes, write_causes, write_answer}
use Rattle.macaque_v.specs.Read.{reopen_causes, reopen_answer, reopen_memory, grid_answer}
use Rattle.macaque_v.specs.Write.{writer_at, wrote_by}
use Rattle.macaque_v.specs.Made.{state_over, kept_of, Made, WordsSmall}
use Rattle.macaque_v.specs.declared.MacaqueV.{MacaqueV}
use Rattle.macaque_v.specs.declared.Opening.{Opening}
use Rattle.macaque_v.proofs.Promises.{a-fresh-writer, a-write-goes-on, a-write-is-accepted, reopening-goes-back, grid-reads-back, lossless-keeps-the-inputs}
use Rattle.macaque_v.proofs.Promises as call
use Rattle.macaque_v.proofs.Held.{made_held}
use Rattle.macaque_v.proofs.Writing.{written_count}
use Rattle.exports.specs.Face.{bound_of, plain_fault, row_in, no_state, step_fault, step_row}
use Rattle.exports.specs.Words.{bound_front}
use Rattle.exports.proofs.Back.{bound-of-held, bound-front-held}
use Rattle.exports_stream.specs.Row.{writer_length, writer_row, sum_word, sum_after, written_row, stands_for_state, spoiled_writer, writer_in, bytes_in_use, length_word}
use Rattle.exports_stream.specs.Calls.{opening_of, count_in, new_fault, new_row, write_fault, write_row, write_buffer, reopen_face_causes, reopen_fault, reopen_row, reopen_buffer, grid_fault, grid_out, RowMade, RowResumesAsOne}
use Rattle.exports_stream.proofs.Words.{short-stands-for-none, no-state, a-state, row_back, written-long, own-words}
use Rattle.exports_stream.proofs.Faces.{no-state-refused, stands}
use Rattle.exports.proofs.Numbers.{judged-so}

-- ---- the writer that a row stands for

front-words : (m : MacaqueV) (rest : List ℕ) → take writer_length (writer_row m ++ rest) ≡ writer_row m
unfolding writer_row
front-words m rest = refl

pub behind-words : (m : MacaqueV) (rest : List ℕ) → drop writer_length (writer_row m ++ rest) ≡ rest
unfolding writer_row
behind-words m rest = refl

-- a writer that writes, stops and resumes have made is the one that its row stands for
module _ {b : ErrorBound} {o : Opening} {xs buf : List ℕ} {m : MacaqueV} (M : Made b o xs buf m) (hl : opening_value o < 2 ^ 32) (bx : Below 32 xs) where
  small-words : WordsSmall m
  small-words = subst WordsSmall (sym M.writer) (made_held b o xs hl bx)

  pub made_row : BoundHeld b → (rest : List ℕ) → writer_in (writer_row m ++ rest) ≡ m
  made_row f rest = row_back m rest (subst BoundHeld (sym (ap (λ (w : MacaqueV). w.error_bound) M.writer)) f) small-words

  -- a row that begins with its words
  pub row_made : BoundHeld b → {row : List ℕ} (rest : List ℕ) → row ≡ writer_row m ++ rest → RowMade b o xs buf row
  row_made f {row = row} rest is =
      let back : writer_in row ≡ m = ap writer_in is ∙ made_row f rest in
      record { made = subst (Made b o xs buf) (sym back) M; words = is ∙ ap₂ (λ (w : MacaqueV) (l : List ℕ). writer_row w ++ l) (sym back) (sym (ap (drop writer_length) is ∙ behind-words m rest)) }

-- bound, opening and inputs tell the eleven words too
pub the-row-once : {b : ErrorBound} {o : Opening} {xs buf row other others : List ℕ} → RowMade b o xs buf row → RowMade b o xs other others → take writer_length row ≡ take writer_length others
the-row-once {row = row} {others = others} R S =
    ap (take writer_length) R.words ∙ front-words (writer_in row) _ ∙ ap writer_row (R.made.writer ∙ sym S.made.writer) ∙ sym (ap (take writer_length) S.words ∙ front-words (writer_in others) _)

-- a state with no value has no place
no-value-no-place : {A : Type 0} (S : Stream A) (s : State A) (vs : List ℕ) → s.place ≡ 0 → (after S s vs).count ≡ 0 → (after S s vs).place ≡ 0
unfolding after
no-value-no-place S s [] h e = h
no-value-no-place S s (v ∷ vs) h e = absurd (omega (arith, count-after S s (v ∷ vs), e))

-- a row of a writer behind some kept values stands for a state: it holds eleven words
pub stands-behind : (b : ErrorBound) (o : Opening) (vs row : List ℕ) → writer_in row ≡ writer_of b (is_first o) (after (stream_in (is_first o)) (opened o) vs) → stands_for_state row ≡ true
stands-behind b o vs row e = go (stands_for_state row) refl
  where
    go : (t : Bool) → stands_for_state row ≡ t → t ≡ true
    go true h = refl
    go false h =
        let spoiled : spoiled_writer (bound_front row) ≡ writer_of b (is_first o) (after (stream_in (is_first o)) (opened o) vs) = no-state row h ∙ e in
        let count : 0 ≡ (after (stream_in (is_first o)) (opened o) vs).count = ap (λ (m : MacaqueV). m.length) spoiled in
        let place : 1 ≡ (after (stream_in (is_first o)) (opened o) vs).place = ap (λ (m : MacaqueV). m.place) spoiled in
        absurd (omega (arith, place, no-value-no-place (stream_in (is_first o)) (opened o) vs refl (sym count)))

module _ {b : ErrorBound} {o : Opening} {xs buf row : List ℕ} (R : RowMade b o xs buf row) where
  pub a-made-row-stands : stands_for_state row ≡ true
  a-made-row-stands = stands-behind b o (kept_of b o xs) row R.made.writer

  -- its word of the place tells the bytes in use, and its word of the length how many values were written
  pub place-word : (writer_in row).place ≡ get_or row 8 0
  place-word = sym (ap (λ (m : MacaqueV). m.place) (a-state row a-made-row-stands))

  pub length-word : length_word row ≡ length xs
  length-word =
      let kept-long : length (kept_of b o xs) ≡ length xs = length-kept (stream_in (is_first o)) _ (opened o) xs in
      ap (λ (m : MacaqueV). m.length) (a-state row a-made-row-stands ∙ R.made.writer) ∙ count-after (stream_in (is_first o)) (opened o) (kept_of b o xs) ∙ omega (arith, kept-long)

-- ---- a new row

module _ (kind bound mode value : ℕ) (row : List ℕ) (hl : opening_value (opening_of mode value) < 2 ^ 32) (ok : bound_allowed (bound_of kind bound) ≡ true)
    (mode-is : mode ≤ 1) (words : writer_length ≤ length row) where
  abbrev new_writer : MacaqueV
  new_writer = writer_of (bound_of kind bound) (is_first (opening_of mode value)) (opened (opening_of mode value))

  pub new-opens : new_answer (bound_of kind bound) (opening_of mode value) ≡ answered new_writer
  unfolding new_answer judge
  new-opens = rw ok

  a-mode : ltb 1 mode ≡ false
  a-mode = le-ltb 1 mode mode-is

  has_words : ltb (length row) writer_length ≡ false
  has_words = le-ltb (length row) writer_length words

  -- an allowed bound, a mode and a row of eleven words are accepted, and nothing of the buffer is in use, whatever it holds
  pub a-new-row : (new_fault kind bound mode value row ≡ no_fault)
      × ((buf : List ℕ) → RowMade (bound_of kind bound) (opening_of mode value) [] buf (new_row kind bound mode value row))
  unfolding new_fault new_row judge
  a-new-row =
      let is : new_row kind bound mode value row ≡ writer_row new_writer ++ drop (length (writer_row new_writer)) row = rw (ok, a-mode, has_words) (ap (row_in writer_row row) new-opens) in (
        rw (ok, a-mode, has_words) (ap plain_fault new-opens),
        λ buf. row_made (a-fresh-writer (bound_of kind bound) (opening_of mode value) buf new_writer new-opens) hl (below-nil 32) (bound-of-held kind bound) _ is,
      )

-- ---- writing through a row

-- the sum's word where a value came
pub sum-after-some : (row : List ℕ) → stands_for_state row ≡ true → (y : ℕ) (ys : List ℕ)
    → sum_after row (writer_at (writer_in row) (wrote_by (writer_in row) (y ∷ ys))) ≡ to_bits binary32 (writer_at (writer_in row) (wrote_by (writer_in row) (y ∷ ys))).sum
sum-after-some row h y ys =
    let m : MacaqueV = writer_in row in
    let more : ¬ ((wrote_by m (y ∷ ys)).count ≡ length_word row) = λ e. omega (arith, e, written_count m (y ∷ ys), ap (λ (w : MacaqueV). w.length) (a-state row h)) in
    ap (λ (b : Bool). cond b (sum_word row) (to_bits binary32 (sum_in (wrote_by m (y ∷ ys))))) (ne_eqb (wrote_by m (y ∷ ys)).count (length_word row) more)

-- the sum's word after a write on a row whose word of it is as a call leaves it: where no value came, it is the same sum
pub sum-after-is : (row : List ℕ) → stands_for_state row ≡ true → sum_word row ≡ to_bits binary32 (writer_in row).sum → (ys : List ℕ)
    → sum_after row (writer_at (writer_in row) (wrote_by (writer_in row) ys)) ≡ to_bits binary32 (writer_at (writer_in row) (wrote_by (writer_in row) ys)).sum
unfolding kept_from after
sum-after-is row h plain [] = go (eqb (writer_in row).length (length_word row))
  where
    go : (b : Bool) → cond b (sum_word row) (to_bits binary32 (writer_in row).sum) ≡ to_bits binary32 (writer_in row).sum
    go true = plain
    go false = refl
sum-after-is row h plain (y ∷ ys) = sum-after-some row h y ys

-- a number of 0 tells that nothing was refused
pub accepted-zero : (m : MacaqueV) (ys buf : List ℕ) → (plain_fault (stateless (write_answer m ys buf))).number ≡ 0 → write_answer m ys buf ≡ answered_on (writer_at m (wrote_by m ys))
unfolding write_answer
accepted-zero m ys buf =
    judged-so (λ (q : SaidOn MacaqueV MacaqueV). (plain_fault (stateless q)).number ≡ 0 → q ≡ answered_on (writer_at m (wrote_by m ys))) (refusing m) (λ n pos z. absurd (omega (arith, pos, z)))
    (write_causes m ys (lent_bytes (length buf))) (omega arith, (omega arith, (omega arith, (omega arith, tt)))) _ (λ z. refl)

-- of a row whose words are those of the writer that it stands for
module _ {row : List ℕ} (stands : stands_for_state row ≡ true) (words : row ≡ writer_row (writer_in row) ++ drop writer_length row) where
  own-word : (i : ℕ) → get_or row i 0 ≡ get_or (writer_row (writer_in row) ++ drop writer_length row) i 0
  own-word i = ap (λ (l : List ℕ). get_or l i 0) words

  -- the words that a write leaves are those of the bound and the mode of that writer
  written_same : (n : MacaqueV) → n.error_bound ≡ (writer_in row).error_bound → n.with_first ≡ (writer_in row).with_first → sum_after row n ≡ to_bits binary32 n.sum
      → written_row row n ≡ writer_row n
  unfolding written_row writer_row
  written_same n e f sum = rw (e, f, sum, own-word 0, own-word 1, own-word 7)

  -- its word of the sum is the pattern of the writer's
  plain_word : sum_word row ≡ to_bits binary32 (writer_in row).sum
  unfolding writer_row
  plain_word = own-word 10

  -- an accepted write leaves a row that begins with the words of the writer after it
  pub a-written-row : (ys buf : List ℕ) (n : MacaqueV) → write_answer (writer_in row) ys buf ≡ answered_on n → n ≡ writer_at (writer_in row) (wrote_by (writer_in row) ys)
      → write_row row ys buf ≡ writer_row n ++ drop (length (written_row row n)) row
  a-written-row ys buf n a is =
      let same : written_row row n ≡ writer_row n = written_same n (ap (λ (w : MacaqueV). w.error_bound) is) (ap (λ (w : MacaqueV). w.with_first) is)
      (subst (λ (w : MacaqueV). sum_after row w ≡ to_bits binary32 w.sum) (sym is) (sum-after-is row stands plain_word ys)) in
      ap (step_row (written_row row) row) a ∙ ap (λ (l : List ℕ). l ++ drop (length (written_row row n)) row) same

module _ {b : ErrorBound} {o : Opening} {xs buf row : List ℕ} (R : RowMade b o xs buf row) (hl : opening_value o < 2 ^ 32) where
  pub plain-sum : sum_word row ≡ to_bits binary32 (writer_in row).sum
  plain-sum = plain_word (a-made-row-stands R) R.words

  -- its bound is of its format, whatever the words
  bound-held : BoundHeld b
  bound-held = subst BoundHeld (ap (λ (m : MacaqueV). m.error_bound) (a-state row (a-made-row-stands R) ∙ R.made.writer)) (bound-front-held row)

  -- an accepted write leaves the bytes of one fresh run, and a row that stands for its writer
  pub a-row-goes-on : (ys : List ℕ) → Below 32 (xs ++ ys) → (write_fault row ys buf).number ≡ 0 → RowMade b o (xs ++ ys) (write_buffer row ys buf) (write_row row ys buf)
  a-row-goes-on ys by h =
      let n : MacaqueV = writer_at (writer_in row) (wrote_by (writer_in row) ys) in
      let a : write_answer (writer_in row) ys buf ≡ answered_on n = accepted-zero (writer_in row) ys buf h in
      row_made (a-write-goes-on R.made ys n a) hl by bound-held _ (a-written-row (a-made-row-stands R) R.words ys buf n a refl)

  -- and it is accepted, wherever room and count limit allow
  pub a-row-is-accepted : Below 32 xs → bound_allowed b ≡ true → (ys : List ℕ) → length xs + length ys ≤ most_values
      → (state_over b o (xs ++ ys)).place ≤ 8 * length buf → write_fault row ys buf ≡ no_fault
  a-row-is-accepted bx ok ys most room = ap step_fault (a-write-is-accepted R.made bx hl ok ys most room)

-- "An empty write changes nothing": neither the row nor the buffer, accepted or not, whatever the row holds
pub an-empty-write-changes-nothing : (row buf : List ℕ) → Below 8 buf → (write_row row [] buf ≡ row) × (write_buffer row [] buf ≡ buf)
an-empty-write-changes-nothing row buf small = (go (write_answer (writer_in row) [] buf) refl, (call.an-empty-write-changes-nothing (writer_in row) buf small).1)
  where
    go : (q : SaidOn MacaqueV MacaqueV) → write_answer (writer_in row) [] buf ≡ q → step_row (written_row row) row q ≡ row
    go (answered_on n) e =
        ap (λ (m : MacaqueV). step_row {S = MacaqueV} (written_row row) row (answered_on m)) ((call.an-empty-write-changes-nothing (writer_in row) buf small).0 n e)
        ∙ ap (λ (k : ℕ). written_row row (writer_in row) ++ drop k row) (written-long row (writer_in row)) ∙ own-words row (stands row [] buf n e)
    go (refused_on f s) e = refl

-- a write keeps the buffer's length
pub a-row-keeps-the-length : (row ys buf : List ℕ) → length (write_buffer row ys buf) ≡ length buf
a-row-keeps-the-length row = call.a-write-keeps-the-length (writer_in row)

-- ---- reopening through a row

-- where no cause holds, and one more fails
pub one_more : {X : Type 0} (refuse : Fault → X) (y : X) (causes : List Cause) (n : ℕ) (t : Bool) → NoneHolds causes → t ≡ false → judge refuse (causes ++ (n when t ∷ [])) y ≡ y
one_more refuse y causes n t h e =
    judged-parts refuse causes (n when t ∷ []) y ∙ sym (accepted refuse y (n when t ∷ []) (e, tt) ∙ accepted refuse (judge refuse (n when t ∷ []) y) causes h)

reopened-free : (buf : List ℕ) (used count k : ℕ) (o : Opening) (b : ErrorBound) (n : MacaqueV) → reopen_answer buf used count k o b ≡ answered n
    → NoneHolds (reopen_causes b (length buf) used count k)
unfolding reopen_answer
reopened-free buf used count k o b n h = (answered-only (reopen_causes b (length buf) used count k) _ n h).0

-- a reopening keeps the buffer's length, accepted or not
pub reopening-row-keeps-the-length : (buf : List ℕ) (used count k mode value kind bound : ℕ) (row : List ℕ) → opening_value (opening_of mode value) < 2 ^ 32
    → length (reopen_buffer buf used count k mode value kind bound row) ≡ length buf
unfolding reopen_buffer
reopening-row-keeps-the-length buf used count k mode value kind bound row hl =
    as_long buf _ (reopen_face_causes buf used count k mode kind bound row) (λ free. call.reopening-keeps-the-length (bound_of kind bound) (opening_of mode value) hl buf used (count_in mode count) k)

-- where the call behind answers a writer and the row has eleven words: nothing is refused, the row begins with the writer's words, and the buffer is what that call leaves
module _ (buf row : List ℕ) (words : writer_length ≤ length row) (causes : List Cause) (none : NoneHolds causes) where
  held : ltb (length row) writer_length ≡ false
  held = le-ltb (length row) writer_length words

  abbrev with-the-row : List Cause
  with-the-row = causes ++ (4 when ltb (length row) writer_length ∷ [])

  pub opened-fault : (said : Said MacaqueV) (now : MacaqueV) → said ≡ answered now → judge itself with-the-row (plain_fault said) ≡ no_fault
  opened-fault said now opens = one_more itself (plain_fault said) causes 4 (ltb (length row) writer_length) none held ∙ ap plain_fault opens

  pub opened-row : (said : Said MacaqueV) (now : MacaqueV) → said ≡ answered now → judged_memory row with-the-row (row_in writer_row row said) ≡ writer_row now ++ drop (length (writer_row now)) row
  opened-row said now opens = one_more (keeping row) (row_in writer_row row said) causes 4 (ltb (length row) writer_length) none held ∙ ap (row_in writer_row row) opens

  pub opened-buffer : (left : List ℕ) → judged_memory buf with-the-row left ≡ left
  opened-buffer left = one_more (keeping buf) left causes 4 (ltb (length row) writer_length) none held

module _ (kind bound mode value : ℕ) (row : List ℕ) (mode-is : mode ≤ 1) (words : writer_length ≤ length row) (buf : List ℕ) (used n k : ℕ) (now : MacaqueV)
    (opens : reopen_answer buf used n k (opening_of mode value) (bound_of kind bound) ≡ answered now) where
  abbrev said : Said MacaqueV
  said = reopen_answer buf used n k (opening_of mode value) (bound_of kind bound)

  abbrev causes : List Cause
  causes = reopen_causes (bound_of kind bound) (length buf) used n k

  none : NoneHolds causes
  none = reopened-free buf used n k (opening_of mode value) (bound_of kind bound) now opens

  pub reopened-fault : reopen_fault buf used n k mode value kind bound row ≡ no_fault
  unfolding reopen_fault
  reopened-fault = rw (le-leb mode 1 mode-is) (opened-fault buf row words causes none said now opens)

  pub reopened-row : reopen_row buf used n k mode value kind bound row ≡ writer_row now ++ drop (length (writer_row now)) row
  unfolding reopen_row
  reopened-row = rw (le-leb mode 1 mode-is) (opened-row buf row words causes none said now opens)

  pub reopened-buffer : reopen_buffer buf used n k mode value kind bound row ≡ reopen_memory buf used n k (opening_of mode value) (bound_of kind bound)
  unfolding reopen_buffer
  reopened-buffer = rw (le-leb mode 1 mode-is) (opened-buffer buf row words causes none (reopen_memory buf used n k (opening_of mode value) (bound_of kind bound)))

module _ (kind bound mode value : ℕ) (row : List ℕ) {xs buf : List ℕ} {m : MacaqueV} (M : Made (bound_of kind bound) (opening_of mode value) xs buf m)
    (hl : opening_value (opening_of mode value) < 2 ^ 32) (bx : Below 32 xs) (ok : bound_allowed (bound_of kind bound) ≡ true)
    (most : length xs ≤ most_values) (mode-is : mode ≤ 1) (words : writer_length ≤ length row) where
  module _ (k : ℕ) (le : k ≤ length xs) where
    abbrev used : ℕ
    used = whole_bytes m.place

    abbrev now : MacaqueV
    now = writer_of (bound_of kind bound) (is_first (opening_of mode value)) (state_over (bound_of kind bound) (opening_of mode value) (take k xs))

    opens : reopen_answer buf used (length xs) k (opening_of mode value) (bound_of kind bound) ≡ answered now
    opens = (reopening-goes-back M bx hl ok most k le).0

    -- reopened at any k, the row stands for the writer after the first k inputs, and the cut bytes are those of one fresh run over these
    pub a-row-resumes : (reopen_fault buf used (length xs) k mode value kind bound row ≡ no_fault)
        × RowMade (bound_of kind bound) (opening_of mode value) (take k xs) (reopen_buffer buf used (length xs) k mode value kind bound row)
        (reopen_row buf used (length xs) k mode value kind bound row)
    a-row-resumes =
        let made = (reopening-goes-back M bx hl ok most k le).1 in (
          reopened-fault kind bound mode value row mode-is words buf used (length xs) k now opens,
          rw (reopened-buffer kind bound mode value row mode-is words buf used (length xs) k now opens)
              (row_made made hl (below-take 32 k xs bx) (bound-of-held kind bound) _ (reopened-row kind bound mode value row mode-is words buf used (length xs) k now opens)),
        )

    -- as one theorem: any further list that room and count limit allow is accepted through the reopened row, and leaves the bytes and the row of one
    -- fresh run over the first k inputs and the list
    pub row-resumed-as-one : (ys : List ℕ) → Below 32 (take k xs ++ ys) → k + length ys ≤ most_values
        → (state_over (bound_of kind bound) (opening_of mode value) (take k xs ++ ys)).place ≤ 8 * length buf
        → RowResumesAsOne xs buf used k mode value kind bound row ys
    row-resumed-as-one ys by few room =
        let r = a-row-resumes in
        let firsts : length (take k xs) ≡ k = length-take-le k xs le in
        let long = reopening-row-keeps-the-length buf used (length xs) k mode value kind bound row hl in
        let zero = a-row-is-accepted r.1 hl (below-take 32 k xs bx) ok ys (omega arith) (omega (arith, room, long)) in
        record { opens = r.0; accepts = zero; made = a-row-goes-on r.1 hl ys by (ap (λ (f : Fault). f.number) zero) }

-- ---- demand 2, of rows

module _ {b : ErrorBound} (mode value : ℕ) {xs buf row : List ℕ} (R : RowMade b (opening_of mode value) xs buf row) (mode-is : mode ≤ 1)
    (hl : opening_value (opening_of mode value) < 2 ^ 32) (bx : Below 32 xs) (most : length xs ≤ most_values) (out : List ℕ) (room : length xs ≤ length out) where
  -- the bytes in use and the count that the row tells are accepted by the grid, which draws the kept values into the output; its later places stay
  pub a-row-reads-back : (grid_fault (bytes_in_use row buf) (length_word row) mode value out ≡ no_fault)
      × (grid_out (bytes_in_use row buf) (length_word row) mode value out ≡ kept_of b (opening_of mode value) xs ++ drop (length xs) out)
  unfolding grid_fault grid_out
  a-row-reads-back =
      let used : bytes_in_use row buf ≡ take (whole_bytes (writer_in row).place) buf = ap (λ (p : ℕ). take (whole_bytes p) buf) (sym (place-word R)) in
      let g = grid-reads-back R.made bx hl most out room in
      rw (le-leb mode 1 mode-is, used, length-word R) (ap plain_fault g.0, g.1)

-- lossless: the inputs
module _ (mode value : ℕ) {xs buf row : List ℕ} (R : RowMade Lossless (opening_of mode value) xs buf row) (mode-is : mode ≤ 1)
    (hl : opening_value (opening_of mode value) < 2 ^ 32) (bx : Below 32 xs) (most : length xs ≤ most_values) (out : List ℕ) (room : length xs ≤ length out) where
  pub a-lossless-row-reads-back : (grid_fault (bytes_in_use row buf) (length_word row) mode value out ≡ no_fault) × (grid_out (bytes_in_use row buf) (length_word row) mode value out ≡ xs ++ drop (length xs) out)
  a-lossless-row-reads-back =
      let r = a-row-reads-back mode value R mode-is hl bx most out room in
      (r.0, r.1 ∙ ap (λ (vs : List ℕ). vs ++ drop (length xs) out) (lossless-keeps-the-inputs (opening_of mode value) xs))

-- ---- words that stand for no state, or for no mode

-- a row that stands for no state, one that is too short among them, is refused with 2; where its bound is there and is not allowed, with 1 first
pub no-state-is-2 : (row xs buf : List ℕ) → stands_for_state row ≡ false → write_fault row xs buf ≡ no_state (bound_allowed (bound_front row))
no-state-is-2 row xs buf h = ap plain_fault (no-state-refused row xs buf h)

pub a-short-row-is-2 : (row xs buf : List ℕ) → length row < writer_length → write_fault row xs buf ≡ no_state (bound_allowed (bound_front row))
a-short-row-is-2 row xs buf h = no-state-is-2 row xs buf (short-stands-for-none row h)

-- a mode above 1 is refused with 3: in `new` and `reopen` after the bound
pub no-mode-is-3 : (bytes : List ℕ) (count mode value : ℕ) (out : List ℕ) → 1 < mode → grid_fault bytes count mode value out ≡ fault 3
unfolding grid_fault grid_answer judge
no-mode-is-3 bytes count mode value out h = rw (lt-leb mode 1 h)
