-- A chain of writes and reopenings through rows, each with a bound of its own, has room in as many bytes as `most_bytes` gives. Assumes nothing.
use mathlib.Core.Path.{◌≡◌, sym, ap, ap₂, ◌∙◌, subst}
use mathlib.Core.Bool.{true}
use mathlib.Core.List.{List, [], ◌∷◌, ◌++◌}
use Prim.Native.Nat.{ℕ, ◌+◌, ◌^◌, ◌≤◌, ◌<◌}
use native.Mathlib.Omega.{arith}
use lib.ListN.{length, take, drop}
use lib.Seq.{length-take-le}
use Rattle.bits.specs.Bits.{Below, whole_bytes}
use Rattle.bits.proofs.Below.{below-nil, below-take}
use Rattle.models.specs.Answers.{no_fault, answered, answered_on}
use Rattle.models.specs.declared.Fault.{Fault}
use Rattle.models.specs.Limits.{most_values}
use Rattle.models.specs.Bound.{bound_allowed, BoundHeld}
use Rattle.models.specs.declared.ErrorBound.{ErrorBound}
use Rattle.models.specs.declared.ErrorBound.TheVariants.{Lossless}
use Rattle.models.proofs.Judged.{same-answer-on}
use Rattle.stream.specs.Write.{lossless, kept, kept_from, after}
use Rattle.coding.specs.Keep.{keep_rule}
use Rattle.macaque_v.specs.State.{stream_in, writer_of, is_first, opening_value, opened}
use Rattle.macaque_v.specs.Calls.{write_answer}
use Rattle.macaque_v.specs.Read.{reopen_answer, reopen_memory}
use Rattle.macaque_v.specs.Made.{WordsSmall}
use Rattle.macaque_v.specs.Size.{most_of, AtMost}
use Rattle.macaque_v.specs.declared.MacaqueV.{MacaqueV}
use Rattle.macaque_v.specs.declared.Opening.{Opening}
use Rattle.macaque_v.proofs.Held.{made_held}
use Rattle.macaque_v.proofs.Turns.{Behind, behind, next, behind-accepts, behind-goes-on, more-length, more-below, resumed, behind-reopens}
use Rattle.exports.specs.Face.{bound_of, step_fault}
use Rattle.exports.proofs.Back.{bound-of-held, bound-front-held}
use Rattle.exports_stream.specs.Row.{writer_length, writer_row, place_word, length_word, stands_for_state, writer_in}
use Rattle.exports_stream.specs.Calls.{opening_of, new_fault, new_row, write_fault, write_row, write_buffer, reopen_fault, reopen_row, reopen_buffer}
use Rattle.exports_stream.specs.Size.{most_bytes_fault, most_bytes_number, RowTurn, writes, reopens, turns_of, AllRowsAccepted}
use Rattle.exports_stream.proofs.Words.{has_words, a-state, row_back}
use Rattle.exports_stream.proofs.Promises.{behind-words, stands-behind, a-new-row, accepted-zero, a-written-row, a-row-keeps-the-length, reopening-row-keeps-the-length, reopened-fault, reopened-row, reopened-buffer}
use Rattle.exports_stream.proofs.Room.{most-bytes-say}

-- the row stands for a writer of the bound b behind the kept values vs, and begins with its own eleven words
record RowBehind (b : ErrorBound) (o : Opening) (vs buf row : List ℕ) : Type 0 where
  writer : Behind b o vs buf (writer_in row)
  words : row ≡ writer_row (writer_in row) ++ drop writer_length row

-- a writer behind values of 32 bits has words of 32 bits
small-behind : (b : ErrorBound) (o : Opening) (vs : List ℕ) → opening_value o < 2 ^ 32 → Below 32 vs → WordsSmall (writer_of b (is_first o) (behind o vs))
unfolding keep_rule
small-behind b o vs hl bv =
    let w = made_held Lossless o vs hl bv in
    record { least = w.least; greatest = w.greatest; last = w.last; leading = w.leading; trailing = w.trailing; total = w.total }

module _ (o : Opening) (hl : opening_value o < 2 ^ 32) {b : ErrorBound} {vs buf : List ℕ} {m : MacaqueV} (M : Behind b o vs buf m) (bv : Below 32 vs) where
  -- a row that begins with its words
  row-behind : BoundHeld b → {row : List ℕ} (rest : List ℕ) → row ≡ writer_row m ++ rest → RowBehind b o vs buf row
  row-behind f {row} rest is =
      let held : BoundHeld m.error_bound = subst BoundHeld (sym (ap (λ (w : MacaqueV). w.error_bound) M.writer)) f in
      let back : writer_in row ≡ m = ap writer_in is ∙ row_back m rest held (subst WordsSmall (sym M.writer) (small-behind b o vs hl bv)) in
      record {
        writer = subst (Behind b o vs buf) (sym back) M;
        words = is ∙ ap₂ (λ (w : MacaqueV) (l : List ℕ). writer_row w ++ l) (sym back) (sym (ap (drop writer_length) is ∙ behind-words m rest));
      }

module _ (o : Opening) (hl : opening_value o < 2 ^ 32) {b : ErrorBound} {vs buf row : List ℕ} (R : RowBehind b o vs buf row) (bv : Below 32 vs) where
  stands : stands_for_state row ≡ true
  stands = stands-behind b o (kept lossless (stream_in (is_first o)) (opened o) vs) row R.writer.writer

  held : BoundHeld b
  held = subst BoundHeld (ap (λ (m : MacaqueV). m.error_bound) (a-state row stands ∙ R.writer.writer)) (bound-front-held row)

  place_is : place_word row ≡ (writer_in row).place
  place_is = ap (λ (m : MacaqueV). m.place) (a-state row stands)

  length-is : length_word row ≡ (writer_in row).length
  length-is = ap (λ (m : MacaqueV). m.length) (a-state row stands)

  -- a write
  module _ (ok : bound_allowed b ≡ true) (n : ℕ) (most : n ≤ most_values) (room : whole_bytes (most_of n o) ≤ length buf) (ys : List ℕ) (few : length vs + length ys ≤ n) (by : Below 32 ys) where
    written : write_answer (writer_in row) ys buf ≡ answered_on (next o hl R.writer bv ok n most room ys few)
    written = behind-accepts o hl R.writer bv ok n most room ys few

    row-accepts : write_fault row ys buf ≡ no_fault
    row-accepts = ap step_fault written

    row-goes-on : RowBehind b o (vs ++ kept (keep_rule b) (stream_in (is_first o)) (behind o vs) ys) (write_buffer row ys buf) (write_row row ys buf)
    row-goes-on =
        let after = accepted-zero (writer_in row) ys buf (ap (λ (f : Fault). f.number) row-accepts) in
        row-behind o hl (behind-goes-on o hl R.writer bv ok n most room ys few) (more-below o hl R.writer bv ok n most room ys few by) held _
        (a-written-row stands R.words ys buf _ written (same-answer-on (sym written ∙ after)))

-- a reopening, into the same row
module _ (mode value : ℕ) (mode-is : mode ≤ 1) (hl : opening_value (opening_of mode value) < 2 ^ 32) {b : ErrorBound} {vs buf row : List ℕ} (R : RowBehind b (opening_of mode value) vs buf row) (bv : Below 32 vs)
    (kind bound : ℕ) (ok : bound_allowed (bound_of kind bound) ≡ true) (most : length vs ≤ most_values) (k : ℕ) (le : k ≤ length vs) where
  abbrev o : Opening
  o = opening_of mode value

  abbrev used : ℕ
  used = whole_bytes (place_word row)

  abbrev now : MacaqueV
  now = resumed o hl R.writer bv (bound_of kind bound) ok most k le

  opens : reopen_answer buf used (length_word row) k o (bound_of kind bound) ≡ answered now
  opens = rw (place_is o hl R bv, length-is o hl R bv) (behind-reopens o hl R.writer bv (bound_of kind bound) ok most k le).0

  cut : Behind (bound_of kind bound) o (take k vs) (reopen_memory buf used (length_word row) k o (bound_of kind bound)) now
  cut = rw (place_is o hl R bv, length-is o hl R bv) (behind-reopens o hl R.writer bv (bound_of kind bound) ok most k le).1

  long-row : writer_length ≤ length row
  long-row = has_words row (stands o hl R bv)

  row-reopens : reopen_fault buf used (length_word row) k mode value kind bound row ≡ no_fault
  row-reopens = reopened-fault kind bound mode value row mode-is long-row buf used (length_word row) k now opens

  row-resumed : RowBehind (bound_of kind bound) o (take k vs) (reopen_buffer buf used (length_word row) k mode value kind bound row) (reopen_row buf used (length_word row) k mode value kind bound row)
  row-resumed =
      rw (reopened-buffer kind bound mode value row mode-is long-row buf used (length_word row) k now opens)
      (row-behind o hl cut (below-take 32 k vs bv) (bound-of-held kind bound) _ (reopened-row kind bound mode value row mode-is long-row buf used (length_word row) k now opens))

-- ---- turn by turn

all-rows-have-room : (mode value : ℕ) → mode ≤ 1 → opening_value (opening_of mode value) < 2 ^ 32 → (n : ℕ) → n ≤ most_values → (turns : List RowTurn) {b : ErrorBound} {vs buf row : List ℕ}
    → RowBehind b (opening_of mode value) vs buf row → Below 32 vs → bound_allowed b ≡ true → whole_bytes (most_of n (opening_of mode value)) ≤ length buf → length vs ≤ n
    → AtMost n (length vs) (turns_of turns) → AllRowsAccepted mode value row buf turns
all-rows-have-room mode value mode-is hl n most [] R bv ok room few A = tt
all-rows-have-room mode value mode-is hl n most (writes ys ∷ turns) {b} {vs} {buf} {row} R bv ok room few A =
    let o = opening_of mode value in
    let long = more-length o hl R.writer bv ok n most room ys A.0 in
    let later = subst (λ (k : ℕ). AtMost n k (turns_of turns)) (sym long) A.2 in (
      row-accepts o hl R bv ok n most room ys A.0 A.1,
      all-rows-have-room mode value mode-is hl n most turns (row-goes-on o hl R bv ok n most room ys A.0 A.1) (more-below o hl R.writer bv ok n most room ys A.0 A.1) ok
          (omega (arith, room, a-row-keeps-the-length row ys buf)) (omega (arith, long, A.0)) later,
    )
all-rows-have-room mode value mode-is hl n most (reopens k kind bound ∷ turns) {b} {vs} {buf} {row} R bv ok room few A =
    let long : length (take k vs) ≡ k = length-take-le k vs A.0 in
    let later = subst (λ (j : ℕ). AtMost n j (turns_of turns)) (sym long) A.2 in (
      row-reopens mode value mode-is hl R bv kind bound A.1 (omega arith) k A.0,
      all-rows-have-room mode value mode-is hl n most turns (row-resumed mode value mode-is hl R bv kind bound A.1 (omega arith) k A.0) (below-take 32 k vs bv) A.1
          (omega (arith, room, reopening-row-keeps-the-length buf (whole_bytes (place_word row)) (length_word row) k mode value kind bound row hl)) (omega (arith, long, A.0, few)) later,
    )

-- "a fresh writer lent that many bits, rounded up to bytes, never refuses n values with 4": neither call refuses, and through the new row every turn is accepted, be it
-- one write, a chain of writes, or one that is stopped and reopened in between, at any value and with any bound
pub most-bytes-are-enough : (kind bound mode value : ℕ) (row : List ℕ) → opening_value (opening_of mode value) < 2 ^ 32 → bound_allowed (bound_of kind bound) ≡ true → mode ≤ 1
    → writer_length ≤ length row → (n : ℕ) → n ≤ most_values → (old : ℕ) (buf : List ℕ) → most_bytes_number n mode old ≤ length buf → (turns : List RowTurn) → AtMost n 0 (turns_of turns)
    → (most_bytes_fault n mode ≡ no_fault) × (new_fault kind bound mode value row ≡ no_fault) × AllRowsAccepted mode value (new_row kind bound mode value row) buf turns
unfolding kept_from after
most-bytes-are-enough kind bound mode value row hl ok mode-is words n most old buf room turns A =
    let say = most-bytes-say n mode most mode-is old value in
    let new = a-new-row kind bound mode value row hl ok mode-is words in
    let M = new.1 buf in
    let R : RowBehind (bound_of kind bound) (opening_of mode value) [] buf (new_row kind bound mode value row) = record { writer = record { writer = M.made.writer; bytes = M.made.bytes }; words = M.words } in
    (say.0, new.0, all-rows-have-room mode value mode-is hl n most turns R (below-nil 32) ok (omega (arith, room, say.1)) (omega arith) A)
