-- What is kept, through rows (document 02, W10): every value that the grid draws behind a write passes the within call of the C face against its input, with the
-- bound's two words as they stand in the row. Assumes nothing.
use mathlib.Core.Path.{◌≡◌, refl, sym, ap, ap₂, ◌∙◌, subst}
use mathlib.Core.Bool.{Bool, true, false, cond, ◌&&◌, false≢true}
use mathlib.Core.List.{List}
use Prim.Native.Nat.{ℕ, ◌^◌, ◌≤◌, ◌<◌}
use native.Mathlib.Omega.{arith}
use borrow.Author.Tests.{le-leb, le-ltb, leb-true}
use lib.Dec.{ltb}
use lib.Ieee.{nan}
use lib.ListN.{length, take, get_or}
use Rattle.bits.specs.Bits.{Below, whole_bytes}
use Rattle.models.specs.Answers.{no_fault, answered, answered_on}
use Rattle.models.specs.Limits.{most_values}
use Rattle.models.specs.Floats.{is_finite}
use Rattle.models.specs.Bound.{bound_allowed, BoundHeld}
use Rattle.models.specs.Calls.{within_answer}
use Rattle.models.specs.declared.ErrorBound.{ErrorBound}
use Rattle.models.specs.declared.ErrorBound.TheVariants.{Lossless, Absolute}
use Rattle.models.proofs.Tests.{and_left}
use Rattle.macaque_v.specs.State.{opening_value}
use Rattle.macaque_v.specs.Write.{writer_at, wrote_by}
use Rattle.macaque_v.specs.Calls.{write_answer}
use Rattle.macaque_v.specs.Read.{values_in}
use Rattle.macaque_v.specs.Kept.{KeptWithin}
use Rattle.macaque_v.specs.declared.MacaqueV.{MacaqueV}
use Rattle.macaque_v.specs.declared.Opening.{Opening}
use Rattle.macaque_v.proofs.Kept as call
use Rattle.macaque_v.proofs.Promises.{any-stream-resumes}
use Rattle.macaque_v.proofs.Sums.{its-values, a-reopened-writer-is-of-its-bytes}
use Rattle.exports.specs.Face.{bound_of, fault_said, row_after, plain_fault}
use Rattle.exports.proofs.Back.{bound-of-held}
use Rattle.exports.specs.Words.{small, bound_in, bound_front}
use Rattle.exports_stream.specs.Row.{writer_length, stands_for_state, read_writer, writer_in, bytes_in_use, length_word}
use Rattle.exports_stream.specs.Calls.{opening_of, write_fault, write_row, reopen_fault, reopen_row, reopen_buffer, grid_fault, grid_out, RowMade, RowOfItsBytes, RowKeptWithin, RowWritesOn, RowResumesAny}
use Rattle.exports_stream.proofs.Words.{a-state, row_back}
use Rattle.exports_stream.proofs.Promises.{a-made-row-stands, place-word, length-word, accepted-zero, reopened-fault, reopened-row, reopened-buffer}
use Rattle.exports_stream.proofs.Sums.{row-of-the-reopened, a-written-row-stands, row-after-a-write}

-- ---- an allowed bound is that of the row's first two words

by_size : (t : Bool) (b : ErrorBound) → bound_allowed (cond t b (Absolute nan)) ≡ true → cond t b (Absolute nan) ≡ b
unfolding bound_allowed is_finite
by_size true b e = refl
by_size false b e = absurd (false≢true e)

front-is : (row : List ℕ) → stands_for_state row ≡ true → bound_allowed (bound_front row) ≡ true → bound_front row ≡ bound_of (get_or row 0 0) (get_or row 1 0)
unfolding bound_front bound_in stands_for_state
front-is row h ok =
    let two : ltb (length row) 2 ≡ false = le-ltb (length row) 2 (omega (arith, leb-true writer_length (length row) (and_left _ _ h))) in
    let is : bound_front row ≡ bound_in (get_or row 0 0) (get_or row 1 0) = ap (λ (t : Bool). cond t Lossless (bound_in (get_or row 0 0) (get_or row 1 0))) two in
    is ∙ by_size (small (get_or row 0 0) && small (get_or row 1 0)) (bound_of (get_or row 0 0) (get_or row 1 0)) (sym (ap bound_allowed is) ∙ ok)

-- what the call says of values, said through the C face
pub through-the-row : (row xs vs : List ℕ) (b : ErrorBound) → b ≡ bound_of (get_or row 0 0) (get_or row 1 0) → KeptWithin b xs vs → RowKeptWithin row xs vs
unfolding fault_said row_after
through-the-row row xs vs b is K =
    record {
      as_many = K.as_many;
      passes = λ i h out room.
          let said : within_answer (bound_of (get_or row 0 0) (get_or row 1 0)) (get_or xs i 0) (get_or vs i 0) ≡ answered true =
          ap (λ (c : ErrorBound). within_answer c (get_or xs i 0) (get_or vs i 0)) (sym is) ∙ K.passes i h in
          rw (said, le-leb 1 (length out) room) (refl, refl);
    }

-- ---- a row that writes, stops and resumes have made

module _ {b : ErrorBound} (mode value : ℕ) {xs buf row : List ℕ} (R : RowMade b (opening_of mode value) xs buf row) (mode-is : mode ≤ 1)
    (hl : opening_value (opening_of mode value) < 2 ^ 32) (bx : Below 32 xs) (ok : bound_allowed b ≡ true) (most : length xs ≤ most_values) (out : List ℕ) (room : length xs ≤ length out) where
  -- each value that the grid draws of the bytes in use passes the within call against its input
  pub a-row-kept-within : (grid_fault (bytes_in_use row buf) (length_word row) mode value out ≡ no_fault)
      × RowKeptWithin row xs (take (length xs) (grid_out (bytes_in_use row buf) (length_word row) mode value out))
  unfolding grid_fault grid_out
  a-row-kept-within =
      let stands = a-made-row-stands R in
      let front : bound_front row ≡ b = ap (λ (m : MacaqueV). m.error_bound) (a-state row stands ∙ R.made.writer) in
      let is : b ≡ bound_of (get_or row 0 0) (get_or row 1 0) = sym front ∙ front-is row stands (ap bound_allowed front ∙ ok) in
      let used : bytes_in_use row buf ≡ take (whole_bytes (writer_in row).place) buf = ap (λ (p : ℕ). take (whole_bytes p) buf) (sym (place-word R)) in
      let K = call.kept-within R.made bx hl ok most out room in
      rw (le-leb mode 1 mode-is, used, length-word R) (ap plain_fault K.0, through-the-row row xs _ b is K.1)

-- ---- an accepted write through any row of its bytes: the values before it stay, and each new one passes

module _ (mode value : ℕ) (mode-is : mode ≤ 1) (hl : opening_value (opening_of mode value) < 2 ^ 32) {buf row : List ℕ} (R : RowOfItsBytes mode value buf row) (small_bytes : Below 8 buf)
    (ys : List ℕ) (by : Below 32 ys) (zero : (write_fault row ys buf).number ≡ 0) (out : List ℕ) (room : length_word (write_row row ys buf) ≤ length out) where
  pub a-row-newly-kept-within : RowWritesOn mode value buf row R.writer.values ys out
  unfolding grid_fault grid_out
  a-row-newly-kept-within =
      let m : MacaqueV = writer_in row in
      let n : MacaqueV = writer_at m (wrote_by m ys) in
      let h : write_answer m ys buf ≡ answered_on n = accepted-zero m ys buf zero in
      let now : read_writer (bound_front (write_row row ys buf)) (write_row row ys buf) ≡ n =
      a-state (write_row row ys buf) (a-written-row-stands mode value mode-is hl R small_bytes ys by zero) ∙ row-after-a-write mode value mode-is hl R small_bytes ys by zero in
      let before : read_writer (bound_front row) row ≡ m = a-state row R.stands in
      let place : get_or (write_row row ys buf) 8 0 ≡ n.place = ap (λ (w : MacaqueV). w.place) now in
      let count : length_word (write_row row ys buf) ≡ n.length = ap (λ (w : MacaqueV). w.length) now in
      let first : length_word row ≡ m.length = ap (λ (w : MacaqueV). w.length) before in
      let front : bound_front row ≡ m.error_bound = ap (λ (w : MacaqueV). w.error_bound) before in
      let is : m.error_bound ≡ bound_of (get_or row 0 0) (get_or row 1 0) =
      sym front ∙ front-is row R.stands (ap bound_allowed front ∙ call.bound-allowed m n ys buf h) in
      let K = call.newly-kept-within R.writer hl small_bytes ys by n h out (subst (λ (j : ℕ). j ≤ length out) count room) in
      record {
        draws = rw (le-leb mode 1 mode-is, place, count) (ap plain_fault K.0);
        before = rw (le-leb mode 1 mode-is, place, count, first) K.1;
        newly = rw (le-leb mode 1 mode-is, place, count, first) (through-the-row row ys _ m.error_bound is K.2);
      }

-- ---- any accepted stream, reopened at k and written on: it reads as its first k values and the newly kept ones

module _ (mode value kind bound : ℕ) (mode-is : mode ≤ 1) (hl : opening_value (opening_of mode value) < 2 ^ 32) (ok : bound_allowed (bound_of kind bound) ≡ true) (n k used : ℕ) (buf vs : List ℕ)
    (most : n ≤ most_values) (le : k ≤ n) (fits : used ≤ length buf) (reads : values_in (take used buf) n (opening_of mode value) ≡ answered vs) (row : List ℕ) (words : writer_length ≤ length row) where
  pub any-row-resumes : RowResumesAny mode value vs k (reopen_fault buf used n k mode value kind bound row) (reopen_row buf used n k mode value kind bound row) (reopen_buffer buf used n k mode value kind bound row)
  any-row-resumes =
      let o : Opening = opening_of mode value in
      let b : ErrorBound = bound_of kind bound in
      let after : List ℕ = reopen_row buf used n k mode value kind bound row in
      let cut : List ℕ = reopen_buffer buf used n k mode value kind bound row in
      let S = any-stream-resumes b o n k used buf vs ok hl most le fits reads in
      let m : MacaqueV = S.writer in
      let A = a-reopened-writer-is-of-its-bytes b o hl buf used n k m S.opens in
      let opened : reopen_fault buf used n k mode value kind bound row ≡ no_fault = reopened-fault kind bound mode value row mode-is words buf used n k m S.opens in
      let row_is = reopened-row kind bound mode value row mode-is words buf used n k m S.opens in
      let buffer-is = reopened-buffer kind bound mode value row mode-is words buf used n k m S.opens in
      let R = (row-of-the-reopened mode value kind bound hl buf used n k m S.opens after cut _ row_is buffer-is).0 in
      let back : writer_in after ≡ m = ap writer_in row_is ∙ row_back m _ (subst BoundHeld (sym A.bound) (bound-of-held kind bound)) A.held in
      let firsts : R.writer.values ≡ take k vs =
      its-values R.writer (take k vs) (ap₂ (λ (w : MacaqueV) (z : List ℕ). values_in (take (whole_bytes w.place) z) w.length o) back buffer-is ∙ A.firsts vs reads) in
      record {
        opens = opened;
        counted = ap (λ (w : MacaqueV). w.length) (a-state after R.stands ∙ back) ∙ A.counted;
        goes_on = λ ys by zero out room.
            subst (λ (us : List ℕ). RowWritesOn mode value cut after us ys out) firsts
            (a-row-newly-kept-within mode value mode-is hl R (subst (Below 8) (sym buffer-is) A.bytes) ys by zero out room);
      }
