-- Words of 32 bits are their own low bits; the state that a row stands for, case by case; and a row that was put is read back as the writer that it was
-- made of. Assumes nothing.
use mathlib.Core.Path.{◌≡◌, refl, sym, ap, ap₂, ◌∙◌, subst}
use mathlib.Core.Bool.{Bool, true, false}
use mathlib.Core.List.{List, ◌∷◌, ◌++◌}
use Prim.Native.Nat.{ℕ, zero, suc, ◌+◌, ◌%◌, ◌^◌, ◌≤◌, ◌<◌}
use native.Mathlib.Omega.{arith}
use borrow.Author.Tests.{lt-ltb, le-ltb, le-leb, lt-leb, leb-true, ltb-true, eq-eqb}
use lib.Dec.{eqb, leb}
use lib.ListN.{length, drop, get_or}
use lib.Ieee.{Float, binary32, of_bits}
use lib.Ieee.Bits.{of_bits-to_bits, of_bits-fits}
use lib.Seq.{drop-cons}
use Rattle.models.specs.Bound.{BoundHeld}
use Rattle.models.specs.declared.ErrorBound.{ErrorBound}
use Rattle.models.proofs.Tests.{and_left, and_right, and_parts}
use Rattle.macaque_v.specs.Made.{WordsSmall}
use Rattle.macaque_v.specs.declared.MacaqueV.{MacaqueV}
use Rattle.exports.specs.Words.{bound_kind, bound_bits, small, bound_front}
use Rattle.exports.proofs.Small.{low-is}
use Rattle.exports.proofs.Back.{is-small, bound-back, bound-front, flag_small, flag-back}
use Rattle.exports_stream.specs.Row.{writer_length, writer_row, sum_word, sum_after, written_row, stands_for_state, spoiled_writer, read_writer, writer_in}

pub written-long : (row : List ℕ) (m : MacaqueV) → length (written_row row m) ≡ writer_length
unfolding written_row
written-long row m = refl

-- ---- the state that a row stands for

-- the state whose six words of 32 bits are these
abbrev pub state_with : ErrorBound → List ℕ → ℕ → ℕ → ℕ → ℕ → ℕ → ℕ → MacaqueV
state_with b row min max last lead trail sum =
    record {
      error_bound = b;
      min_value = min;
      max_value = max;
      last_value = last;
      last_leading_zero_bits = lead;
      last_trailing_zero_bits = trail;
      with_first = eqb (get_or row 7 0) 1;
      place = get_or row 8 0;
      length = get_or row 9 0;
      sum = of_bits binary32 sum;
    }

module _ (row : List ℕ) where
  -- a row that is too short stands for none
  pub short-stands-for-none : length row < writer_length → stands_for_state row ≡ false
  unfolding stands_for_state
  short-stands-for-none h = rw (lt-leb writer_length (length row) h)

  pub no-state : stands_for_state row ≡ false → spoiled_writer (bound_front row) ≡ writer_in row
  unfolding writer_in
  no-state h = sym (rw h)

  module _ (h : stands_for_state row ≡ true) where
    pub has_words : writer_length ≤ length row
    unfolding stands_for_state
    has_words = leb-true writer_length (length row) (and_left _ _ h)

    pub a-state : read_writer (bound_front row) row ≡ writer_in row
    unfolding writer_in
    a-state = sym (rw h)

    pub low-words : (b : ErrorBound)
        → state_with b row (get_or row 2 0 % 2 ^ 32) (get_or row 3 0 % 2 ^ 32) (get_or row 4 0 % 2 ^ 32) (get_or row 5 0 % 2 ^ 32) (get_or row 6 0 % 2 ^ 32) (get_or row 10 0 % 2 ^ 32) ≡ read_writer b row
    unfolding stands_for_state
    low-words b =
        let t2 = and_parts (small (get_or row 2 0)) _ (and_right (leb writer_length (length row)) _ h) in
        let t3 = and_parts (small (get_or row 3 0)) _ t2.1 in
        let t4 = and_parts (small (get_or row 4 0)) _ t3.1 in
        let t5 = and_parts (small (get_or row 5 0)) _ t4.1 in
        let t6 = and_parts (small (get_or row 6 0)) _ t5.1 in
        let t10 = and_right (leb (get_or row 7 0) 1) (small (sum_word row)) t6.1 in
        ap₂ (λ (x y : ℕ). state_with b row x y (get_or row 4 0 % 2 ^ 32) (get_or row 5 0 % 2 ^ 32) (get_or row 6 0 % 2 ^ 32) (get_or row 10 0 % 2 ^ 32)) (low-is (get_or row 2 0) t2.0) (low-is (get_or row 3 0) t3.0)
        ∙ ap₂ (λ (x y : ℕ). state_with b row (get_or row 2 0) (get_or row 3 0) x y (get_or row 6 0 % 2 ^ 32) (get_or row 10 0 % 2 ^ 32)) (low-is (get_or row 4 0) t4.0) (low-is (get_or row 5 0) t5.0)
        ∙ ap₂ (λ (x y : ℕ). state_with b row (get_or row 2 0) (get_or row 3 0) (get_or row 4 0) (get_or row 5 0) x y) (low-is (get_or row 6 0) t6.0) (low-is (get_or row 10 0) t10)

    -- its flag is 0 or 1
    pub flag-of : leb (get_or row 7 0) 1 ≡ true
    unfolding stands_for_state
    flag-of =
        let t2 = and_right (small (get_or row 2 0)) _ (and_right (leb writer_length (length row)) _ h) in
        let t4 = and_right (small (get_or row 4 0)) _ (and_right (small (get_or row 3 0)) _ t2) in
        and_left _ _ (and_right (small (get_or row 6 0)) _ (and_right (small (get_or row 5 0)) _ t4))

    -- its sum has 32 bits
    pub sum-small : small (sum_word row) ≡ true
    unfolding stands_for_state
    sum-small =
        let t2 = and_right (small (get_or row 2 0)) _ (and_right (leb writer_length (length row)) _ h) in
        let t4 = and_right (small (get_or row 4 0)) _ (and_right (small (get_or row 3 0)) _ t2) in
        and_right (leb (get_or row 7 0) 1) _ (and_right (small (get_or row 6 0)) _ (and_right (small (get_or row 5 0)) _ t4))

    -- and the writer's words are of 32 bits, and its sum is an f32
    pub words_small : WordsSmall (writer_in row)
    unfolding stands_for_state
    words_small =
        let t2 = and_parts (small (get_or row 2 0)) _ (and_right (leb writer_length (length row)) _ h) in
        let t3 = and_parts (small (get_or row 3 0)) _ t2.1 in
        let t4 = and_parts (small (get_or row 4 0)) _ t3.1 in
        let t5 = and_parts (small (get_or row 5 0)) _ t4.1 in
        let t6 = and_parts (small (get_or row 6 0)) _ t5.1 in
        subst WordsSmall a-state
        (record {
          least = ltb-true (get_or row 2 0) (2 ^ 32) t2.0;
          greatest = ltb-true (get_or row 3 0) (2 ^ 32) t3.0;
          last = ltb-true (get_or row 4 0) (2 ^ 32) t4.0;
          leading = ltb-true (get_or row 5 0) (2 ^ 32) t5.0;
          trailing = ltb-true (get_or row 6 0) (2 ^ 32) t6.0;
          total = of_bits-fits binary32 (sum_word row);
        })

-- a writer like n with another bound, mode and sum
abbrev writer_with : ErrorBound → Bool → Float → MacaqueV → MacaqueV
writer_with b f s n =
    record {
      error_bound = b;
      min_value = n.min_value;
      max_value = n.max_value;
      last_value = n.last_value;
      last_leading_zero_bits = n.last_leading_zero_bits;
      last_trailing_zero_bits = n.last_trailing_zero_bits;
      with_first = f;
      place = n.place;
      length = n.length;
      sum = s;
    }

-- the tests of 32 bits that a writer's words pass
record Passes (m : MacaqueV) : Type 0 where
  pub least : small m.min_value ≡ true
  pub greatest : small m.max_value ≡ true
  pub last : small m.last_value ≡ true
  pub leading : small m.last_leading_zero_bits ≡ true
  pub trailing : small m.last_trailing_zero_bits ≡ true

passes : (m : MacaqueV) → WordsSmall m → Passes m
passes m s =
    record {
      least = lt-ltb m.min_value (2 ^ 32) s.least;
      greatest = lt-ltb m.max_value (2 ^ 32) s.greatest;
      last = lt-ltb m.last_value (2 ^ 32) s.last;
      leading = lt-ltb m.last_leading_zero_bits (2 ^ 32) s.leading;
      trailing = lt-ltb m.last_trailing_zero_bits (2 ^ 32) s.trailing;
    }

-- ---- a row is read back as the writer that it was made of

pub row_back : (m : MacaqueV) (rest : List ℕ) → BoundHeld m.error_bound → WordsSmall m → writer_in (writer_row m ++ rest) ≡ m
unfolding writer_row writer_in stands_for_state
row_back m rest f s =
    let few = le-leb writer_length (length (writer_row m ++ rest)) (omega arith) in
    let t = passes m s in
    rw (few, t.least, t.greatest, t.last, t.leading, t.trailing, flag_small m.with_first, flag-back m.with_first, is-small m.sum s.total, of_bits-to_bits binary32 m.sum s.total, bound-front (bound_kind m.error_bound) (bound_bits m.error_bound) _, bound-back m.error_bound f)

-- such a row stands for a state
pub row-stands : (m : MacaqueV) (rest : List ℕ) → WordsSmall m → stands_for_state (writer_row m ++ rest) ≡ true
unfolding writer_row stands_for_state
row-stands m rest s =
    let few = le-leb writer_length (length (writer_row m ++ rest)) (omega arith) in
    let t = passes m s in
    rw (few, t.least, t.greatest, t.last, t.leading, t.trailing, flag_small m.with_first, is-small m.sum s.total) refl

-- and so is a row that a write left of any row that stands for a state: its words of the bound and of the mode are those of the writer
pub written_back : (row : List ℕ) (n : MacaqueV) (rest : List ℕ) → stands_for_state row ≡ true → n.error_bound ≡ bound_front row → n.with_first ≡ eqb (get_or row 7 0) 1
    → WordsSmall n → small (sum_after row n) ≡ true → of_bits binary32 (sum_after row n) ≡ n.sum → writer_in (written_row row n ++ rest) ≡ n
unfolding written_row writer_in stands_for_state bound_front
written_back row n rest h bound mode s few_bits sum =
    let few = le-leb writer_length (length (written_row row n ++ rest)) (omega arith) in
    let words = has_words row h in
    let t = passes n s in
    rw (few, t.least, t.greatest, t.last, t.leading, t.trailing, flag-of row h, few_bits)
    (ap₂ (λ (b : ErrorBound) (f : Bool). writer_with b f (of_bits binary32 (sum_after row n)) n)
    (sym (bound ∙ rw (le-ltb (length row) 2 (omega (arith, words))) (sym (bound-front (get_or row 0 0) (get_or row 1 0) (drop 2 (written_row row n ++ rest)))))) (sym mode)
    ∙ ap (λ (x : Float). writer_with n.error_bound n.with_first x n) sum)

pub written_stands : (row : List ℕ) (n : MacaqueV) (rest : List ℕ) → stands_for_state row ≡ true → WordsSmall n → small (sum_after row n) ≡ true
    → stands_for_state (written_row row n ++ rest) ≡ true
unfolding written_row stands_for_state
written_stands row n rest h s few_bits =
    let few = le-leb writer_length (length (written_row row n ++ rest)) (omega arith) in
    let t = passes n s in
    rw (few, t.least, t.greatest, t.last, t.leading, t.trailing, flag-of row h, few_bits) refl

-- the words of the state that a row stands for are the row's own

-- a list, with n of its elements from j on spelled out
abbrev spelled : List ℕ → ℕ → ℕ → List ℕ
spelled row j zero = drop j row
spelled row j (suc n) = get_or row j 0 ∷ spelled row (suc j) n

spelled_is : (row : List ℕ) (j n : ℕ) → j + n ≤ length row → spelled row j n ≡ drop j row
spelled_is row j zero h = refl
spelled_is row j (suc n) h = ap (λ (l : List ℕ). get_or row j 0 ∷ l) (spelled_is row (suc j) n (omega arith)) ∙ sym (drop-cons row j 0 (omega arith))

pub own-words : (row : List ℕ) → stands_for_state row ≡ true → written_row row (writer_in row) ++ drop writer_length row ≡ row
unfolding written_row
own-words row h =
    ap (λ (m : MacaqueV). written_row row m ++ drop writer_length row) (sym (a-state row h)) ∙ rw (eq-eqb (get_or row 9 0) (get_or row 9 0) refl) (spelled_is row 0 writer_length (has_words row h))
