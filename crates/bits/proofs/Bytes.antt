-- Bytes and their bits: each is known by the other, and so are their parts. Assumes nothing.
use Prim.Native.Nat.{ℕ, zero, suc, ◌+◌, ◌*◌, ◌/◌, ◌≤◌}
use mathlib.Core.Path.{◌≡◌, refl, sym, ap, ap₂, ◌∙◌}
use mathlib.Core.Bool.{Bool, false}
use mathlib.Core.List.{List, [], ◌∷◌, ◌++◌, append_assoc}
use native.Mathlib.Nat.{mod-eq_of_lt}
use native.Mathlib.Omega.{arith}
use lib.ListN.{length, take, drop, replicate, length-append, length-drop, length-replicate, take-append-drop}
use lib.Seq.{take_at, drop_at, length-take-le}
use Rattle.bits.specs.Bits.{field, value, Below, bits_of, first_bytes, bytes_of, up, padding, padded}
use Rattle.bits.proofs.Fields.{length-field, value-field, field-value, field_at-lt}
use Rattle.bits.proofs.Below.{below-nil, below-cons, below-take, below-drop}

-- ---- the bits of bytes

pub bits-append : (a b : List ℕ) → bits_of (a ++ b) ≡ bits_of a ++ bits_of b
unfolding bits_of
bits-append [] b = refl
bits-append (x ∷ a) b = rw (bits-append a b, append_assoc)

pub length-bits_of : (l : List ℕ) → length (bits_of l) ≡ 8 * length l
unfolding bits_of
length-bits_of [] = refl
length-bits_of (x ∷ l) = rw (length-append (field 8 x) (bits_of l), length-field 8 x, length-bits_of l) (omega arith)

bits-parts : (i : ℕ) (l : List ℕ) → bits_of l ≡ bits_of (take i l) ++ bits_of (drop i l)
bits-parts i l = ap bits_of (sym (take-append-drop i l)) ∙ bits-append (take i l) (drop i l)

pub bits-front : (i : ℕ) (l : List ℕ) → i ≤ length l → length (bits_of (take i l)) ≡ 8 * i
bits-front i l h = length-bits_of (take i l) ∙ ap (λ (n : ℕ). 8 * n) (length-take-le i l h)

pub bits-take : (i : ℕ) (l : List ℕ) → i ≤ length l → bits_of (take i l) ≡ take (8 * i) (bits_of l)
bits-take i l h = sym (ap (take (8 * i)) (bits-parts i l) ∙ take_at (bits_of (take i l)) (bits_of (drop i l)) (8 * i) (bits-front i l h))

pub bits-drop : (i : ℕ) (l : List ℕ) → i ≤ length l → bits_of (drop i l) ≡ drop (8 * i) (bits_of l)
bits-drop i l h = sym (ap (drop (8 * i)) (bits-parts i l) ∙ drop_at (bits_of (take i l)) (bits_of (drop i l)) (8 * i) (bits-front i l h))

-- ---- the bytes of bits

length-first : (n : ℕ) (bs : List Bool) → length (first_bytes n bs) ≡ n
unfolding first_bytes
length-first zero bs = refl
length-first (suc n) bs = ap suc (length-first n (drop 8 bs))

pub length-bytes_of : (bs : List Bool) → length (bytes_of bs) ≡ length bs / 8
unfolding bytes_of
length-bytes_of bs = length-first (length bs / 8) bs

first_below : (n : ℕ) (bs : List Bool) → Below 8 (first_bytes n bs)
unfolding first_bytes
first_below zero bs = below-nil 8
first_below (suc n) bs = below-cons 8 (value (take 8 bs)) (first_bytes n (drop 8 bs)) (field_at-lt 0 8 bs) (first_below n (drop 8 bs))

-- they are bytes
pub bytes_below : (bs : List Bool) → Below 8 (bytes_of bs)
unfolding bytes_of
bytes_below bs = first_below (length bs / 8) bs

first-bits : (l : List ℕ) → Below 8 l → first_bytes (length l) (bits_of l) ≡ l
unfolding first_bytes bits_of
first-bits [] b = refl
first-bits (x ∷ l) b =
    ap₂ (λ (y : ℕ) (t : List ℕ). y ∷ t)
    (ap value (take_at (field 8 x) (bits_of l) 8 (length-field 8 x)) ∙ value-field 8 x ∙ mod-eq_of_lt (b 0))
    (ap (first_bytes (length l)) (drop_at (field 8 x) (bits_of l) 8 (length-field 8 x)) ∙ first-bits l (λ i. b (suc i)))

pub bytes_bits : (l : List ℕ) → Below 8 l → bytes_of (bits_of l) ≡ l
unfolding bytes_of
bytes_bits l b =
    let n : length (bits_of l) / 8 ≡ length l = omega (arith, length-bits_of l) in
    ap (λ (k : ℕ). first_bytes k (bits_of l)) n ∙ first-bits l b

bits-first : (n : ℕ) (bs : List Bool) → length bs ≡ 8 * n → bits_of (first_bytes n bs) ≡ bs
unfolding first_bytes bits_of
bits-first zero [] h = refl
bits-first zero (b ∷ bs) h = absurd (omega arith)
bits-first (suc n) bs h =
    let t : length (take 8 bs) ≡ 8 = length-take-le 8 bs (omega arith) in
    ap₂ (λ (a b : List Bool). a ++ b)
    (ap (λ (k : ℕ). field k (value (take 8 bs))) (sym t) ∙ field-value (take 8 bs))
    (bits-first n (drop 8 bs) (omega (arith, length-drop 8 bs)))
    ∙ take-append-drop 8 bs

-- n whole bytes of bits
pub bits-bytes : (n : ℕ) (bs : List Bool) → length bs ≡ 8 * n → bits_of (bytes_of bs) ≡ bs
unfolding bytes_of
bits-bytes n bs h =
    let k : length bs / 8 ≡ n = omega arith in
    ap (λ (m : ℕ). bits_of (first_bytes m bs)) k ∙ bits-first n bs h

module _ (n k : ℕ) (bs : List Bool) (h : length bs ≡ 8 * n) (le : k ≤ n) where
  inside : k ≤ length (bytes_of bs)
  inside = omega (arith, length-bytes_of bs)

  pub bytes_take : bytes_of (take (8 * k) bs) ≡ take k (bytes_of bs)
  bytes_take =
      ap (λ (z : List Bool). bytes_of (take (8 * k) z)) (sym (bits-bytes n bs h))
      ∙ ap bytes_of (sym (bits-take k (bytes_of bs) inside))
      ∙ bytes_bits (take k (bytes_of bs)) (below-take 8 k (bytes_of bs) (bytes_below bs))

  pub bytes_drop : bytes_of (drop (8 * k) bs) ≡ drop k (bytes_of bs)
  bytes_drop =
      ap (λ (z : List Bool). bytes_of (drop (8 * k) z)) (sym (bits-bytes n bs h))
      ∙ ap bytes_of (sym (bits-drop k (bytes_of bs) inside))
      ∙ bytes_bits (drop k (bytes_of bs)) (below-drop 8 k (bytes_of bs) (bytes_below bs))

-- ---- filled up to whole bytes

pub length-padded : (bs : List Bool) → length (padded bs) ≡ up (length bs)
unfolding padded
length-padded bs =
    length-append bs (replicate (padding (length bs)) false) ∙ ap (λ (n : ℕ). length bs + n) (length-replicate (padding (length bs)) false) ∙ omega arith

pub take-padded : (bs : List Bool) (p : ℕ) → p ≡ length bs → take p (padded bs) ≡ bs
unfolding padded
take-padded bs p e = take_at bs (replicate (padding (length bs)) false) p (sym e)
