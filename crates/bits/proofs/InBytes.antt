-- Puts and cuts in lent bytes: `laid_in` and `cut_in`. What they change, what they keep, and how they follow each other. Assumes nothing.
use Prim.Native.Nat.{ℕ, ◌+◌, ◌*◌, ◌≤◌, ◌<◌}
use mathlib.Core.Path.{◌≡◌, sym, ap, ap₂, ◌∙◌}
use mathlib.Core.Bool.{Bool}
use mathlib.Core.List.{List, [], ◌∷◌, ◌++◌, append-nil}
use native.Mathlib.Nat.{add-zero}
use native.Mathlib.Omega.{arith}
use lib.ListN.{length, take, drop}
use lib.Seq.{take-take}
use Rattle.bits.specs.Bits.{Below, bits_of, bytes_of, whole_bytes, up, padded, laid, cut_at, laid_in, cut_in}
use Rattle.bits.proofs.Bytes.{length-bits_of, bits-take, length-bytes_of, bytes_below, bytes_bits, bits-bytes, bytes_take, bytes_drop}
use Rattle.bits.proofs.Writes.{laid-laid, laid-before, laid-after, length-laid, laid-used, cut-whole, cut-before, cut-after, length_cut, cut-used, cut_again, laid-cut}

-- ---- a put

-- bytes that have the bits of a put are the put
pub laid_in-is : (l m : List ℕ) (p : ℕ) (b : List Bool) → Below 8 m → bits_of m ≡ laid (bits_of l) p b → m ≡ laid_in l p b
unfolding laid_in
laid_in-is l m p b h e = sym (bytes_bits m h) ∙ ap bytes_of e

-- an empty put changes nothing
pub laid_in-nothing : (l : List ℕ) (p : ℕ) → Below 8 l → laid_in l p [] ≡ l
unfolding laid_in laid
laid_in-nothing l p h = bytes_bits l h

module _ (l : List ℕ) (p : ℕ) (b : List Bool) (room : p + length b ≤ 8 * length l) where
  inside : p ≤ length (bits_of l)
  inside = omega (arith, length-bits_of l)

  laid-long : length (laid (bits_of l) p b) ≡ 8 * length l
  laid-long = length-laid (bits_of l) p b inside (omega (arith, length-bits_of l)) ∙ length-bits_of l

  pub bits-laid_in : bits_of (laid_in l p b) ≡ laid (bits_of l) p b
  unfolding laid_in
  bits-laid_in = bits-bytes (length l) (laid (bits_of l) p b) laid-long

  pub length-laid_in : length (laid_in l p b) ≡ length l
  unfolding laid_in
  length-laid_in = omega (arith, length-bytes_of (laid (bits_of l) p b), laid-long)

  -- a put behind a put is one put
  pub laid_in-laid_in : (c : List Bool) → laid_in (laid_in l p b) (p + length b) c ≡ laid_in l p (b ++ c)
  unfolding laid_in
  laid_in-laid_in c = go (laid_in l p b) bits-laid_in
    where
      go : (m : List ℕ) → bits_of m ≡ laid (bits_of l) p b → laid_in m (p + length b) c ≡ laid_in l p (b ++ c)
      go m e = ap (λ (z : List Bool). bytes_of (laid z (p + length b) c)) e ∙ ap bytes_of (laid-laid (bits_of l) p b c inside)

  -- the bits before the place stay
  pub laid_in-before : (q : ℕ) → q ≤ p → take q (bits_of (laid_in l p b)) ≡ take q (bits_of l)
  laid_in-before q h = ap (take q) bits-laid_in ∙ laid-before (bits_of l) p b inside q h

  -- so do the bytes behind the last that is touched
  pub laid_in-after : (q : ℕ) → whole_bytes (p + length b) ≤ q → q ≤ length l → Below 8 l → drop q (laid_in l p b) ≡ drop q l
  unfolding laid_in
  laid_in-after q h le small =
      sym (bytes_drop (length l) q (laid (bits_of l) p b) laid-long le)
      ∙ ap bytes_of (laid-after (bits_of l) p b inside (8 * q) (omega arith))
      ∙ bytes_drop (length l) q (bits_of l) (length-bits_of l) le
      ∙ ap (drop q) (bytes_bits l small)

  -- the bytes in use after it
  pub laid_in-used : 0 < length b → take (whole_bytes (p + length b)) (laid_in l p b) ≡ bytes_of (padded (take p (bits_of l) ++ b))
  unfolding laid_in
  laid_in-used h =
      sym (bytes_take (length l) (whole_bytes (p + length b)) (laid (bits_of l) p b) laid-long (omega arith))
      ∙ ap bytes_of (laid-used (bits_of l) p b inside h)

-- ---- a cut

pub cut_in-below : (l : List ℕ) (p : ℕ) → Below 8 (cut_in l p)
unfolding cut_in
cut_in-below l p = bytes_below (cut_at (bits_of l) p)

pub cut_in-is : (l m : List ℕ) (p : ℕ) → Below 8 m → bits_of m ≡ cut_at (bits_of l) p → m ≡ cut_in l p
unfolding cut_in
cut_in-is l m p h e = sym (bytes_bits m h) ∙ ap bytes_of e

module _ (l : List ℕ) (p : ℕ) (room : p ≤ 8 * length l) where
  cut_inside : p ≤ length (bits_of l)
  cut_inside = omega (arith, length-bits_of l)

  cut-long : length (cut_at (bits_of l) p) ≡ 8 * length l
  cut-long = length_cut (bits_of l) p cut_inside (omega (arith, length-bits_of l)) ∙ length-bits_of l

  pub bits-cut_in : bits_of (cut_in l p) ≡ cut_at (bits_of l) p
  unfolding cut_in
  bits-cut_in = bits-bytes (length l) (cut_at (bits_of l) p) cut-long

  pub length-cut_in : length (cut_in l p) ≡ length l
  unfolding cut_in
  length-cut_in = omega (arith, length-bytes_of (cut_at (bits_of l) p), cut-long)

  -- a place that cuts no byte changes nothing
  pub cut_in-whole : up p ≡ p → Below 8 l → cut_in l p ≡ l
  unfolding cut_in
  cut_in-whole e h = ap bytes_of (cut-whole (bits_of l) p cut_inside e) ∙ bytes_bits l h

  pub cut_in-before : (q : ℕ) → q ≤ p → take q (bits_of (cut_in l p)) ≡ take q (bits_of l)
  cut_in-before q h = ap (take q) bits-cut_in ∙ cut-before (bits_of l) p cut_inside q h

  pub cut_in-after : (q : ℕ) → whole_bytes p ≤ q → q ≤ length l → Below 8 l → drop q (cut_in l p) ≡ drop q l
  unfolding cut_in
  cut_in-after q h le small =
      sym (bytes_drop (length l) q (cut_at (bits_of l) p) cut-long le)
      ∙ ap bytes_of (cut-after (bits_of l) p cut_inside (8 * q) (omega arith))
      ∙ bytes_drop (length l) q (bits_of l) (length-bits_of l) le
      ∙ ap (drop q) (bytes_bits l small)

  pub cut_in-used : take (whole_bytes p) (cut_in l p) ≡ bytes_of (padded (take p (bits_of l)))
  unfolding cut_in
  cut_in-used =
      sym (bytes_take (length l) (whole_bytes p) (cut_at (bits_of l) p) cut-long (omega arith))
      ∙ ap bytes_of (cut-used (bits_of l) p cut_inside)

  -- a second cut there changes nothing more
  pub cut_in-again : cut_in (cut_in l p) p ≡ cut_in l p
  unfolding cut_in
  cut_in-again = ap (λ (z : List Bool). bytes_of (cut_at z p)) bits-cut_in ∙ ap bytes_of (cut_again (bits_of l) p cut_inside)

  -- a put at the place of a cut lies over what the cut zeroed
  pub laid_in-cut_in : (b : List Bool) → 0 < length b → laid_in (cut_in l p) p b ≡ laid_in l p b
  unfolding laid_in
  laid_in-cut_in b h = ap (λ (z : List Bool). bytes_of (laid z p b)) bits-cut_in ∙ ap bytes_of (laid-cut (bits_of l) p cut_inside b h)

  -- cut there, and then a put, an empty one too: the bytes in use
  pub cut_in-laid_in-used : (b : List Bool) → p + length b ≤ 8 * length l
      → take (whole_bytes (p + length b)) (laid_in (cut_in l p) p b) ≡ bytes_of (padded (take p (bits_of l) ++ b))
  cut_in-laid_in-used [] h =
      ap₂ (λ (n : ℕ) (z : List ℕ). take (whole_bytes n) z) (add-zero p) (laid_in-nothing (cut_in l p) p (cut_in-below l p))
      ∙ cut_in-used ∙ ap (λ (z : List Bool). bytes_of (padded z)) (sym (append-nil (take p (bits_of l))))
  cut_in-laid_in-used (x ∷ b) h =
      ap (take (whole_bytes (p + length (x ∷ b)))) (laid_in-cut_in (x ∷ b) (omega arith)) ∙ laid_in-used l p (x ∷ b) h (omega arith)

-- the bits of the first q bytes, up to a place in them
pub take-bits : (l : List ℕ) (q p : ℕ) → q ≤ length l → p ≤ 8 * q → take p (bits_of (take q l)) ≡ take p (bits_of l)
take-bits l q p h le = ap (take p) (bits-take q l h) ∙ take-take p (8 * q) (bits_of l) le
