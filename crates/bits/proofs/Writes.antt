-- What a write at a place leaves of bits: what it changes, what it keeps, and that a write behind a write is one write. Assumes nothing.
use Prim.Native.Nat.{ℕ, ◌+◌, ◌-◌, ◌≤◌, ◌<◌}
use mathlib.Core.Path.{◌≡◌, refl, sym, ap, ap₂, ◌∙◌}
use mathlib.Core.Bool.{Bool, false}
use mathlib.Core.List.{List, [], ◌∷◌, ◌++◌, append_assoc, append-nil}
use native.Mathlib.Nat.{add-zero, add_assoc}
use native.Mathlib.Omega.{arith}
use lib.ListN.{length, take, drop, replicate, length-append, length-replicate, length-drop, take-append-drop}
use lib.Seq.{take_at, drop_at, take-take, drop-drop, take-append-le, length-take-le}
use Rattle.bits.specs.Bits.{up, padding, padded, write, laid, cut_at}

-- ---- the bits b at the place p, and zeros up to e

pub write-nothing : (s : List Bool) (p : ℕ) → write s p [] p ≡ s
unfolding write
write-nothing s p =
    let z : p - (p + 0) ≡ 0 = omega arith in
    rw z (take-append-drop p s)

module _ (s : List Bool) (p : ℕ) (b : List Bool) (e : ℕ) (hp : p ≤ length s) where
  before-long : length (take p s ++ b) ≡ p + length b
  before-long = length-append (take p s) b ∙ ap (λ (n : ℕ). n + length b) (length-take-le p s hp)

  pub write-front : take (p + length b) (write s p b e) ≡ take p s ++ b
  unfolding write
  write-front =
      ap (take (p + length b)) (sym (append_assoc (take p s) b (replicate (e - (p + length b)) false ++ drop e s)))
      ∙ take_at (take p s ++ b) (replicate (e - (p + length b)) false ++ drop e s) (p + length b) before-long

  -- what stands before stays
  pub write-before : (q : ℕ) → q ≤ p → take q (write s p b e) ≡ take q s
  write-before q hq =
      sym (take-take q (p + length b) (write s p b e) (omega arith)) ∙ ap (take q) write-front
      ∙ take-append-le q (take p s) b (omega (arith, length-take-le p s hp)) ∙ take-take q p s hq

  module _ (hb : p + length b ≤ e) where
    front_long : length (take p s ++ (b ++ replicate (e - (p + length b)) false)) ≡ e
    front_long =
        rw (length-append (take p s) (b ++ replicate (e - (p + length b)) false), length-append b (replicate (e - (p + length b)) false), length-take-le p s hp, length-replicate (e - (p + length b)) false)
        (omega arith)

    regroup : write s p b e ≡ (take p s ++ (b ++ replicate (e - (p + length b)) false)) ++ drop e s
    unfolding write
    regroup = simp append_assoc

    pub write-used : take e (write s p b e) ≡ take p s ++ (b ++ replicate (e - (p + length b)) false)
    write-used = ap (take e) regroup ∙ take_at (take p s ++ (b ++ replicate (e - (p + length b)) false)) (drop e s) e front_long

    -- what stands behind stays
    pub write-after : (q : ℕ) → e ≤ q → drop q (write s p b e) ≡ drop q s
    write-after q h =
        let w : List Bool = write s p b e in
        let far : e + (q - e) ≡ q = omega arith in
        ap (λ (k : ℕ). drop k w) (sym far) ∙ sym (drop-drop (q - e) e w)
        ∙ ap (drop (q - e)) (ap (drop e) regroup ∙ drop_at (take p s ++ (b ++ replicate (e - (p + length b)) false)) (drop e s) e front_long)
        ∙ drop-drop (q - e) e s ∙ ap (λ (k : ℕ). drop k s) far

    pub length-write : e ≤ length s → length (write s p b e) ≡ length s
    length-write he =
        ap length regroup ∙ length-append (take p s ++ (b ++ replicate (e - (p + length b)) false)) (drop e s)
        ∙ ap₂ (λ (x y : ℕ). x + y) front_long (length-drop e s) ∙ omega arith

-- a write behind a write is one write
pub write-write : (s : List Bool) (p : ℕ) (a : List Bool) (e : ℕ) (b : List Bool) (e' : ℕ) → p ≤ length s → p + length a ≤ e → e ≤ e'
    → write (write s p a e) (p + length a) b e' ≡ write s p (a ++ b) e'
unfolding write
write-write s p a e b e' hp ha he = go (write s p a e) (write-front s p a e hp) (write-after s p a e hp ha e' he)
  where
    go : (w : List Bool) → take (p + length a) w ≡ take p s ++ a → drop e' w ≡ drop e' s → write w (p + length a) b e' ≡ write s p (a ++ b) e'
    go w front back = rw (front, back) (simp (append_assoc, length-append, add_assoc))

-- ---- a write up to the end of its last byte

pub laid-write : (s : List Bool) (p : ℕ) (b : List Bool) → 0 < length b → laid s p b ≡ write s p b (up (p + length b))
unfolding laid
laid-write s p [] h = absurd (omega arith)
laid-write s p (x ∷ b) h = refl

-- a put behind a put is one put
pub laid-laid : (s : List Bool) (p : ℕ) (a b : List Bool) → p ≤ length s → laid (laid s p a) (p + length a) b ≡ laid s p (a ++ b)
unfolding laid
laid-laid s p [] b h = ap (λ (n : ℕ). laid s n b) (add-zero p)
laid-laid s p (x ∷ a) [] h = ap (laid s p) (sym (append-nil (x ∷ a)))
laid-laid s p (x ∷ a) (y ∷ b) h =
    let n : p + length (x ∷ a) + length (y ∷ b) ≡ p + length ((x ∷ a) ++ (y ∷ b)) = omega (arith, length-append (x ∷ a) (y ∷ b)) in
    write-write s p (x ∷ a) (up (p + length (x ∷ a))) (y ∷ b) (up (p + length (x ∷ a) + length (y ∷ b))) h (omega arith) (omega arith)
    ∙ ap (λ (m : ℕ). write s p ((x ∷ a) ++ (y ∷ b)) (up m)) n

module _ (s : List Bool) (p : ℕ) (b : List Bool) (hp : p ≤ length s) where
  by-write : (P : List Bool → Type 0) → P s → P (write s p b (up (p + length b))) → P (laid s p b)
  unfolding laid
  by-write P none some = go b none some
    where
      go : (b : List Bool) → P s → P (write s p b (up (p + length b))) → P (laid s p b)
      go [] e w = e
      go (x ∷ b) e w = w

  pub laid-before : (q : ℕ) → q ≤ p → take q (laid s p b) ≡ take q s
  laid-before q h = by-write (λ (z : List Bool). take q z ≡ take q s) refl (write-before s p b (up (p + length b)) hp q h)

  pub laid-after : (q : ℕ) → up (p + length b) ≤ q → drop q (laid s p b) ≡ drop q s
  laid-after q h = by-write (λ (z : List Bool). drop q z ≡ drop q s) refl (write-after s p b (up (p + length b)) hp (omega arith) q h)

  pub length-laid : up (p + length b) ≤ length s → length (laid s p b) ≡ length s
  length-laid h = by-write (λ (z : List Bool). length z ≡ length s) refl (length-write s p b (up (p + length b)) hp (omega arith) h)

  -- the bytes that are in use now
  pub laid-used : 0 < length b → take (up (p + length b)) (laid s p b) ≡ padded (take p s ++ b)
  unfolding padded
  laid-used h =
      ap (take (up (p + length b))) (laid-write s p b h) ∙ write-used s p b (up (p + length b)) hp (omega arith)
      ∙ sym (append_assoc (take p s) b (replicate (up (p + length b) - (p + length b)) false))
      ∙ ap (λ (n : ℕ). (take p s ++ b) ++ replicate (padding n) false) (sym (before-long s p b 0 hp))

-- ---- a cut

module _ (s : List Bool) (p : ℕ) (hp : p ≤ length s) where
  pub cut-whole : up p ≡ p → cut_at s p ≡ s
  unfolding cut_at
  cut-whole e = ap (write s p []) e ∙ write-nothing s p

  pub cut-before : (q : ℕ) → q ≤ p → take q (cut_at s p) ≡ take q s
  unfolding cut_at
  cut-before q h = write-before s p [] (up p) hp q h

  pub cut-after : (q : ℕ) → up p ≤ q → drop q (cut_at s p) ≡ drop q s
  unfolding cut_at
  cut-after q h = write-after s p [] (up p) hp (omega arith) q h

  pub length_cut : up p ≤ length s → length (cut_at s p) ≡ length s
  unfolding cut_at
  length_cut h = length-write s p [] (up p) hp (omega arith) h

  pub cut-used : take (up p) (cut_at s p) ≡ padded (take p s)
  unfolding cut_at padded
  cut-used =
      let z : up p - (p + 0) ≡ padding (length (take p s)) = omega (arith, length-take-le p s hp) in
      write-used s p [] (up p) hp (omega arith) ∙ ap (λ (n : ℕ). take p s ++ replicate n false) z

  -- a second cut there changes nothing more
  pub cut_again : cut_at (cut_at s p) p ≡ cut_at s p
  unfolding cut_at write
  cut_again =
      ap₂ (λ (front behind : List Bool). front ++ (replicate (up p - (p + 0)) false ++ behind)) (cut-before p (omega arith)) (cut-after (up p) (omega arith))

  -- a put at the place of a cut lies over what the cut zeroed
  pub laid-cut : (b : List Bool) → 0 < length b → laid (cut_at s p) p b ≡ laid s p b
  unfolding cut_at
  laid-cut b h =
      laid-write (write s p [] (up p)) p b h
      ∙ ap (λ (n : ℕ). write (write s p [] (up p)) n b (up (p + length b))) (sym (add-zero p))
      ∙ write-write s p [] (up p) b (up (p + length b)) hp (omega arith) (omega arith)
      ∙ sym (laid-write s p b h)
