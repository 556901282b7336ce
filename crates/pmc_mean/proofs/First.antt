-- The first value always fits PMC-Mean, whatever the bound: 0 plus an f32, divided by 1 and rounded to f32, is that f32 again, but that −0 becomes
-- its equal +0. Assumes nothing.
use mathlib.Core.Path.{◌≡◌, refl, sym, ap, ◌∙◌, subst}
use mathlib.Core.Bool.{Bool, true, false, ◌||◌, cond, beq}
use mathlib.Core.Logic.{◌⊎◌, inl, inr}
use Prim.Native.Nat.{ℕ, zero, suc, ◌+◌, ◌-◌, ◌*◌, ◌^◌, ◌<◌}
use native.Mathlib.Nat.{mul_right_comm, mul-pos, mul-one, one-mul, zero-mul, eq_of_mul-eq-mul_right}
use native.Mathlib.Omega.{arith}
use borrow.Author.Tests.{ltb-false, eq-eqb}
use lib.IntN.{ℤ, pos}
use lib.Dec.{T, eqb, ltb}
use lib.Pow.{pow_pos}
use lib.Ieee as Ieee
use lib.Ieee.{Float, Format, binary32, binary64, nan, inf, fin, prec, emax, low, up, down, fits, round, of_bits}
use lib.Ieee.Exact.{HasValue, round_exact}
use lib.Ieee.Fits.{down_pos, up_pos, fits_widens}
use lib.Ieee.Bits.{of_bits-fits}
use Rattle.numbers.specs.Narrowed.{narrowed}
use Rattle.numbers.proofs.InFormat.{in-format, placed, under-overflow}
use Rattle.models.specs.Floats.{zero_f, equal_or_nan, min_f, max_f}
use Rattle.models.specs.Bound.{within_in}
use Rattle.models.specs.declared.ErrorBound.{ErrorBound}
use Rattle.models.proofs.Tests.{or_right, or-false}
use Rattle.pmc_mean.specs.State as State

-- ---- rounding changes no value that the format holds

-- from one fraction to another of the same size
rescaled : (x : Float) (s : Bool) (a c num den : ℕ) → 0 < den → num * c ≡ a * den → HasValue x s num den → HasValue x s a c
rescaled nan s a c num den p h v = v
rescaled (inf t) s a c num den p h v = v
rescaled (fin t m e) s a c num den p h v = (
  v.0,
  eq_of_mul-eq-mul_right den p (m * up e * c) (a * down e)
      (mul_right_comm (m * up e) c den
      ∙ ap (λ (x : ℕ). x * c) v.1
      ∙ mul_right_comm num (down e) c
      ∙ ap (λ (x : ℕ). x * down e) h
      ∙ mul_right_comm a den (down e)),
)

module _ (m : ℕ) (e : ℤ) (l j : ℕ) (shifted : m * up e * 2 ^ l ≡ m * 2 ^ j * down e) where
  same : (num den : ℕ) → num * down e ≡ m * up e * den → num * 2 ^ l ≡ m * 2 ^ j * den
  same num den h =
      eq_of_mul-eq-mul_right (down e) (down_pos e) (num * 2 ^ l) (m * 2 ^ j * den)
      (mul_right_comm num (2 ^ l) (down e)
      ∙ ap (λ (x : ℕ). x * 2 ^ l) h
      ∙ mul_right_comm (m * up e) den (2 ^ l)
      ∙ ap (λ (x : ℕ). x * den) shifted
      ∙ mul_right_comm (m * 2 ^ j) (down e) den)

no_size : (n d : ℕ) → 0 < d → n * d ≡ 0 → n ≡ 0
no_size zero d p h = refl
no_size (suc n) d p h = absurd (omega (arith, mul-pos {m = suc n} {n = d} (omega arith) p))

exact : (f : Format) (s t : Bool) (m : ℕ) (e : ℤ) (num den : ℕ) → T (fits f (fin s m e)) → 0 < den → num * down e ≡ m * up e * den → HasValue (round f t num den) t (m * up e) (down e)
exact f s t zero e num den ok dp h =
    let none : num ≡ 0 = no_size num (down e) (down_pos e) (h ∙ ap (λ (x : ℕ). x * den) (zero-mul (up e)) ∙ zero-mul den) in
    rescaled (round f t num den) t (zero * up e) (down e) num den dp h
    (round_exact f t num den 0 0 dp (pow_pos (prec f)) (pow_pos (low f + suc (emax f))) (ap (λ (x : ℕ). x * 2 ^ low f) none ∙ zero-mul (2 ^ low f) ∙ sym (zero-mul den)))
exact f s t (suc m) e num den ok dp h =
    let b = in-format f s m e ok in
    let p = placed (low f) (suc m) e b.1 in
    rescaled (round f t num den) t (suc m * up e) (down e) num den dp h
    (round_exact f t num den (suc m) p.0 dp b.0 (under-overflow (suc m) e (low f) p.0 (suc (emax f)) p.1 b.2) (same (suc m) e (low f) p.0 p.1 num den h))

-- ---- 0 + v, divided by 1, rounded to f32, where v is the finite number of s, m and e

-- x is of the same size, and has the same sign or is 0
Alike : Bool → ℕ → ℤ → Float → Type 0
Alike s m e x = (t : Bool) × HasValue x t (m * up e) (down e) × ((t ≡ s) ⊎ (m ≡ 0))

same_sign : (s : Bool) → beq s s ≡ true
same_sign true = refl
same_sign false = refl

signs : (s t : Bool) (m u d : ℕ) → (t ≡ s) ⊎ (m ≡ 0) → (beq s t || eqb (m * u * d) 0) ≡ true
signs s t m u d (inl p) = rw (p, same_sign s)
signs s t m u d (inr z) = or_right (beq s t) _ (eq-eqb (m * u * d) 0 (ap (λ (x : ℕ). x * u * d) z ∙ ap (λ (x : ℕ). x * d) (zero-mul u) ∙ zero-mul d))

module _ (m : ℕ) (e : ℤ) where
  cross : (num den : ℕ) → num ≡ m * up e → den ≡ down e → num * down e ≡ m * up e * den
  cross num den p q = ap (λ (x : ℕ). x * down e) p ∙ ap (λ (x : ℕ). m * up e * x) (sym q)

  positive : (den : ℕ) → den ≡ down e → 0 < den
  positive den q = omega (arith, down_pos e)

  summed : (s : Bool) (a b c : ℕ) → T (fits binary64 (fin s m e)) → a ≡ 0 → b ≡ m * up e → c ≡ down e → Alike s m e (Ieee.sum binary64 false a s b c)
  unfolding Alike Ieee.sum
  summed false a b c ok p q r = (false, exact binary64 false false m e (a + b) c ok (positive c r) (cross (a + b) c (omega arith) r), inl refl)
  summed true a b c ok p q r = by (ltb a b) refl
    where
      by : (k : Bool) → ltb a b ≡ k → Alike true m e (cond k (round binary64 true (b - a) c) (round binary64 false (a - b) c))
      by true h = (true, exact binary64 true true m e (b - a) c ok (positive c r) (cross (b - a) c (omega arith) r), inl refl)
      by false h =
          let none : m * up e ≡ 0 = omega (arith, ltb-false a b h) in
          (false, exact binary64 true false m e (a - b) c ok (positive c r) (cross (a - b) c (omega arith) r), inr (no_size m (up e) (up_pos e) none))

  onto-zero : (s : Bool) → T (fits binary64 (fin s m e)) → Alike s m e (Ieee.add binary64 zero_f (fin s m e))
  unfolding Ieee.add
  onto-zero s ok = summed s _ _ _ ok (zero-mul (down e)) (mul-one (m * up e)) (one-mul (down e))

  by_one : (s : Bool) (x : Float) → T (fits binary64 (fin s m e)) → Alike s m e x → Alike s m e (Ieee.div binary64 x (fin false 1 (pos 0)))
  unfolding Alike Ieee.div
  by_one s nan ok h = absurd h.1
  by_one s (inf t) ok h = absurd h.1
  by_one s (fin t n d) ok h =
      let num = n * up d * 1 in
      let den = 1 * down d in
      let x : num * down e ≡ m * up e * den = ap (λ (x : ℕ). x * down e) (mul-one (n * up d)) ∙ h.1.1 ∙ ap (λ (x : ℕ). m * up e * x) (sym (one-mul (down d))) in
      (t, subst (λ (u : Bool). HasValue (round binary64 u num den) t (m * up e) (down e)) (sym (like t)) (exact binary64 s t m e num den ok (omega (arith, down_pos d, one-mul (down d))) x), side)
    where
      like : (t : Bool) → Ieee.unlike t false ≡ t
      like true = refl
      like false = refl

      side : (t ≡ s) ⊎ (m ≡ 0)
      side = subst (λ (u : Bool). (u ≡ s) ⊎ (m ≡ 0)) (sym h.1.0) h.2

  in-f32 : (s : Bool) (x : Float) → T (fits binary32 (fin s m e)) → Alike s m e x → Alike s m e (narrowed x)
  unfolding Alike narrowed
  in-f32 s nan ok h = absurd h.1
  in-f32 s (inf t) ok h = absurd h.1
  in-f32 s (fin t n d) ok h = (t, exact binary32 s t m e (n * up d) (down d) ok (down_pos d) h.1.1, subst (λ (u : Bool). (u ≡ s) ⊎ (m ≡ 0)) (sym h.1.0) h.2)

  equal : (s : Bool) (x : Float) → Alike s m e x → equal_or_nan (fin s m e) x ≡ true
  unfolding Alike equal_or_nan Ieee.eq Ieee.is_nan
  equal s nan h = absurd h.1
  equal s (inf t) h = absurd h.1
  equal s (fin t n d) h =
      rw (eq-eqb (m * up e * down d) (n * up d * down e) (sym h.1.1), or-false (beq s t || eqb (m * up e * down d) 0) false refl)
      (signs s t m (up e) (down d) (subst (λ (u : Bool). (u ≡ s) ⊎ (m ≡ 0)) (sym h.1.0) h.2))

is_one : Ieee.of_int binary64 (pos 1) ≡ fin false 1 (pos 0)
unfolding Ieee.of_int Ieee.round Ieee.units Ieee.odd Ieee.size Ieee.span Ieee.climb
is_one = refl

abbrev averaged : Float → Float
averaged v = narrowed (Ieee.div binary64 (Ieee.add binary64 zero_f v) (Ieee.of_int binary64 (pos 1)))

average-of-one : (v : Float) → T (fits binary32 v) → equal_or_nan v (averaged v) ≡ true
unfolding Ieee.add Ieee.div narrowed equal_or_nan Ieee.eq Ieee.is_nan
average-of-one nan ok = refl
average-of-one (inf true) ok = rw is_one
average-of-one (inf false) ok = rw is_one
average-of-one (fin s m e) ok =
    let wide = fits_widens (fin s m e) ok in
    rw is_one (equal m e s _ (in-f32 m e s _ ok (by_one m e s _ wide (onto-zero m e s wide))))

-- ---- the law
pub first_fits : (b : ErrorBound) (bits : ℕ) → State.fits (State.with_value (State.fresh b) (of_bits binary32 bits)) ≡ true
unfolding State.fits State.with_value State.fresh State.average within_in min_f max_f Ieee.is_nan
first_fits b bits =
    let v = of_bits binary32 bits in
    rw (average-of-one v (of_bits-fits binary32 bits))
