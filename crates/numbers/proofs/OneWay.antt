-- A number above 0 that a format holds is written in one way: two such that compare as equal are the same. Assumes nothing.
use mathlib.Core.Path.{◌≡◌, refl, sym, ap, ◌∙◌}
use mathlib.Core.Bool.{Bool, true, false, ◌&&◌}
use Prim.Native.Nat.{ℕ, zero, suc, ◌*◌, ◌%◌, ◌^◌}
use native.Mathlib.Nat.{mul-one, mul_left_comm, pow-succ'}
use native.Mathlib.Omega.{arith}
use borrow.Author.Tests.{eqb-true}
use lib.Dec.{T, eqb, leb, ltb, eqb→eq}
use lib.IntN.{ℤ, pos, negsuc}
use lib.Ieee as Ieee
use lib.Ieee.{Float, nan, inf, fin, Format, prec, emax, low, up, down, fits}
use lib.Ieee.Fits.{and_l}
use lib.Ieee.Positive.{positive}

pub even_odd : (m t : ℕ) → m % 2 ≡ 1 → m ≡ 2 * t → ⊥
even_odd m t o h = omega (arith, o, h)

pub twice : (n b : ℕ) → n * 2 ^ suc b ≡ 2 * (n * 2 ^ b)
twice n b = ap (λ (x : ℕ). n * x) (pow-succ' 2 b) ∙ mul_left_comm n 2 (2 ^ b)

half : (x y : ℕ) → 2 * x ≡ 2 * y → x ≡ y
half x y h = omega (arith, h)

odd_pow : (m n a b : ℕ) → m % 2 ≡ 1 → n % 2 ≡ 1 → m * 2 ^ a ≡ n * 2 ^ b → (m ≡ n) × (a ≡ b)
odd_pow m n zero zero o p h = (sym (mul-one m) ∙ h ∙ mul-one n, refl)
odd_pow m n zero (suc b) o p h = absurd (even_odd m (n * 2 ^ b) o (sym (mul-one m) ∙ h ∙ twice n b))
odd_pow m n (suc a) zero o p h = absurd (even_odd n (m * 2 ^ a) p (sym (mul-one n) ∙ sym h ∙ twice m a))
odd_pow m n (suc a) (suc b) o p h =
    let r = odd_pow m n a b o p (half (m * 2 ^ a) (n * 2 ^ b) (sym (twice m a) ∙ h ∙ twice n b)) in
    (r.0, ap suc r.1)

pub same_shape : (m n : ℕ) (e d : ℤ) → m % 2 ≡ 1 → n % 2 ≡ 1 → m * up e * down d ≡ n * up d * down e → (m ≡ n) × (e ≡ d)
same_shape m n (pos a) (pos b) o p h =
    let r = odd_pow m n a b o p (sym (mul-one (m * 2 ^ a)) ∙ h ∙ mul-one (n * 2 ^ b)) in
    (r.0, ap pos r.1)
same_shape m n (pos a) (negsuc b) o p h = absurd (even_odd n (m * 2 ^ a * 2 ^ b) p (sym (mul-one n) ∙ sym (mul-one (n * 1)) ∙ sym h ∙ twice (m * 2 ^ a) b))
same_shape m n (negsuc a) (pos b) o p h = absurd (even_odd m (n * 2 ^ b * 2 ^ a) o (sym (mul-one m) ∙ sym (mul-one (m * 1)) ∙ h ∙ twice (n * 2 ^ b) a))
same_shape m n (negsuc a) (negsuc b) o p h =
    let r = odd_pow m n (suc b) (suc a) o p (ap (λ (x : ℕ). x * 2 ^ suc b) (sym (mul-one m)) ∙ h ∙ ap (λ (x : ℕ). x * 2 ^ suc a) (mul-one n)) in
    (r.0, ap negsuc (omega (arith, r.1)))

pub is_odd : (f : Format) (s : Bool) (m : ℕ) (e : ℤ) → T (fits f (fin s (suc m) e)) → suc m % 2 ≡ 1
unfolding fits
is_odd f s m e t =
    let a : Bool = eqb (suc m % 2) 1 in
    let b : Bool = ltb (suc m) (2 ^ prec f) in
    let c : Bool = leb (down e) (2 ^ low f) in
    let d : Bool = ltb (suc m * up e) (2 ^ suc (emax f) * down e) in
    eqb→eq (suc m % 2) 1 (and_l a b (and_l (a && b) c (and_l (a && b && c) d t)))

pub same_number : (f : Format) (x y : Float) → T (positive x) → T (positive y) → T (fits f x) → T (fits f y) → Ieee.eq x y ≡ true → x ≡ y
unfolding Ieee.eq
same_number f nan y p q t u h = absurd p
same_number f (inf s) y p q t u h = absurd p
same_number f (fin true m e) y p q t u h = absurd p
same_number f (fin false zero e) y p q t u h = absurd p
same_number f (fin false (suc m) e) nan p q t u h = absurd q
same_number f (fin false (suc m) e) (inf s) p q t u h = absurd q
same_number f (fin false (suc m) e) (fin true n d) p q t u h = absurd q
same_number f (fin false (suc m) e) (fin false zero d) p q t u h = absurd q
same_number f (fin false (suc m) e) (fin false (suc n) d) p q t u h =
    let even : suc m * up e * down d ≡ suc n * up d * down e = eqb-true (suc m * up e * down d) (suc n * up d * down e) (and_left (eqb (suc m * up e * down d) (suc n * up d * down e)) _ h) in
    let r = same_shape (suc m) (suc n) e d (is_odd f false m e t) (is_odd f false n d u) even in
    λ i. fin false (r.0 i) (r.1 i)
  where
    and_left : (a b : Bool) → (a && b) ≡ true → a ≡ true
    and_left true b h = refl
    and_left false b h = h
