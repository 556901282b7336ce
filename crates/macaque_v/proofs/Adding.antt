-- −0 and a value give the value: so a sum that begins with −0 begins with its first value, and the loops that add need not ask which is the first. Assumes
-- nothing.
use mathlib.Core.Path.{◌≡◌, refl, sym, ap, ap₂, ◌∙◌, subst}
use mathlib.Core.Bool.{Bool, true, false}
use Prim.Native.Nat.{ℕ, zero, suc, ◌+◌, ◌-◌, ◌*◌, ◌%◌, ◌^◌, ◌≤◌, ◌<◌}
use native.Mathlib.Nat.{lt_of_not-le, sub-zero, add_comm, zero-add, zero-mul, one-mul, mul-one, mul_assoc, mul-pos, zero-lt-suc, lt_of_lt_of_le}
use native.Mathlib.Omega.{arith}
use borrow.Author.Tests.{lt-ltb}
use lib.Dec.{T, eqb→eq}
use lib.IntN.{ℤ, pos, negsuc}
use lib.Pow.{pow-lt, pow-add, pow_pos, pow_mono, shl_lt}
use lib.Ieee as Ieee
use lib.Ieee.{Float, nan, inf, fin, Format, binary32, prec, emax, low, up, down, round, fits, add, of_bits}
use lib.Ieee.Bits.{of_bits-fits}
use lib.Ieee.Digits.{back}
use lib.Ieee.Exact.{HasValue, round_exact}
use lib.Ieee.Fits.{reach, up_pos, down_pos, round-fits}
use lib.Ieee.Back.{round_whole, whole_unique}
use Rattle.numbers.proofs.InFormat.{in-format}
use Rattle.numbers.proofs.OneWay.{even_odd, twice, same_shape, is_odd}
use Rattle.stream.specs.Format.{gathered}
use Rattle.macaque_v.specs.State.{gather_sum}
use Rattle.macaque_v.specs.Inner.Total.{minus_zero, added_to}

-- ---- a number that fits is written in one way

-- what it is to fit
record Odd (f : Format) (m : ℕ) (e : ℤ) : Type 0 where
  pub odd : m % 2 ≡ 1
  pub short : m < 2 ^ prec f
  pub fine : down e ≤ 2 ^ low f
  pub finite : m * up e < 2 ^ suc (emax f) * down e

odd-of : (f : Format) (s : Bool) (m : ℕ) (e : ℤ) → T (fits f (fin s (suc m) e)) → Odd f (suc m) e
odd-of f s m e t = let i = in-format f s m e t in record { odd = is_odd f s m e t; short = i.0; fine = i.1; finite = i.2 }

-- two that fit and have the same value are one
unique : (f : Format) (x : Float) (s : Bool) (n : ℕ) (d : ℤ) → T (fits f x) → Odd f (suc n) d → HasValue x s (suc n * up d) (down d) → x ≡ fin s (suc n) d
unique f nan s n d t F v = absurd v
unique f (inf u) s n d t F v = absurd v
unique f (fin u zero e) s n d t F v =
    let some : 0 < suc n * up d * down e = mul-pos (mul-pos (zero-lt-suc n) (up_pos d)) (down_pos e) in
    let none : zero * up e * down d ≡ 0 = ap (λ (x : ℕ). x * down d) (zero-mul (up e)) ∙ zero-mul (down d) in
    absurd (omega (arith, some, none, v.1))
unique f (fin u (suc m) e) s n d t F v =
    let r = same_shape (suc m) (suc n) e d (odd-of f u m e t).odd F.odd v.1 in
    λ i. fin (v.0 i) (r.0 i) (r.1 i)

-- ---- so rounding it changes nothing

has_value : (f : Format) (s : Bool) (n : ℕ) (d : ℤ) → Odd f (suc n) d → HasValue (round f s (suc n * up d) (down d)) s (suc n * up d) (down d)
has_value f s n (pos k) F =
    let N : ℕ = suc n in
    let shift : N * 2 ^ k * 2 ^ low f ≡ N * 2 ^ (k + low f) = mul_assoc N (2 ^ k) (2 ^ low f) ∙ ap (λ (x : ℕ). N * x) (sym (pow-add 2 k (low f))) in
    let below : N * 2 ^ k < 2 ^ suc (emax f) = subst (λ (x : ℕ). N * 2 ^ k < x) (mul-one (2 ^ suc (emax f))) F.finite in
    let far : N * 2 ^ (k + low f) < 2 ^ (low f + suc (emax f)) =
    subst (λ (x : ℕ). x < 2 ^ (low f + suc (emax f))) shift (subst (λ (x : ℕ). N * 2 ^ k * 2 ^ low f < 2 ^ x) (add_comm (suc (emax f)) (low f)) (shl_lt (suc (emax f)) (low f) below)) in
    round_exact f s (N * 2 ^ k) 1 N (k + low f) (zero-lt-suc 0) F.short far (shift ∙ sym (mul-one (N * 2 ^ (k + low f))))
has_value f s n (negsuc k) F =
    let N : ℕ = suc n in
    let le : suc k ≤ low f = not-above (suc k) (low f) F.fine in
    let j : ℕ = low f - suc k in
    let up-again : 2 ^ j * 2 ^ suc k ≡ 2 ^ low f = sym (pow-add 2 j (suc k)) ∙ ap (λ (x : ℕ). 2 ^ x) (back (low f) (suc k) le) in
    let same : N * 1 * 2 ^ low f ≡ N * 2 ^ j * 2 ^ suc k = ap (λ (x : ℕ). x * 2 ^ low f) (mul-one N) ∙ ap (λ (x : ℕ). N * x) (sym up-again) ∙ sym (mul_assoc N (2 ^ j) (2 ^ suc k)) in
    let far : N * 2 ^ j < 2 ^ (low f + suc (emax f)) = lt_of_lt_of_le (shl_lt (prec f) j F.short) (pow_mono (room (prec f) (suc (emax f)) (low f) j (reach f) (omega arith))) in
    round_exact f s (N * 1) (2 ^ suc k) N j (pow_pos (suc k)) F.short far same
  where
    room : (p e l j : ℕ) → p ≤ e → j ≤ l → p + j ≤ l + e
    room p e l j h g = omega (arith, h, g)

    not-above : (a b : ℕ) → 2 ^ a ≤ 2 ^ b → a ≤ b
    not-above a b h = let near : a < suc b = lt_of_not-le (λ above. omega (arith, h, pow-lt above)) in omega (arith, near)

-- a zero that fits has the exponent 0
flat : (e : ℤ) → up e * down e ≡ 1 → e ≡ pos 0
flat (pos zero) h = refl
flat (pos (suc k)) h = absurd (even_odd 1 (1 * 2 ^ k) refl (sym h ∙ mul-one (2 ^ suc k) ∙ sym (one-mul (2 ^ suc k)) ∙ twice 1 k))
flat (negsuc k) h = absurd (even_odd 1 (1 * 2 ^ k) refl (sym h ∙ twice 1 k))

zero_exponent : (f : Format) (s : Bool) (d : ℤ) → T (fits f (fin s zero d)) → d ≡ pos 0
unfolding fits
zero_exponent f s d t = flat d (eqb→eq (up d * down d) 1 t)

rounds-to-itself : (f : Format) (s : Bool) (n : ℕ) (d : ℤ) → T (fits f (fin s n d)) → round f s (n * up d) (down d) ≡ fin s n d
rounds-to-itself f s (suc n) d t =
    let F = odd-of f s n d t in
    unique f (round f s (suc n * up d) (down d)) s n d (round-fits f s (suc n * up d) (down d)) F (has_value f s n d F)
rounds-to-itself f s zero d t =
    let e : d ≡ pos 0 = zero_exponent f s d t in
    let here : T (fits f (fin s zero (pos 0))) = subst (λ (z : ℤ). T (fits f (fin s zero z))) e t in
    subst (λ (z : ℤ). round f s (zero * up z) (down z) ≡ fin s zero z) (sym e)
    (whole_unique f (round f s 0 1) (fin s zero (pos 0)) s 0 (round-fits f s 0 1) here (round_whole f s 0 (omega arith)) (refl, refl))

-- ---- −0 and a value

sum_is : (f : Format) (u : Bool) (b c : ℕ) → Ieee.sum f true 0 u b c ≡ round f u b c
unfolding Ieee.sum
sum_is f true b c = ap (λ (x : ℕ). round f true x c) (zero-add b)
sum_is f false zero c = refl
sum_is f false (suc b) c = rw (lt-ltb 0 (suc b) (zero-lt-suc b)) (ap (λ (x : ℕ). round f false x c) (sub-zero (suc b)))

pub minus-zero-adds-nothing : (f : Format) (x : Float) → T (fits f x) → add f minus_zero x ≡ x
unfolding add
minus-zero-adds-nothing f nan t = refl
minus-zero-adds-nothing f (inf u) t = refl
minus-zero-adds-nothing f (fin u n d) t =
    ap (λ (a : ℕ). Ieee.sum f true a u (n * up d * 1) (1 * down d)) (zero-mul (down d))
    ∙ ap₂ (λ (b c : ℕ). Ieee.sum f true 0 u b c) (mul-one (n * up d)) (one-mul (down d))
    ∙ sum_is f u (n * up d) (down d)
    ∙ rounds-to-itself f u n d t

-- a raw first value begins the sum, and any other is added
pub one-more-added : (raw : Bool) (s : Float) (v : ℕ) → add binary32 (added_to raw s) (of_bits binary32 v) ≡ gathered gather_sum raw s v
one-more-added true s v = minus-zero-adds-nothing binary32 (of_bits binary32 v) (of_bits-fits binary32 v)
one-more-added false s v = refl
