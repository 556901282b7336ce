-- The zeros at either end of a number of w digits, and the exclusive or: what a writer and a reader of windows need of them.
-- `u32::leading_zeros(x)` is `count_leading_zeros 32 x`, `u32::trailing_zeros(x)` is `count_trailing_zeros 32 x` (`lib.Count`), `a ^ b` is `bit_xor a b` (`lib.Bits`).
-- Assumes nothing.
use Prim.Native.Nat.{ℕ, zero, suc, ◌+◌, ◌-◌, ◌*◌, ◌/◌, ◌%◌, ◌^◌, ◌≤◌, ◌<◌}
use mathlib.Core.Path.{◌≡◌, refl, sym, ap, ap₂, ◌∙◌, subst}
use native.Mathlib.Nat.{mod-one, mod-lt, mod-eq_of_lt, lt_of_not-le, lt_of_lt_of_le, zero-lt-suc}
use native.Mathlib.Numerals.{add-one}
use native.Mathlib.Omega.{arith}
use lib.Arith.{bin_ind}
use lib.Bits.{bit_xor, differ, xor_step, xor_shr, xor_mod, xor_self}
use lib.Count.{count_leading_zeros, count_trailing_zeros, under, leading_top}
use lib.Pow.{pow_pos, pow_mono, split, mod-mod-pow, mod-pow-add, shr_lt}

-- ---- exclusive or

digit-undo : (a b : ℕ) → a < 2 → b < 2 → differ (bit_xor a b) b ≡ a
digit-undo zero zero h k = refl
digit-undo zero (suc zero) h k = refl
digit-undo zero (suc (suc b)) h k = absurd (omega arith)
digit-undo (suc zero) zero h k = refl
digit-undo (suc zero) (suc zero) h k = refl
digit-undo (suc zero) (suc (suc b)) h k = absurd (omega arith)
digit-undo (suc (suc a)) b h k = absurd (omega arith)

-- `(a ^ b) ^ b`
pub xor-undo : (a b : ℕ) → bit_xor (bit_xor a b) b ≡ a
xor-undo =
    bin_ind (λ (n : ℕ). (b : ℕ) → bit_xor (bit_xor n b) b ≡ n) xor_self
    (λ n ih b. xor_step (bit_xor n b) b
    ∙ ap₂ (λ (x y : ℕ). bit_xor x (b / 2) * 2 + differ y (b % 2)) (xor_shr n b 1) (xor_mod n b 1)
    ∙ ap₂ (λ (x y : ℕ). x * 2 + y) (ih (b / 2)) (digit-undo (n % 2) (b % 2) (mod-lt n (zero-lt-suc 1)) (mod-lt b (zero-lt-suc 1)))
    ∙ omega arith)

-- ---- trailing zeros

trailing-mod : (k n : ℕ) → n % 2 ^ count_trailing_zeros k n ≡ 0
unfolding count_trailing_zeros
trailing-mod zero n = mod-one n
trailing-mod (suc k) n = go (n % 2) refl (trailing-mod k (n / 2))
  where
    go : (d : ℕ) → n % 2 ≡ d → n / 2 % 2 ^ count_trailing_zeros k (n / 2) ≡ 0 → n % 2 ^ under d (count_trailing_zeros k (n / 2)) ≡ 0
    go zero e h =
        let t : ℕ = count_trailing_zeros k (n / 2) in
        ap (λ (z : ℕ). n % 2 ^ z) (sym (add-one t)) ∙ mod-pow-add n t 1 ∙ ap₂ (λ (x y : ℕ). x * 2 + y) h e
    go (suc d) e h = mod-one n

mod-down : (n : ℕ) {i j : ℕ} → i ≤ j → n % 2 ^ j ≡ 0 → n % 2 ^ i ≡ 0
mod-down n {i} {j} h e =
    let up : j - i + i ≡ j = omega arith in
    sym (mod-mod-pow n (j - i) i) ∙ ap (λ (z : ℕ). n % 2 ^ z % 2 ^ i) up ∙ ap (λ (z : ℕ). z % 2 ^ i) e ∙ mod-eq_of_lt (pow_pos i)

-- `(x >> t) << t`, for at most as many digits as there are zeros
pub shift_back : (w x t : ℕ) → t ≤ count_trailing_zeros w x → x / 2 ^ t * 2 ^ t ≡ x
shift_back w x t h = omega (arith, split x t, mod-down x h (trailing-mod w x))

-- ---- both ends of a number that is not 0

module _ (w x : ℕ) (p : 0 < x) (h : x < 2 ^ w) where
  -- they leave at least one digit
  pub ends-apart : count_leading_zeros w x + count_trailing_zeros w x < w
  ends-apart =
      let t = leading_top w x p h in
      let small : count_trailing_zeros w x < suc t.0 =
      lt_of_not-le (λ (g : suc t.0 ≤ count_trailing_zeros w x).
      omega (arith, t.3, pow_mono g, trailing-mod w x, mod-eq_of_lt {n = x} (lt_of_lt_of_le t.3 (pow_mono g)))) in
      omega (arith, t.1)

  pub below-lead : (a : ℕ) → a ≤ count_leading_zeros w x → x < 2 ^ (w - a)
  below-lead a l =
      let t = leading_top w x p h in
      lt_of_lt_of_le t.3 (pow_mono (omega (arith, t.1)))

  -- the digits that a leading and t trailing ones leave
  pub middle-lt : (a t : ℕ) → a ≤ count_leading_zeros w x → t ≤ count_trailing_zeros w x → x / 2 ^ t < 2 ^ (w - a - t)
  middle-lt a t la lt =
      let both : w - a - t + t ≡ w - a = omega (arith, ends-apart) in
      shr_lt (w - a - t) t (subst (λ (z : ℕ). x < 2 ^ z) (sym both) (below-lead a la))
