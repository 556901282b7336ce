-- What a finite value other than 0 that a format holds has: no more digits than the format, no smaller step, and a size below the infinity's. Assumes nothing.
use mathlib.Core.Path.{◌≡◌, sym, ap, ◌∙◌, subst}
use mathlib.Core.Bool.{Bool, ◌&&◌}
use Prim.Native.Nat.{ℕ, suc, ◌+◌, ◌-◌, ◌*◌, ◌%◌, ◌^◌, ◌≤◌, ◌<◌}
use native.Mathlib.Nat.{mul_assoc, mul_comm, mul_right_comm, mul-one, lt_of_mul-lt-mul_right, mul-lt-mul_of_pos_right}
use lib.IntN.{ℤ, pos, negsuc}
use lib.Dec.{T, eqb, leb, ltb, ltb→lt, leb→le}
use lib.Pow.{pow-add, pow_pos}
use lib.Ieee.{Format, fin, prec, emax, low, up, down, fits}
use lib.Ieee.Digits.{back}
use lib.Ieee.Fits.{and_l, and_r}
use Rattle.numbers.proofs.Shifts.{pow_le_back}

pub in-format : (f : Format) (s : Bool) (m : ℕ) (e : ℤ) → T (fits f (fin s (suc m) e)) → (suc m < 2 ^ prec f) × (down e ≤ 2 ^ low f) × (suc m * up e < 2 ^ suc (emax f) * down e)
unfolding fits
in-format f s m e t =
    let a = eqb (suc m % 2) 1 in
    let b = ltb (suc m) (2 ^ prec f) in
    let c = leb (down e) (2 ^ low f) in
    let d = ltb (suc m * up e) (2 ^ suc (emax f) * down e) in
    (ltb→lt _ _ (and_r a b (and_l (a && b) c (and_l (a && b && c) d t))), leb→le _ _ (and_r (a && b) c (and_l (a && b && c) d t)), ltb→lt _ _ (and_r (a && b && c) d t))

-- ---- in units of the smallest value it is m, shifted
pub placed : (l m : ℕ) (e : ℤ) → down e ≤ 2 ^ l → (j : ℕ) × (m * up e * 2 ^ l ≡ m * 2 ^ j * down e)
placed l m (pos k) h = (k + l, mul_assoc m (2 ^ k) (2 ^ l) ∙ ap (λ (x : ℕ). m * x) (sym (pow-add 2 k l)) ∙ sym (mul-one (m * 2 ^ (k + l))))
placed l m (negsuc k) h =
    let j = l - suc k in (
      j,
      ap (λ (x : ℕ). x * 2 ^ l) (mul-one m)
          ∙ ap (λ (x : ℕ). m * 2 ^ x) (sym (back l (suc k) (pow_le_back (suc k) l h)))
          ∙ ap (λ (x : ℕ). m * x) (pow-add 2 j (suc k))
          ∙ sym (mul_assoc m (2 ^ j) (2 ^ suc k)),
    )

-- and is no more there than what is below the infinity's size
pub under-overflow : (m : ℕ) (e : ℤ) (l j k : ℕ) → m * up e * 2 ^ l ≡ m * 2 ^ j * down e → m * up e < 2 ^ k * down e → m * 2 ^ j < 2 ^ (l + k)
under-overflow m e l j k at h =
    lt_of_mul-lt-mul_right (down e)
    (subst (λ (x : ℕ). x < 2 ^ (l + k) * down e) at
    (subst (λ (x : ℕ). m * up e * 2 ^ l < x) (mul_right_comm (2 ^ k) (down e) (2 ^ l) ∙ ap (λ (x : ℕ). x * down e) (mul_comm (2 ^ k) (2 ^ l) ∙ sym (pow-add 2 l k))) (mul-lt-mul_of_pos_right h (pow_pos l))))
