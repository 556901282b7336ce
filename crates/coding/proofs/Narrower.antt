-- Under an absolute bound the within test in f64 lets nothing through that the one in f32 does not: a difference that rounds to more than the bound in f32 is at least some value of f64 that is
-- more than the bound too. It holds for all values, NaNs and infinities among them, and for every bound that f32 holds. Assumes nothing.
use mathlib.Core.Path.{◌≡◌, refl, sym, ap, ◌∙◌, subst}
use mathlib.Core.Logic.{◌⊎◌, inl, inr}
use mathlib.Core.Bool.{Bool, true, false, not, cond, ◌&&◌, ◌||◌, beq, true≢false}
use Prim.Native.Nat.{ℕ, zero, suc, ◌+◌, ◌-◌, ◌*◌, ◌/◌, ◌%◌, ◌^◌, ◌≤◌, ◌<◌, compare, Ordering}
use native.Mathlib.Nat.{le_trans, le_of_eq, le_of_lt, le_of_suc-le-suc, lt_of_lt_of_le, lt_of_le_of_lt, lt_of_mul-lt-mul_right, not-le_of_lt, mul_comm, mul_assoc, mul_right_comm, mul-le-mul_right, mul-lt-mul_of_pos_right, mul-pos, one-mul, zero-mul, add-mul, div-mul-le_self, div-add-mod', div-div-eq-div-mul, le-div_iff_mul-le}
use native.Mathlib.Omega.{arith}
use lib.IntN.{ℤ}
use lib.Dec.{T, is_le, compare_is_eq, ltb, nleb→lt, eqb→eq, lit<, lit≤}
use lib.Pow.{pow-add, pow_pos, pow_mono}
use lib.Ieee as Ieee
use lib.Ieee.{Float, nan, inf, fin, Format, binary32, binary64, up, down, size, nearest, round, le, fits, of_bits}
use lib.Ieee.Bits.{is_true, of_bits-fits}
use lib.Ieee.Digits.{back, size_reaches}
use lib.Ieee.Fits.{down_pos, kept-lt}
use lib.Ieee.Exact.{HasValue, round_exact}
use lib.Ieee.Nearest.{closest}
use lib.Ieee.Order.{drop, kept, round_mono, transfer, le_of_values}
use lib.Ieee.Scale.{grid, round_val}
use Rattle.numbers.proofs.InFormat.{in-format, placed, under-overflow}
use Rattle.numbers.proofs.Shifts.{lt-or-le}
use Rattle.models.specs.Floats.{abs_f, equal_or_nan}
use Rattle.models.specs.Bound.{near_in, within_in}
use Rattle.models.specs.declared.ErrorBound.TheVariants.{Absolute}
use Rattle.models.proofs.Tests.{or_right, or-either}
use Rattle.coding.proofs.Nearer.{nonneg, zeros, of-zeros, cross, le-through, under-inf, abs-round, round-nonneg}

-- ---- w / u to the nearest whole number: the whole part, or one more, and then the rest is a half at least
up-from-half : (w u : ℕ) → (closest w u ≡ w / u) ⊎ ((closest w u ≡ suc (w / u)) × (u ≤ w % u * 2))
up-from-half w u = go (compare (w % u * 2) u) (nleb→lt (w % u * 2) u) (eqb→eq (w % u * 2) u)
  where
    tie : (a : ℕ) → (a + a % 2 ≡ a) ⊎ (a + a % 2 ≡ suc a)
    tie a = pick (lt-or-le (a % 2) 1)
      where
        pick : (a % 2 < 1) ⊎ (1 ≤ a % 2) → (a + a % 2 ≡ a) ⊎ (a + a % 2 ≡ suc a)
        pick (inl h) = inl (omega arith)
        pick (inr h) = inr (omega arith)

    with-half : (a x : ℕ) → u ≤ w % u * 2 → (x ≡ a) ⊎ (x ≡ suc a) → (x ≡ a) ⊎ ((x ≡ suc a) × (u ≤ w % u * 2))
    with-half a x h (inl e) = inl e
    with-half a x h (inr e) = inr (e, h)

    go : (o : Ordering) → (T (not (is_le o)) → u < w % u * 2) → (T (compare_is_eq o) → w % u * 2 ≡ u) → (nearest (w / u) o ≡ w / u) ⊎ ((nearest (w / u) o ≡ suc (w / u)) × (u ≤ w % u * 2))
    go Ordering.lt h e = inl refl
    go Ordering.eq h e = with-half (w / u) (w / u + w / u % 2) (le_of_eq (sym (e tt))) (tie (w / u))
    go Ordering.gt h e = inr (refl, le_of_lt (h tt))

-- ---- the whole part, for a format of p digits that drops `drop` digits
whole-lt : (p w c : ℕ) → w / (c * 2 ^ drop p w c) < 2 ^ p
whole-lt p w c = subst (λ (x : ℕ). x < 2 ^ p) (div-div-eq-div-mul w c (2 ^ drop p w c)) (kept-lt p (w / c))

-- where digits are dropped, it has p digits
whole-ge : (p w c : ℕ) → 0 < p → 0 < drop p w c → 2 ^ (p - 1) ≤ w / (c * 2 ^ drop p w c)
whole-ge p w c P K =
    let k = drop p w c in
    let a : 2 ^ (p - 1) * 2 ^ k ≤ w / c = le_trans (le_of_eq (sym (pow-add 2 (p - 1) k))) (size_reaches (w / c) (p - 1 + k) (all_in_use (size (w / c)) p P K)) in
    subst (λ (x : ℕ). 2 ^ (p - 1) ≤ x) (div-div-eq-div-mul w c (2 ^ k)) ((le-div_iff_mul-le (pow_pos k)).1 a)
  where
    all_in_use : (z p : ℕ) → 0 < p → 0 < z - p → p - 1 + (z - p) < z
    all_in_use z p P h = omega arith

-- ---- a number of p digits, shifted by j, that is below (a + 1) * 2 ^ k is at most a * 2 ^ k
module _ (p m j k a : ℕ) (P : 0 < p) (M : m < 2 ^ p) (A : 0 < k → 2 ^ (p - 1) ≤ a) where
  room : j < k → p + j ≤ p - 1 + k
  room h = omega arith

  some : j < k → 0 < k
  some h = omega arith

  no-step-between : m * 2 ^ j < suc a * 2 ^ k → m * 2 ^ j ≤ a * 2 ^ k
  no-step-between h =
      elim (lt-or-le j k) [
        | inl l ↦
            le_trans (mul-le-mul_right (2 ^ j) (le_of_lt M))
            (le_trans (le_of_eq (sym (pow-add 2 p j)))
            (le_trans (pow_mono (room l)) (le_trans (le_of_eq (pow-add 2 (p - 1) k)) (mul-le-mul_right (2 ^ k) (A (some l))))))
        | inr l ↦
            let t = m * 2 ^ (j - k) in
            let e : t * 2 ^ k ≡ m * 2 ^ j = mul_assoc m (2 ^ (j - k)) (2 ^ k) ∙ ap (λ (x : ℕ). m * x) (sym (pow-add 2 (j - k) k) ∙ ap (λ (x : ℕ). 2 ^ x) (back j k l)) in
            le_trans (le_of_eq (sym e)) (mul-le-mul_right (2 ^ k) (le_of_suc-le-suc (lt_of_mul-lt-mul_right (2 ^ k) (subst (λ (x : ℕ). x < suc a * 2 ^ k) (sym e) h))))
      ]

-- ---- With one digit more: where the rounded fraction w / c is above a number of p digits, there is a number of p + 1 digits, in halves of its unit, that is above it too and at most w / c
by-unit : (r c k : ℕ) → r * 2 ^ k * c ≡ r * (c * 2 ^ k)
by-unit r c k = mul_assoc r (2 ^ k) c ∙ ap (λ (x : ℕ). r * x) (mul_comm (2 ^ k) c)

twice-whole : (w u a : ℕ) → a * u ≤ w → a * 2 * u ≤ w * 2
twice-whole w u a h = le_trans (le_of_eq (mul_right_comm a 2 u)) (mul-le-mul_right 2 h)

whole-and-half : (w u a rest : ℕ) → a * u + rest ≡ w → u ≤ rest * 2 → (a * 2 + 1) * u ≤ w * 2
whole-and-half w u a rest e h = le_trans (le_of_eq (add-mul (a * 2) 1 u ∙ ap (λ (x : ℕ). x + 1 * u) (mul_right_comm a 2 u) ∙ ap (λ (x : ℕ). a * u * 2 + x) (one-mul u))) (go (a * u) e)
  where
    go : (x : ℕ) → x + rest ≡ w → x * 2 + u ≤ w * 2
    go x e = omega arith

double-lt : (x a t : ℕ) → x < a * t → x * 2 < a * 2 * t
double-lt x a t h = lt_of_lt_of_le (go x (a * t) h) (le_of_eq (mul_right_comm a t 2))
  where
    go : (x y : ℕ) → x < y → x * 2 < y * 2
    go x y h = omega arith

half-above : (x a t : ℕ) → 0 < t → x ≤ a * t → x * 2 < (a * 2 + 1) * t
half-above x a t H h = lt_of_lt_of_le (go x (a * t) H h) (le_of_eq (sym (add-mul (a * 2) 1 t ∙ ap (λ (x : ℕ). x + 1 * t) (mul_right_comm a 2 t) ∙ ap (λ (x : ℕ). a * t * 2 + x) (one-mul t))))
  where
    go : (x y : ℕ) → 0 < t → x ≤ y → x * 2 < y * 2 + t
    go x y H h = omega arith

even-lt : (a b : ℕ) → a < b → a * 2 < b * 2
even-lt a b h = omega arith

odd-lt : (a b : ℕ) → a < b → a * 2 + 1 < b * 2
odd-lt a b h = omega arith

between : (p w c m j : ℕ) → 0 < p → m < 2 ^ p → m * 2 ^ j < kept p w c * 2 ^ drop p w c
    → (r : ℕ) × (r < 2 ^ p * 2) × (m * 2 ^ j * 2 < r * 2 ^ drop p w c) × (r * 2 ^ drop p w c * c ≤ w * 2)
between p w c m j P M h =
    let k = drop p w c in
    let u = c * 2 ^ k in
    let a = w / u in
    elim (up-from-half w u) [
      | inl e ↦ (
        a * 2,
        even-lt a (2 ^ p) (whole-lt p w c),
        double-lt (m * 2 ^ j) a (2 ^ k) (subst (λ (x : ℕ). m * 2 ^ j < x * 2 ^ k) e h),
        le_trans (le_of_eq (by-unit (a * 2) c k)) (twice-whole w u a (div-mul-le_self w u)),
      )
      | inr (e, half) ↦ (
        a * 2 + 1,
        odd-lt a (2 ^ p) (whole-lt p w c),
        half-above (m * 2 ^ j) a (2 ^ k) (pow_pos k) (no-step-between p m j k a P M (whole-ge p w c P) (subst (λ (x : ℕ). m * 2 ^ j < x * 2 ^ k) e h)),
        le_trans (le_of_eq (by-unit (a * 2 + 1) c k)) (whole-and-half w u a (w % u) (div-add-mod' w u) half),
      )
    ]

-- ---- the order of a value that is not negative and a bound, by the fractions that they equal
order : (x : Float) (n : ℕ) (d : ℤ) (a c b c' : ℕ) → HasValue x false a c → n * up d * c' ≡ b * down d → T (le x (fin false n d)) → a * c' ≤ b * c
order nan n d a c b c' p q h = absurd p
order (inf s) n d a c b c' p q h = absurd p
order (fin true m e) n d a c b c' p q h = absurd (true≢false p.0)
order (fin false m e) n d a c b c' p q h =
    transfer a b c c' (m * up e) (n * up d) (down e) (down d) (down_pos e) (down_pos d) (sym p.1) (sym q) (cross m e n d h)

-- ---- f32 and f64: n / c rounded in both, and the bound m * 2 ^ k, which is m * 2 ^ j times f32's smallest value
finer : (r i l a b : ℕ) → l ≡ a + b → r * 2 ^ i * 2 ^ l ≡ r * 2 ^ (i + a) * 2 ^ b
finer r i l a b e =
    ap (λ (x : ℕ). r * 2 ^ i * x) (ap (λ (x : ℕ). 2 ^ x) e ∙ pow-add 2 a b)
    ∙ sym (mul_assoc (r * 2 ^ i) (2 ^ a) (2 ^ b))
    ∙ ap (λ (x : ℕ). x * 2 ^ b) (mul_assoc r (2 ^ i) (2 ^ a) ∙ ap (λ (x : ℕ). r * x) (sym (pow-add 2 i a)))

far-below : (r i a b t : ℕ) → r * 2 ^ i < 2 ^ b → b + a ≤ t → r * 2 ^ (i + a) < 2 ^ t
far-below r i a b t h l =
    lt_of_lt_of_le
    (lt_of_le_of_lt (le_of_eq (ap (λ (x : ℕ). r * x) (pow-add 2 i a) ∙ sym (mul_assoc r (2 ^ i) (2 ^ a)))) (mul-lt-mul_of_pos_right h (pow_pos a)))
    (le_trans (le_of_eq (sym (pow-add 2 b a))) (pow_mono l))

clash : (x y d dd : ℕ) → 0 < d → dd ≡ d * 2 → x * 2 < y → y * d ≤ x * dd → ⊥
clash x y d dd D e h l = not-le_of_lt (mul-lt-mul_of_pos_right h D) (le_trans l (le_of_eq (ap (λ (z : ℕ). x * z) e ∙ sym (mul_assoc x d 2) ∙ mul_right_comm x d 2)))

module _ (n c : ℕ) (C : 0 < c) (m : ℕ) (k : ℤ) (j : ℕ) (at : m * up k * 2 ^ 149 ≡ m * 2 ^ j * down k) where
  -- a value of f64 above the bound that is at most n / c
  above-in-f64 : (r i : ℕ) → r < 2 ^ 53 → r * 2 ^ i < 2 ^ 279 → m * 2 ^ j * 2 < r * 2 ^ i → r * 2 ^ i * c ≤ n * 2 ^ 149 * 2 → T (le (round binary64 false n c) (fin false m k)) → ⊥
  above-in-f64 r i few small over under t =
      let y = r * 2 ^ i in
      let x = round binary64 false y (2 ^ 150) in
      let v : HasValue x false y (2 ^ 150) = round_exact binary64 false y (2 ^ 150) r (i + 924) (pow_pos 150) few (far-below r i 924 279 2098 small (lit≤ tt)) (finer r i 1074 924 150 refl) in
      let l : T (le x (round binary64 false n c)) = round_mono binary64 y (2 ^ 150) n c (pow_pos 150) C (le_trans under (le_of_eq (mul_assoc n (2 ^ 149) 2))) in
      clash (m * 2 ^ j) y (2 ^ 149) (2 ^ 150) (pow_pos 149) refl over
      (order x m k y (2 ^ 150) (m * 2 ^ j) (2 ^ 149) v at (le-through x (round binary64 false n c) (fin false m k) (round-nonneg binary64 y (2 ^ 150)) (round-nonneg binary64 n c) l t))

  -- so what rounds to the bound at most in f64 does so in f32
  rounds-under : m < 2 ^ 24 → m * 2 ^ j < 2 ^ 277 → T (le (round binary64 false n c) (fin false m k)) → T (le (round binary32 false n c) (fin false m k))
  rounds-under M B t =
      elim (lt-or-le (m * 2 ^ j) (grid binary32 n c)) [
        | inl h ↦ absurd (none (between 24 (n * 2 ^ 149) c m j (lit< tt) M h))
        | inr h ↦
            le_of_values (round binary32 false n c) (fin false m k) (grid binary32 n c) (2 ^ 149) (m * 2 ^ j) (2 ^ 149) (pow_pos 149) (pow_pos 149)
            (round_val binary32 n c (lt_of_le_of_lt h B)) (refl, at) (mul-le-mul_right (2 ^ 149) h)
      ]
    where
      none : (r : ℕ) × (r < 2 ^ 24 * 2) × (m * 2 ^ j * 2 < r * 2 ^ drop 24 (n * 2 ^ 149) c) × (r * 2 ^ drop 24 (n * 2 ^ 149) c * c ≤ n * 2 ^ 149 * 2) → ⊥
      none (r, few, over, under) =
          elim (lt-or-le (r * 2 ^ drop 24 (n * 2 ^ 149) c) (2 ^ 279)) [
            | inl small ↦ above-in-f64 r (drop 24 (n * 2 ^ 149) c) (lt_of_lt_of_le few (lit≤ tt)) small over under t
            | inr large ↦
                above-in-f64 1 278 (lit< tt) (lit< tt) (lt_of_lt_of_le (even-lt (m * 2 ^ j) (2 ^ 277) B) (lit≤ tt)) (le_trans (mul-le-mul_right c (le_trans (lit≤ tt) large)) under) t
          ]

-- ---- a bound that f32 holds, in units of f32's smallest value
in-units : (s : Bool) (m : ℕ) (k : ℤ) → T (fits binary32 (fin s m k)) → (j : ℕ) × (m * up k * 2 ^ 149 ≡ m * 2 ^ j * down k) × (m < 2 ^ 24) × (m * 2 ^ j < 2 ^ 277)
in-units s zero k t =
    (0, ap (λ (x : ℕ). x * 2 ^ 149) (zero-mul (up k)) ∙ zero-mul (2 ^ 149) ∙ sym (ap (λ (x : ℕ). x * down k) (zero-mul 1) ∙ zero-mul (down k)), pow_pos 24, pow_pos 277)
in-units s (suc m) k t =
    let b = in-format binary32 s m k t in
    let p = placed 149 (suc m) k b.1 in
    (p.0, p.1, b.0, under-overflow (suc m) k 149 p.0 128 p.1 b.2)

-- ---- every bound that f32 holds
no-nan-bound : (x : Float) → T (le x nan) → ⊥
unfolding le
no-nan-bound nan h = h
no-nan-bound (inf s) h = h
no-nan-bound (fin s m e) h = h

no-bound-below : (x : Float) → T (nonneg x) → T (le x (inf true)) → ⊥
unfolding le
no-bound-below nan p h = p
no-bound-below (inf true) p h = p
no-bound-below (inf false) p h = h
no-bound-below (fin s m e) p h = h

-- a bound with the other sign is 0, and then its sign does not matter
zero-bound : (x : Float) (m : ℕ) (k : ℤ) → T (nonneg x) → T (le x (fin true m k)) → (m * up k ≡ 0) × T (le x (fin false m k))
zero-bound nan m k p h = absurd p
zero-bound (inf true) m k p h = absurd p
zero-bound (inf false) m k p h = unfold le in absurd h
zero-bound (fin true n d) m k p h = absurd p
zero-bound (fin false n d) m k p h =
    let z = zeros n d m k h in (
      z.1,
      le_of_values (fin false n d) (fin false m k) (n * up d) (down d) (m * up k) (down k) (down_pos d) (down_pos k) (refl, refl) (refl, refl)
          (le_of_eq (ap (λ (x : ℕ). x * down k) z.0 ∙ zero-mul (down k) ∙ sym (ap (λ (x : ℕ). x * down d) z.1 ∙ zero-mul (down d)))),
    )

rounded-under : (n c : ℕ) → 0 < c → (e : Float) → T (fits binary32 e) → T (le (round binary64 false n c) e) → T (le (round binary32 false n c) e)
rounded-under n c C nan f t = absurd (no-nan-bound (round binary64 false n c) t)
rounded-under n c C (inf true) f t = absurd (no-bound-below (round binary64 false n c) (round-nonneg binary64 n c) t)
rounded-under n c C (inf false) f t = under-inf (round binary32 false n c) (round-nonneg binary32 n c)
rounded-under n c C (fin false m k) f t =
    let u = in-units false m k f in
    rounds-under n c C m k u.0 u.1 u.2 u.3 t
rounded-under n c C (fin true m k) f t =
    let u = in-units true m k f in
    let z = zero-bound (round binary64 false n c) m k (round-nonneg binary64 n c) t in
    le-through (round binary32 false n c) (fin false m k) (fin true m k) (round-nonneg binary32 n c) tt (rounds-under n c C m k u.0 u.1 u.2 u.3 z.1) (of-zeros m k m k z.0 z.0)

-- ---- the size of a difference: one value in all formats, or one fraction, rounded
abbrev Alike : Float → Float → Type 0
Alike x y = ((v : Float) × ((f : Format) → abs_f (Ieee.sub f x y) ≡ v)) ⊎ ((n : ℕ) × (c : ℕ) × (0 < c) × ((f : Format) → abs_f (Ieee.sub f x y) ≡ round f false n c))

sum-size : (s : Bool) (a : ℕ) (t : Bool) (b : ℕ) → ℕ
sum-size s a t b = cond (beq s t) (a + b) (cond (ltb a b) (b - a) (a - b))

abs-sum : (f : Format) (s : Bool) (a : ℕ) (t : Bool) (b c : ℕ) → abs_f (Ieee.sum f s a t b c) ≡ round f false (sum-size s a t b) c
unfolding Ieee.sum sum-size
abs-sum f s a t b c = go (beq s t) (ltb a b)
  where
    go : (p q : Bool) → abs_f (cond p (round f s (a + b) c) (cond q (round f t (b - a) c) (round f (s && ltb b a) (a - b) c))) ≡ round f false (cond p (a + b) (cond q (b - a) (a - b))) c
    go true q = abs-round f s (a + b) c
    go false true = abs-round f t (b - a) c
    go false false = abs-round f (s && ltb b a) (a - b) c

alike : (x y : Float) → Alike x y
unfolding Ieee.sub Ieee.add Ieee.neg abs_f
alike nan y = inl (nan, λ f. refl)
alike (inf s) nan = inl (nan, λ f. refl)
alike (inf s) (inf t) = inl (abs_f (cond (beq s (not t)) (inf s) nan), λ f. refl)
alike (inf s) (fin t n d) = inl (inf false, λ f. refl)
alike (fin s m e) nan = inl (nan, λ f. refl)
alike (fin s m e) (inf t) = inl (inf false, λ f. refl)
alike (fin s m e) (fin t n d) =
    inr (sum-size s (m * up e * down d) (not t) (n * up d * down e), down e * down d, mul-pos (down_pos e) (down_pos d), λ f. abs-sum f s (m * up e * down d) (not t) (n * up d * down e) (down e * down d))

-- ---- the law
near-in-f32 : (e x y : Float) → T (fits binary32 e) → near_in binary64 (Absolute e) x y ≡ true → near_in binary32 (Absolute e) x y ≡ true
unfolding near_in
near-in-f32 e x y f h = go (alike x y)
  where
    go : Alike x y → le (abs_f (Ieee.sub binary32 x y)) e ≡ true
    go (inl (v, is)) = ap (λ (z : Float). le z e) (is binary32 ∙ sym (is binary64)) ∙ h
    go (inr (n, c, C, is)) =
        is_true (le (abs_f (Ieee.sub binary32 x y)) e)
        (subst (λ (z : Float). T (le z e)) (sym (is binary32)) (rounded-under n c C e f (subst (λ (z : Float). T (le z e)) (is binary64) (subst T (sym h) tt))))

pub narrower-lets-through : (e x y : Float) → T (fits binary32 e) → within_in binary64 (Absolute e) x y ≡ true → within_in binary32 (Absolute e) x y ≡ true
unfolding within_in
narrower-lets-through e x y f h =
    elim (or-either (equal_or_nan x y) (near_in binary64 (Absolute e) x y) h) [
      | inl same ↦ ap (λ (t : Bool). t || near_in binary32 (Absolute e) x y) same
      | inr near ↦ or_right (equal_or_nan x y) (near_in binary32 (Absolute e) x y) (near-in-f32 e x y f near)
    ]

-- of bit patterns
pub narrower-patterns : (b p q : ℕ) → within_in binary64 (Absolute (of_bits binary32 b)) (of_bits binary32 p) (of_bits binary32 q) ≡ true
    → within_in binary32 (Absolute (of_bits binary32 b)) (of_bits binary32 p) (of_bits binary32 q) ≡ true
narrower-patterns b p q = narrower-lets-through (of_bits binary32 b) (of_bits binary32 p) (of_bits binary32 q) (of_bits-fits binary32 b)
