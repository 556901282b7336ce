-- How near to 0 a sum of floats comes without being 0: a sum of an f32 and an f64, and the difference of such a sum and an f32, is 0 or 2 ^ -203 in size at
-- least, so that its quotient by a timespan does not fall to 0. Assumes nothing.
use mathlib.Core.Path.{◌≡◌, refl, sym, ap, ◌∙◌, subst}
use mathlib.Core.Bool.{Bool, true, false, not, true≢false, false≢true}
use mathlib.Core.Logic.{◌⊎◌, inl, inr, ⊎_elim}
use Prim.Native.Nat.{ℕ, zero, suc, ◌+◌, ◌-◌, ◌*◌, ◌^◌, ◌≤◌, ◌<◌}
use native.Mathlib.Nat.{le_trans, le_of_eq, le_of_lt, not-le_of_lt, add_comm, mul_comm, mul-le-mul, mul-le-mul_left, mul-one, one-mul, mul-le-mul_right, mul-pos, le_of_mul-le-mul_right, eq_of_mul-eq-mul_right, eq-or-lt_of_le}
use native.Mathlib.Omega.{arith}
use borrow.Author.Tests.{eqb-true, eq-eqb}
use lib.IntN.{ℤ, pos, negsuc}
use lib.Dec.{T, eqb, lit≤}
use lib.Pow.{pow-add, pow_pos, pow-lt}
use lib.Ieee as Ieee
use lib.Ieee.{Float, nan, inf, fin, Format, binary32, binary64, prec, emax, low, up, down, round, fits}
use lib.Ieee.Digits.{back}
use lib.Ieee.Exact.{HasValue, round_exact}
use lib.Ieee.Fits.{two, down_pos, up_pos, neg-fits, fits_widens}
use lib.Ieee.Order.{round_mono}
use Rattle.numbers.proofs.Shifts.{pow_le_back, lt-or-le}
use Rattle.numbers.proofs.InFormat.{in-format}
use Rattle.models.specs.Floats.{equal_or_nan}
use Rattle.models.proofs.Tests.{and_left, and_right, or-false}
use Rattle.lines.specs.Line.{◌+f◌}
use Rattle.swing.proofs.Order.{gain, loss, NoMore, NoMinusZero, Signed, infinite, number, round-signed, round-mirror, in_order, Rounded, upward, downward, rounded-zero, add-rounded}

-- ---- x is an infinity, or 2 ^ -k in size at least
abbrev pub Large : ℕ → Float → Type 0
Large k nan = ⊥
Large k (inf s) = Unit {0}
Large k (fin s m e) = down e ≤ m * up e * 2 ^ k

pub large-some : (k : ℕ) (x : Float) → Large k x → NoMinusZero x
large-some k nan h = absurd h
large-some k (inf s) h = tt
large-some k (fin false m e) h = tt
large-some k (fin true zero e) h = absurd (omega (arith, down_pos e))
large-some k (fin true (suc m) e) h = tt

-- 2 ^ -k itself
unit-value : (f : Format) (k : ℕ) → k ≤ low f → HasValue (round f false 1 (2 ^ k)) false 1 (2 ^ k)
unit-value f k h =
    let j = low f - k in
    let e : 1 * 2 ^ low f ≡ 1 * 2 ^ j * 2 ^ k = one-mul (2 ^ low f) ∙ ap (λ (i : ℕ). 2 ^ i) (sym (back (low f) k h)) ∙ pow-add 2 j k ∙ ap (λ (a : ℕ). a * 2 ^ k) (sym (one-mul (2 ^ j))) in
    let few : 1 < 2 ^ prec f = pow-lt {i = 0} {j = prec f} (omega (arith, two f)) in
    let small : 2 ^ j < 2 ^ (low f + suc (emax f)) = pow-lt {i = j} {j = low f + suc (emax f)} (omega arith) in
    round_exact f false 1 (2 ^ k) 1 j (pow_pos k) few (omega (arith, one-mul (2 ^ j))) e

past-unit : (k : ℕ) (x : Float) {y : Float} → HasValue x false 1 (2 ^ k) → Signed false y → NoMore x y → Large k y
past-unit k nan v g h = absurd h
past-unit k (inf s) v g h = absurd v
past-unit k (fin s m e) v infinite h = tt
past-unit k (fin true m e) v (number n d) h = absurd (true≢false v.0)
past-unit k (fin false m e) v (number n d) h =
    let w : m * up e * 2 ^ k ≡ down e = v.1 ∙ one-mul (down e) in
    le_of_mul-le-mul_right (go (m * up e) (down e) (n * up d) (down d) (2 ^ k) w h) (down_pos e)
  where
    go : (a e b d k : ℕ) → a * k ≡ e → a * d + 0 * e ≤ b * e + 0 * d → d * e ≤ b * k * e
    go a e b d k w h = rw (← w) (omega (arith, rw (← w) at (mul-le-mul_right k h)))

mirror-large : (k : ℕ) {x : Float} → Signed false x → Large k x → Large k (Ieee.neg x)
unfolding Ieee.neg
mirror-large k infinite h = tt
mirror-large k (number m e) h = h

positive-large : (f : Format) (a c k : ℕ) → 0 < c → k ≤ low f → c ≤ a * 2 ^ k → Large k (round f false a c)
positive-large f a c k C l h =
    past-unit k (round f false 1 (2 ^ k)) (unit-value f k l) (round-signed f false a c) (in_order (round-signed f false 1 (2 ^ k)) (round-signed f false a c) (round_mono f 1 (2 ^ k) a c (pow_pos k) C (omega (arith, one-mul c)))).0

round-large : (f : Format) (s : Bool) (a c k : ℕ) → 0 < c → k ≤ low f → c ≤ a * 2 ^ k → Large k (round f s a c)
round-large f false a c k C l h = positive-large f a c k C l h
round-large f true a c k C l h = rw (round-mirror f a c) (mirror-large k (round-signed f false a c) (positive-large f a c k C l h))

-- ---- p / c and n / c lie 2 ^ -k apart at least
abbrev pub Gap : ℕ → ℕ → ℕ → ℕ → Type 0
Gap k p n c = (n * 2 ^ k + c ≤ p * 2 ^ k) ⊎ (p * 2 ^ k + c ≤ n * 2 ^ k)

nearer : (w p n c a : ℕ) → p ≡ n + a → n * w + c ≤ p * w → c ≤ a * w
nearer w p n c a h g = omega (arith, rw h at g)

farther : (w p n c a : ℕ) → 0 < c → n ≡ p + a → n * w + c ≤ p * w → ⊥
farther w p n c a C h g = omega (arith, rw h at g)

pub rounded-large : (f : Format) {x : Float} (p n c k : ℕ) → 0 < c → k ≤ low f → Gap k p n c → Rounded f x p n c → Large k x
rounded-large f p n c k C l (inl g) (upward a e h) = rw e (round-large f false a c k C l (nearer (2 ^ k) p n c a h g))
rounded-large f p n c k C l (inr g) (downward a e h) = rw e (round-large f true a c k C l (nearer (2 ^ k) n p c a h g))
rounded-large f p n c k C l (inl g) (downward a e h) = absurd (farther (2 ^ k) p n c a C h g)
rounded-large f p n c k C l (inr g) (upward a e h) = absurd (farther (2 ^ k) n p c a C h g)

-- ---- the sum of an f32 other than 0 and of an f64 is 0, or 2 ^ -203 in size at least

-- 2 ^ k is a whole number of parts
steps : (e : ℤ) (k : ℕ) → down e ≤ 2 ^ k → (j : ℕ) × (2 ^ k ≡ j * down e)
steps (pos a) k h = (2 ^ k, sym (mul-one (2 ^ k)))
steps (negsuc a) k h =
    let l = pow_le_back (suc a) k h in
    (2 ^ (k - suc a), ap (λ (i : ℕ). 2 ^ i) (sym (back k (suc a) l)) ∙ pow-add 2 (k - suc a) (suc a))

-- two whole numbers of steps of 2 ^ -k are equal or a step apart
stepwise : (w p n c P N : ℕ) → 0 < w → p * w ≡ P * c → n * w ≡ N * c → (p ≡ n) ⊎ ((n * w + c ≤ p * w) ⊎ (p * w + c ≤ n * w))
stepwise w p n c P N W h g =
    ⊎_elim
    (λ l. inr (inr (omega (arith, mul-le-mul_right c l))))
    (λ l. ⊎_elim
    (λ e. inl (eq_of_mul-eq-mul_right w W p n (h ∙ ap (λ (a : ℕ). a * c) (sym e) ∙ sym g)))
    (λ l. inr (inl (omega (arith, mul-le-mul_right c l))))
    (eq-or-lt_of_le l))
    (lt-or-le P N)

together : (a b d e i j w : ℕ) → w ≡ i * d → w ≡ j * e → (a * e + b * d) * w ≡ (a * i + b * j) * (d * e)
together a b d e i j w h g = omega (arith, ap (λ (x : ℕ). a * e * x) h, ap (λ (x : ℕ). b * d * x) g)

digits : (f : Format) (t : Bool) (n : ℕ) (d : ℤ) → T (fits f (fin t n d)) → n < 2 ^ prec f
digits f t zero d h = pow_pos (prec f)
digits f t (suc n) d h = (in-format f t n d h).0

-- an f64 that is no whole number of steps is far smaller than the f32
part-gain : (t : Bool) (a : ℕ) → gain t a ≤ a
part-gain true a = omega arith
part-gain false a = omega arith

part-loss : (t : Bool) (a : ℕ) → loss t a ≤ a
part-loss true a = omega arith
part-loss false a = omega arith

tiny : (a n dx : ℕ) (d : ℤ) → a ≤ n * up d → n < 2 ^ 53 → dx ≤ 2 ^ 149 → 2 ^ 203 < down d → 2 * (a * dx) ≤ down d
tiny a n dx (pos k) h few small big = absurd (not-le_of_lt big (lit≤ tt))
tiny a n dx (negsuc k) h few small big =
    let l : a ≤ 2 ^ 53 = le_trans h (le_trans (le_of_eq (mul-one n)) (le_of_lt few)) in
    le_trans (mul-le-mul_left 2 (mul-le-mul l small)) (le_trans (lit≤ tt) (le_of_lt big))

far : (x g l dx d w : ℕ) → 1 ≤ x → 2 * (l * dx) ≤ d → 2 * dx ≤ w → (0 * d + l * dx) * w + dx * d ≤ (x * d + g * dx) * w
far x g l dx d w X h k = omega (arith, mul-le-mul_right w h, mul-le-mul_right d k, mul-le-mul_right (d * w) X)

apart : (s : Bool) (m : ℕ) (e : ℤ) (t : Bool) (n : ℕ) (d : ℤ) → T (fits binary32 (fin s (suc m) e)) → T (fits binary64 (fin t n d))
    → (gain s (suc m * up e) * down d + gain t (n * up d) * down e ≡ loss s (suc m * up e) * down d + loss t (n * up d) * down e)
    ⊎ Gap 203 (gain s (suc m * up e) * down d + gain t (n * up d) * down e) (loss s (suc m * up e) * down d + loss t (n * up d) * down e) (down e * down d)
apart s m e t n d p q = ⊎_elim (λ big. inr (small s big)) wide (lt-or-le (2 ^ 203) (down d))
  where
    x : ℕ
    x = suc m * up e

    y : ℕ
    y = n * up d

    some : 1 ≤ suc m * up e
    some = mul-pos {m = suc m} {n = up e} (omega arith) (up_pos e)

    step : down e ≤ 2 ^ 149
    step = (in-format binary32 s m e p).1

    wide : down d ≤ 2 ^ 203 → (gain s x * down d + gain t y * down e ≡ loss s x * down d + loss t y * down e) ⊎ Gap 203 (gain s x * down d + gain t y * down e) (loss s x * down d + loss t y * down e) (down e * down d)
    wide h =
        let i = steps e 203 (le_trans step (lit≤ tt)) in
        let j = steps d 203 h in
        stepwise (2 ^ 203) _ _ _ _ _ (pow_pos 203) (together (gain s x) (gain t y) (down e) (down d) i.0 j.0 (2 ^ 203) i.1 j.1) (together (loss s x) (loss t y) (down e) (down d) i.0 j.0 (2 ^ 203) i.1 j.1)

    small : (s : Bool) → 2 ^ 203 < down d → Gap 203 (gain s x * down d + gain t y * down e) (loss s x * down d + loss t y * down e) (down e * down d)
    small false big = inl (far x (gain t y) (loss t y) (down e) (down d) (2 ^ 203) some (tiny (loss t y) n (down e) d (part-loss t y) (digits binary64 t n d q) step big) (le_trans (mul-le-mul_left 2 step) (lit≤ tt)))
    small true big = inr (far x (loss t y) (gain t y) (down e) (down d) (2 ^ 203) some (tiny (gain t y) n (down e) d (part-gain t y) (digits binary64 t n d q) step big) (le_trans (mul-le-mul_left 2 step) (lit≤ tt)))

-- ---- a difference of two numbers is 0 exactly if they are equal-or-NaN
abbrev pub up_by : Bool → ℕ → ℤ → Bool → ℕ → ℤ → ℕ
up_by t n d s m e = gain t (n * up d) * down e + gain (not s) (m * up e) * down d

abbrev pub down_by : Bool → ℕ → ℤ → Bool → ℕ → ℤ → ℕ
down_by t n d s m e = loss t (n * up d) * down e + loss (not s) (m * up e) * down d

pub equal-parts : (s : Bool) (m : ℕ) (e : ℤ) (t : Bool) (n : ℕ) (d : ℤ) → equal_or_nan (fin s m e) (fin t n d) ≡ true → up_by t n d s m e ≡ down_by t n d s m e
unfolding equal_or_nan Ieee.eq Ieee.is_nan
equal-parts s m e t n d h = go s t (sym (or-false _ false refl) ∙ h)
  where
    a : ℕ
    a = m * up e * down d

    b : ℕ
    b = n * up d * down e

    go : (s t : Bool) → Ieee.level s (m * up e * down d) t (n * up d * down e) ≡ true → up_by t n d s m e ≡ down_by t n d s m e
    go false false h = omega (arith, eqb-true a b (and_left (eqb a b) _ h))
    go true true h = omega (arith, eqb-true a b (and_left (eqb a b) _ h))
    go true false h = omega (arith, eqb-true a b (and_left (eqb a b) (eqb a 0) h), eqb-true a 0 (and_right (eqb a b) (eqb a 0) h))
    go false true h = omega (arith, eqb-true a b (and_left (eqb a b) (eqb a 0) h), eqb-true a 0 (and_right (eqb a b) (eqb a 0) h))

parts-equal : (s : Bool) (m : ℕ) (e : ℤ) (t : Bool) (n : ℕ) (d : ℤ) → up_by t n d s m e ≡ down_by t n d s m e → equal_or_nan (fin s m e) (fin t n d) ≡ true
unfolding equal_or_nan Ieee.eq Ieee.is_nan
parts-equal false m e false n d h = rw (eq-eqb (m * up e * down d) (n * up d * down e) (omega arith))
parts-equal true m e true n d h = rw (eq-eqb (m * up e * down d) (n * up d * down e) (omega arith))
parts-equal true m e false n d h = rw (eq-eqb (m * up e * down d) (n * up d * down e) (omega arith), eq-eqb (m * up e * down d) 0 (omega arith))
parts-equal false m e true n d h = rw (eq-eqb (m * up e * down d) (n * up d * down e) (omega arith), eq-eqb (m * up e * down d) 0 (omega arith))

-- ---- x is an infinity, or 0, or 2 ^ -203 in size at least
abbrev pub Clear : Float → Type 0
Clear nan = ⊥
Clear (inf s) = Unit {0}
Clear (fin s zero e) = Unit {0}
Clear (fin s (suc m) e) = down e ≤ suc m * up e * 2 ^ 203

large-clear : (x : Float) → Large 203 x → Clear x
large-clear nan h = h
large-clear (inf s) h = h
large-clear (fin s zero e) h = tt
large-clear (fin s (suc m) e) h = h

no_part : (u : Bool) (a : ℕ) → (gain u (0 * a) ≡ 0) × (loss u (0 * a) ≡ 0)
no_part true a = (refl, omega arith)
no_part false a = (omega arith, refl)

swapped : (f : Format) {x : Float} (a b i j c d : ℕ) → Rounded f x (a + b) (i + j) (c * d) → Rounded f x (b + a) (j + i) (d * c)
swapped f a b i j c d r = rw (add_comm b a, add_comm j i, mul_comm d c) r

sum-clear : (f : Format) {x : Float} (p n c : ℕ) → 0 < c → 203 ≤ Ieee.low f → (p ≡ n) ⊎ Gap 203 p n c → Rounded f x p n c → Clear x
sum-clear f p n c C l (inl e) r = let z = rounded-zero f p n c C e r in subst Clear (sym z.1) tt
sum-clear f {x} p n c C l (inr g) r = large-clear x (rounded-large f p n c 203 C l g r)

-- the sum of an f32 and of an f64, which is 0 or an f32 too where the first is 0
pub add-clear : (s : Bool) (m : ℕ) (e : ℤ) (t : Bool) (n : ℕ) (d : ℤ) → T (fits binary32 (fin s m e)) → T (fits binary64 (fin t n d)) → (m ≡ 0 → (n ≡ 0) ⊎ T (fits binary32 (fin t n d))) → Clear (fin s m e +f fin t n d)
add-clear s (suc m) e t n d p q h =
    sum-clear binary64 _ _ _ (mul-pos (down_pos e) (down_pos d)) (lit≤ tt) (apart s m e t n d p q) (add-rounded binary64 s (suc m) e t n d)
add-clear s zero e t zero d p q h =
    sum-clear binary64 _ _ _ (mul-pos (down_pos e) (down_pos d)) (lit≤ tt) (inl (rw ((no_part s (up e)).0, (no_part s (up e)).1, (no_part t (up d)).0, (no_part t (up d)).1))) (add-rounded binary64 s zero e t zero d)
add-clear s zero e t (suc n) d p q h =
    let z : T (fits binary32 (fin t (suc n) d)) = ⊎_elim (λ z. absurd (omega (arith, z))) (λ k. k) (h refl) in
    sum-clear binary64 _ _ _ (mul-pos (down_pos d) (down_pos e)) (lit≤ tt) (apart t n d s zero e z (fits_widens (fin s zero e) p)) (swapped binary64 _ _ _ _ _ _ (add-rounded binary64 s zero e t (suc n) d))

-- the difference of such a number and an f32
pub apart-or-equal : (s : Bool) (m : ℕ) (e : ℤ) (t : Bool) (n : ℕ) (d : ℤ) → T (fits binary32 (fin s m e)) → T (fits binary64 (fin t n d)) → Clear (fin t n d) → equal_or_nan (fin s m e) (fin t n d) ≡ false
    → Gap 203 (up_by t n d s m e) (down_by t n d s m e) (down d * down e)
unfolding Ieee.neg
apart-or-equal s (suc m) e t n d p q c differ =
    let x = suc m * up e in
    let y = n * up d in
    ⊎_elim
    (λ same. absurd (false≢true (sym differ ∙ parts-equal s (suc m) e t n d (add_comm (gain t y * down e) (gain (not s) x * down d) ∙ same ∙ add_comm (loss (not s) x * down d) (loss t y * down e)))))
    (λ gap. rw (add_comm (gain t y * down e) (gain (not s) x * down d), add_comm (loss t y * down e) (loss (not s) x * down d), mul_comm (down d) (down e)) gap)
    (apart (not s) m e t n d (neg-fits binary32 (fin s (suc m) e) p) q)
apart-or-equal s zero e t zero d p q c differ = absurd (false≢true (sym differ ∙ parts-equal s zero e t zero d (rw ((no_part t (up d)).0, (no_part t (up d)).1, (no_part (not s) (up e)).0, (no_part (not s) (up e)).1))))
apart-or-equal s zero e t (suc n) d p q c differ = rw ((no_part (not s) (up e)).0, (no_part (not s) (up e)).1) (go t)
  where
    size : (y d e w : ℕ) → d ≤ y * w → (0 * e + 0 * d) * w + d * e ≤ (y * e + 0 * d) * w
    size y d e w h = omega (arith, mul-le-mul_right e h)

    go : (t : Bool) → Gap 203 (gain t (suc n * up d) * down e + 0 * down d) (loss t (suc n * up d) * down e + 0 * down d) (down d * down e)
    go false = inl (size (suc n * up d) (down d) (down e) (2 ^ 203) c)
    go true = inr (size (suc n * up d) (down d) (down e) (2 ^ 203) c)
