-- The order of floats as one of fractions: sums, and quotients by a number above 0, keep it, and of two values in order the greater is the second, bit for bit
-- but for a -0. Over both formats, infinities included. Assumes nothing.
use mathlib.Core.Path.{◌≡◌, refl, sym, ap, ◌∙◌, subst}
use mathlib.Core.Bool.{Bool, true, false, cond, ◌&&◌, ◌||◌}
use mathlib.Core.Logic.{⊎_elim}
use Prim.Native.Nat.{ℕ, zero, suc, ◌+◌, ◌-◌, ◌*◌, ◌/◌, ◌^◌, ◌≤◌, ◌<◌}
use native.Mathlib.Nat.{mul_right_comm, mul-le-mul_right, mul-pos}
use native.Mathlib.Omega.{arith}
use borrow.Author.Tests.{ltb-true, ltb-false, lt-ltb, eqb-true}
use lib.IntN.{ℤ, pos}
use lib.Dec.{T, ltb, eqb, eqb-suc-zero}
use lib.Ieee as Ieee
use lib.Ieee.{Float, nan, inf, fin, Format, binary32, binary64, prec, emax, low, up, down, hid, top, size, odd, units, round, fits, of_bits, to_bits}
use lib.Ieee.Bits.{is_true, of_bits-to_bits}
use lib.Ieee.Fits.{round_is, down_pos, up_pos}
use lib.Ieee.Order.{round_mono, drop, kept}
use lib.Ieee.Nearest.{div_same}
use lib.Ieee.Scale.{round_same}
use Rattle.models.specs.Floats.{max_f}
use Rattle.models.proofs.Tests.{and_left, or-either, by-test}

-- ---- a finite value of the sign s and the size a / down e is (gain s a - loss s a) / down e: one of the two is 0
abbrev pub gain : Bool → ℕ → ℕ
gain true a = 0
gain false a = a

abbrev pub loss : Bool → ℕ → ℕ
loss true a = a
loss false a = 0

-- x is no more than y, and neither is a NaN
abbrev pub NoMore : Float → Float → Type 0
NoMore nan y = ⊥
NoMore (inf s) nan = ⊥
NoMore (inf true) (inf t) = Unit {0}
NoMore (inf false) (inf true) = ⊥
NoMore (inf false) (inf false) = Unit {0}
NoMore (inf true) (fin t n d) = Unit {0}
NoMore (inf false) (fin t n d) = ⊥
NoMore (fin s m e) nan = ⊥
NoMore (fin s m e) (inf true) = ⊥
NoMore (fin s m e) (inf false) = Unit {0}
NoMore (fin s m e) (fin t n d) = gain s (m * up e) * down d + loss t (n * up d) * down e ≤ gain t (n * up d) * down e + loss s (m * up e) * down d

-- ---- what `round` gives has the sign that it is given
pub data Signed (s : Bool) : Float → Type 0 where
  infinite : Signed s (inf s)
  number : (m : ℕ) (e : ℤ) → Signed s (fin s m e)

odd-signed : (d : ℕ) (s : Bool) (q k l : ℕ) → Signed s (odd d s q k l)
unfolding odd
odd-signed d s zero k l = number zero (pos zero)
odd-signed d s (suc q) k l = number _ _

units-signed : (f : Format) (s : Bool) (q k : ℕ) → Signed s (units f s q k)
unfolding units
units-signed f s q k = by-test (Signed s) (ltb (q * 2 ^ k) (2 ^ (low f + suc (emax f)))) _ _ (λ h. odd-signed (suc (prec f)) s q k (low f)) (λ h. infinite)

pub round-signed : (f : Format) (s : Bool) (a c : ℕ) → Signed s (round f s a c)
round-signed f s a c = subst (Signed s) (sym (round_is f s a c)) (units-signed f s (kept (prec f) (a * 2 ^ low f) c) (drop (prec f) (a * 2 ^ low f) c))

-- with the other sign it gives the negative
odd-mirror : (d q k l : ℕ) → odd d true q k l ≡ Ieee.neg (odd d false q k l)
unfolding odd Ieee.neg
odd-mirror d zero k l = refl
odd-mirror d (suc q) k l = refl

units-mirror : (f : Format) (q k : ℕ) → units f true q k ≡ Ieee.neg (units f false q k)
unfolding units Ieee.neg
units-mirror f q k = go (ltb (q * 2 ^ k) (2 ^ (low f + suc (emax f))))
  where
    go : (t : Bool) → cond t (odd (suc (prec f)) true q k (low f)) (inf true) ≡ Ieee.neg (cond t (odd (suc (prec f)) false q k (low f)) (inf false))
    go true = odd-mirror (suc (prec f)) q k (low f)
    go false = refl

pub round-mirror : (f : Format) (a c : ℕ) → round f true a c ≡ Ieee.neg (round f false a c)
round-mirror f a c =
    round_is f true a c ∙ units-mirror f (kept (prec f) (a * 2 ^ low f) c) (drop (prec f) (a * 2 ^ low f) c) ∙ sym (ap Ieee.neg (round_is f false a c))

-- ---- it keeps the order
pub at_most : (a b : ℕ) (c : Bool) → (ltb a b || (eqb a b && c)) ≡ true → a ≤ b
at_most a b c h = ⊎_elim (λ l. omega (arith, ltb-true a b l)) (λ e. omega (arith, eqb-true a b (and_left (eqb a b) c e))) (or-either (ltb a b) (eqb a b && c) h)

pub in_order : {x y : Float} → Signed false x → Signed false y → T (Ieee.le x y) → NoMore x y × NoMore (Ieee.neg y) (Ieee.neg x)
unfolding Ieee.le Ieee.lt Ieee.eq Ieee.neg
in_order infinite infinite h = (tt, tt)
in_order infinite (number n d) h = absurd h
in_order (number m e) infinite h = (tt, tt)
in_order (number m e) (number n d) h = let l = at_most (m * up e * down d) (n * up d * down e) true (is_true _ h) in (omega arith, omega arith)

round-order : (f : Format) (a c b d : ℕ) → 0 < c → 0 < d → a * d ≤ b * c → NoMore (round f false a c) (round f false b d) × NoMore (round f true b d) (round f true a c)
round-order f a c b d C D h =
    rw (round-mirror f a c, round-mirror f b d) (in_order (round-signed f false a c) (round-signed f false b d) (round_mono f a c b d C D h))

below-above : {x y : Float} → Signed true x → Signed false y → NoMore x y
below-above infinite infinite = tt
below-above infinite (number n d) = tt
below-above (number m e) infinite = tt
below-above (number m e) (number n d) = omega arith

no_number : {x : Float} {s : Bool} → Signed s x → NoMore (inf true) x × NoMore x (inf false)
no_number {s = true} infinite = (tt, tt)
no_number {s = false} infinite = (tt, tt)
no_number (number m e) = (tt, tt)

pub round-zero : (f : Format) (s : Bool) (c : ℕ) → 0 < c → round f s 0 c ≡ fin s 0 (pos 0)
unfolding round
round-zero f s c C = round_same f s 0 c 0 1 C (omega arith) (omega arith) ∙ go f
  where
    go : (f : Format) → round f s 0 1 ≡ fin s 0 (pos 0)
    go binary32 = refl
    go binary64 = refl

-- ---- x is (p - n) / c, rounded
pub data Rounded (f : Format) (x : Float) (p n c : ℕ) : Type 0 where
  upward : (a : ℕ) → x ≡ round f false a c → p ≡ n + a → Rounded f x p n c
  downward : (a : ℕ) → x ≡ round f true a c → n ≡ p + a → Rounded f x p n c

nothing : (a b c d : ℕ) → 0 < c → 0 < d → a * d + b * c ≤ 0 → (a ≡ 0) × (b ≡ 0)
nothing zero zero c d C D h = (refl, refl)
nothing (suc a) b c d C D h = absurd (omega arith)
nothing zero (suc b) c d C D h = absurd (omega arith)

module _ (f : Format) {x y : Float} (p n c q m d : ℕ) (C : 0 < c) (D : 0 < d) where
  rounded-order : Rounded f x p n c → Rounded f y q m d → p * d + m * c ≤ q * c + n * d → NoMore x y
  rounded-order (upward a e h) (upward b k g) l =
      let i : a * d ≤ b * c = omega (arith, rw (h, g) at l) in
      rw (e, k) (round-order f a c b d C D i).0
  rounded-order (downward a e h) (downward b k g) l =
      let i : b * c ≤ a * d = omega (arith, rw (h, g) at l) in
      rw (e, k) (round-order f b d a c D C i).1
  rounded-order (downward a e h) (upward b k g) l = rw (e, k) (below-above (round-signed f true a c) (round-signed f false b d))
  rounded-order (upward a e h) (downward b k g) l =
      let none = nothing a b c d C D (omega (arith, rw (h, g) at l)) in
      rw (e, k, none.0, none.1, round-zero f false c C, round-zero f true d D) (omega arith)

pub rounded-zero : (f : Format) {x : Float} (p n c : ℕ) → 0 < c → p ≡ n → Rounded f x p n c → (u : Bool) × (x ≡ fin u 0 (pos 0))
rounded-zero f p n c C e (upward a h g) = let z : a ≡ 0 = omega arith in (false, h ∙ ap (λ (i : ℕ). round f false i c) z ∙ round-zero f false c C)
rounded-zero f p n c C e (downward a h g) = let z : a ≡ 0 = omega arith in (true, h ∙ ap (λ (i : ℕ). round f true i c) z ∙ round-zero f true c C)

-- ---- a sum
sum-rounded : (f : Format) (s : Bool) (a : ℕ) (t : Bool) (b c : ℕ) → Rounded f (Ieee.sum f s a t b c) (gain s a + gain t b) (loss s a + loss t b) c
unfolding Ieee.sum
sum-rounded f false a false b c = upward (a + b) refl (omega arith)
sum-rounded f true a true b c = downward (a + b) refl (omega arith)
sum-rounded f false a true b c = go (ltb a b) refl
  where
    go : (k : Bool) → ltb a b ≡ k → Rounded f (cond k (round f true (b - a) c) (round f false (a - b) c)) (a + 0) (0 + b) c
    go true h = downward (b - a) refl (omega (arith, ltb-true a b h))
    go false h = upward (a - b) refl (omega (arith, ltb-false a b h))
sum-rounded f true a false b c = go (ltb a b) (ltb b a) refl refl
  where
    go : (k l : Bool) → ltb a b ≡ k → ltb b a ≡ l → Rounded f (cond k (round f false (b - a) c) (round f l (a - b) c)) (0 + b) (a + 0) c
    go true l h g = upward (b - a) refl (omega (arith, ltb-true a b h))
    go false true h g = downward (a - b) refl (omega (arith, ltb-true b a g))
    go false false h g = upward (a - b) refl (omega (arith, ltb-false a b h, ltb-false b a g))

shared-gain : (s : Bool) (a k : ℕ) → gain s (a * k) ≡ gain s a * k
shared-gain true a k = omega arith
shared-gain false a k = refl

shared-loss : (s : Bool) (a k : ℕ) → loss s (a * k) ≡ loss s a * k
shared-loss true a k = refl
shared-loss false a k = omega arith

pub add-rounded : (f : Format) (s : Bool) (m : ℕ) (e : ℤ) (t : Bool) (n : ℕ) (d : ℤ)
    → Rounded f (Ieee.add f (fin s m e) (fin t n d)) (gain s (m * up e) * down d + gain t (n * up d) * down e) (loss s (m * up e) * down d + loss t (n * up d) * down e) (down e * down d)
unfolding Ieee.add
add-rounded f s m e t n d =
    rw (← shared-gain s (m * up e) (down d), ← shared-gain t (n * up d) (down e), ← shared-loss s (m * up e) (down d), ← shared-loss t (n * up d) (down e))
    (sum-rounded f s (m * up e * down d) t (n * up d * down e) (down e * down d))

rounded-number : (f : Format) {x : Float} {p n c : ℕ} → Rounded f x p n c → NoMore (inf true) x × NoMore x (inf false)
rounded-number f {c} (upward a e h) = rw e (no_number (round-signed f false a c))
rounded-number f {c} (downward a e h) = rw e (no_number (round-signed f true a c))

-- with the same number added, what is no more stays no more
pub add-order : (f : Format) (x y : Float) (t : Bool) (k : ℕ) (g : ℤ) → NoMore x y → NoMore (Ieee.add f x (fin t k g)) (Ieee.add f y (fin t k g))
unfolding Ieee.add
add-order f nan y t k g h = absurd h
add-order f (inf s) nan t k g h = absurd h
add-order f (inf true) (inf u) t k g h = tt
add-order f (inf false) (inf true) t k g h = absurd h
add-order f (inf false) (inf false) t k g h = tt
add-order f (inf true) (fin u n d) t k g h = (rounded-number f (add-rounded f u n d t k g)).0
add-order f (inf false) (fin u n d) t k g h = absurd h
add-order f (fin s m e) nan t k g h = absurd h
add-order f (fin s m e) (inf true) t k g h = absurd h
add-order f (fin s m e) (inf false) t k g h = (rounded-number f (add-rounded f s m e t k g)).1
add-order f (fin s m e) (fin u n d) t k g h =
    rounded-order f _ _ _ _ _ _ (mul-pos (down_pos e) (down_pos g)) (mul-pos (down_pos d) (down_pos g)) (add-rounded f s m e t k g) (add-rounded f u n d t k g)
    (wider (gain s (m * up e)) (loss s (m * up e)) (down e) (gain u (n * up d)) (loss u (n * up d)) (down d) (gain t (k * up g)) (loss t (k * up g)) (down g) h)
  where
    wider : (p n c q m d v w g : ℕ) → p * d + m * c ≤ q * c + n * d → (p * g + v * c) * (d * g) + (m * g + w * d) * (c * g) ≤ (q * g + v * d) * (c * g) + (n * g + w * c) * (d * g)
    wider p n c q m d v w g h = omega (arith, mul-le-mul_right (g * g) h)

-- below and above a number by as much
pub around : (f : Format) (s : Bool) (m : ℕ) (e : ℤ) (n : ℕ) (d : ℤ) → NoMore (Ieee.sub f (fin s m e) (fin false n d)) (Ieee.add f (fin s m e) (fin false n d))
unfolding Ieee.sub Ieee.neg
around f s m e n d =
    let c : 0 < down e * down d = mul-pos (down_pos e) (down_pos d) in
    rounded-order f _ _ _ _ _ _ c c (add-rounded f s m e true n d) (add-rounded f s m e false n d) (more (gain s (m * up e) * down d) (loss s (m * up e) * down d) (n * up d) (down e) (down e * down d))
  where
    more : (p l w k c : ℕ) → (p + 0 * k) * c + (l + 0 * k) * c ≤ (p + w * k) * c + (l + w * k) * c
    more p l w k c = omega arith

-- ---- a quotient by a number above 0
pub div-rounded : (f : Format) (s : Bool) (m : ℕ) (e : ℤ) (k : ℕ) (g : ℤ)
    → Rounded f (Ieee.div f (fin s m e) (fin false (suc k) g)) (gain s (m * up e) * down g) (loss s (m * up e) * down g) (suc k * up g * down e)
unfolding Ieee.div
div-rounded f false m e k g = rw (eqb-suc-zero k) (upward (m * up e * down g) refl (omega arith))
div-rounded f true m e k g = rw (eqb-suc-zero k) (downward (m * up e * down g) refl (omega arith))

pub div_order : (f : Format) (x y : Float) (k : ℕ) (g : ℤ) → NoMore x y → NoMore (Ieee.div f x (fin false (suc k) g)) (Ieee.div f y (fin false (suc k) g))
unfolding Ieee.div
div_order f nan y k g h = absurd h
div_order f (inf s) nan k g h = absurd h
div_order f (inf true) (inf true) k g h = tt
div_order f (inf true) (inf false) k g h = tt
div_order f (inf false) (inf true) k g h = absurd h
div_order f (inf false) (inf false) k g h = tt
div_order f (inf true) (fin u n d) k g h = (rounded-number f (div-rounded f u n d k g)).0
div_order f (inf false) (fin u n d) k g h = absurd h
div_order f (fin s m e) nan k g h = absurd h
div_order f (fin s m e) (inf true) k g h = absurd h
div_order f (fin s m e) (inf false) k g h = (rounded-number f (div-rounded f s m e k g)).1
div_order f (fin s m e) (fin u n d) k g h =
    let some : 0 < suc k * up g = mul-pos (omega arith) (up_pos g) in
    rounded-order f _ _ _ _ _ _ (mul-pos some (down_pos e)) (mul-pos some (down_pos d)) (div-rounded f s m e k g) (div-rounded f u n d k g)
    (wider (gain s (m * up e)) (loss s (m * up e)) (down e) (gain u (n * up d)) (loss u (n * up d)) (down d) (suc k * up g) (down g) h)
  where
    wider : (p n c q m d v g : ℕ) → p * d + m * c ≤ q * c + n * d → p * g * (v * d) + m * g * (v * c) ≤ q * g * (v * c) + n * g * (v * d)
    wider p n c q m d v g h = omega (arith, mul-le-mul_right (g * v) h)

-- ---- the same number with the same sign is one value of a format
one_way : (f : Format) (s : Bool) (m : ℕ) (e : ℤ) (n : ℕ) (d : ℤ) → T (fits f (fin s m e)) → T (fits f (fin s n d)) → m * up e * down d ≡ n * up d * down e → fin s m e ≡ fin s n d
unfolding to_bits
one_way f s m e n d p q h =
    let l = 2 ^ low f in
    let cross : m * up e * l * down d ≡ n * up d * l * down e = mul_right_comm (m * up e) l (down d) ∙ ap (λ (a : ℕ). a * l) h ∙ mul_right_comm (n * up d) (down e) l in
    let same : m * up e * l / down e ≡ n * up d * l / down d = div_same (m * up e * l) (down e) (n * up d * l) (down d) (down_pos e) (down_pos d) cross in
    let bits : to_bits f (fin s m e) ≡ to_bits f (fin s n d) = ap (λ (a : ℕ). cond s (top f) 0 + (size a - prec f) * hid f + a / 2 ^ (size a - prec f)) same in
    sym (of_bits-to_bits f (fin s m e) p) ∙ ap (of_bits f) bits ∙ of_bits-to_bits f (fin s n d) q

-- ---- so of two values in order, neither of them -0, the greater is the second
abbrev pub NoMinusZero : Float → Type 0
NoMinusZero (fin true zero e) = ⊥
NoMinusZero (fin true (suc m) e) = Unit {0}
NoMinusZero (fin false m e) = Unit {0}
NoMinusZero (inf s) = Unit {0}
NoMinusZero nan = Unit {0}

pub some_size : (m : ℕ) (e d : ℤ) → 0 < suc m * up e * down d
some_size m e d = mul-pos (mul-pos {m = suc m} {n = up e} (omega arith) (up_pos e)) (down_pos d)

pub greater-is-right : (f : Format) (x y : Float) → T (fits f x) → T (fits f y) → NoMinusZero x → NoMinusZero y → NoMore x y → max_f x y ≡ y
unfolding max_f Ieee.is_nan Ieee.lt
greater-is-right f nan y p q a b h = absurd h
greater-is-right f (inf s) nan p q a b h = absurd h
greater-is-right f (inf true) (inf true) p q a b h = refl
greater-is-right f (inf true) (inf false) p q a b h = refl
greater-is-right f (inf false) (inf true) p q a b h = absurd h
greater-is-right f (inf false) (inf false) p q a b h = refl
greater-is-right f (inf true) (fin t n d) p q a b h = refl
greater-is-right f (inf false) (fin t n d) p q a b h = absurd h
greater-is-right f (fin s m e) nan p q a b h = absurd h
greater-is-right f (fin s m e) (inf true) p q a b h = absurd h
greater-is-right f (fin s m e) (inf false) p q a b h = refl
greater-is-right f (fin false m e) (fin false n d) p q a b h =
    by-test (λ (z : Float). z ≡ fin false n d) (ltb (m * up e * down d) (n * up d * down e)) _ _ (λ l. refl) (λ l. one_way f false m e n d p q (omega (arith, ltb-false (m * up e * down d) (n * up d * down e) l)))
greater-is-right f (fin true m e) (fin true n d) p q a b h =
    by-test (λ (z : Float). z ≡ fin true n d) (ltb (n * up d * down e) (m * up e * down d)) _ _ (λ l. refl) (λ l. one_way f true m e n d p q (omega (arith, ltb-false (n * up d * down e) (m * up e * down d) l)))
greater-is-right f (fin true zero e) (fin false n d) p q a b h = absurd a
greater-is-right f (fin true (suc m) e) (fin false n d) p q a b h =
    rw (lt-ltb 0 (suc m * up e * down d + n * up d * down e) (omega (arith, some_size m e d)))
greater-is-right f (fin false m e) (fin true zero d) p q a b h = absurd b
greater-is-right f (fin false m e) (fin true (suc n) d) p q a b h = absurd (omega (arith, some_size n d e))
