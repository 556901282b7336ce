-- The slopes of the two lines that a second point sets: the greater of them is that of the upper line. Assumes nothing.
use mathlib.Core.Path.{◌≡◌, refl, sym, ap, ◌∙◌, subst}
use mathlib.Core.Bool.{Bool, true, false, not, cond, true≢false, false≢true}
use mathlib.Core.Logic.{◌⊎◌, inl, inr, ⊎_elim}
use Prim.Native.Nat.{ℕ, zero, suc, ◌+◌, ◌-◌, ◌*◌, ◌^◌, ◌≤◌, ◌<◌}
use native.Mathlib.Nat.{le_trans, le_of_eq, zero-mul, mul-one, mul-le-mul, mul-le-mul_right, mul-pos}
use native.Mathlib.Omega.{arith}
use borrow.Author.Tests.{ltb-true, le-ltb}
use lib.IntN.{ℤ, pos, negsuc, ◌-ℤ◌}
use lib.Signed.{lt_z}
use lib.Dec.{T, leb→le, lit≤}
use lib.Ieee as Ieee
use lib.Ieee.{Float, nan, inf, fin, binary32, binary64, up, down, fits}
use lib.Ieee.Exact.{HasValue}
use lib.Ieee.Back.{round_whole}
use lib.Ieee.Fits.{up_pos, down_pos, inf-fits, cond-fits, neg-fits, add-fits, sub-fits, mul-fits, div-fits, fits_widens}
use Rattle.models.specs.Floats.{zero_f, hundred, abs_f, is_finite, equal_or_nan, max_f}
use Rattle.models.specs.Bound.{bound_allowed, BoundHeld, deviation}
use Rattle.models.specs.declared.ErrorBound.{ErrorBound}
use Rattle.models.specs.declared.ErrorBound.TheVariants.{Lossless, Absolute, Relative}
use Rattle.models.proofs.Tests.{and_left, and_right, by-test}
use Rattle.lines.specs.Times.{time_allowed}
use Rattle.lines.specs.Line.{◌+f◌, ◌-f◌, ◌/f◌, both_finite, raised, lowered, span_f, sloped, line_through}
use Rattle.lines.specs.declared.Point.{Point}
use Rattle.lines.proofs.Exact.{span-whole}
use Rattle.swing.proofs.Order.{gain, loss, NoMore, NoMinusZero, add-rounded, div-rounded, round-zero, rounded-zero, add-order, div_order, around, greater-is-right}
use Rattle.swing.proofs.Apart.{Large, large-some, Gap, rounded-large, Clear, add-clear, up_by, down_by, equal-parts, apart-or-equal}

-- ---- the time from one point to a later one is above 0
later-by : (a b : ℤ) → lt_z a b ≡ true → (n : ℕ) × (b -ℤ a ≡ pos (suc n))
later-by (pos zero) (pos m) h =
    let l = ltb-true 0 m h in
    let e : m + 0 ≡ suc (m - 1) = omega arith in
    (m - 1, ap pos e)
later-by (pos (suc n)) (pos m) h =
    let l = ltb-true (suc n) m h in
    let e : m - suc n ≡ suc (m - suc n - 1) = omega arith in
    (m - suc n - 1, rw (le-ltb m (suc n) (omega arith)) (ap pos e))
later-by (negsuc n) (pos m) h =
    let e : m + suc n ≡ suc (m + n) = omega arith in
    (m + n, ap pos e)
later-by (pos n) (negsuc m) h = absurd (false≢true h)
later-by (negsuc n) (negsuc m) h =
    let l = ltb-true m n h in
    let e : suc n - suc m ≡ suc (n - m - 1) = omega arith in
    (n - m - 1, rw (le-ltb (suc n) (suc m) (omega arith)) (ap pos e))

-- a float that is a whole number from 1 to 2 ^ 53
pub record Span (x : Float) : Type 0 where
  pub k : ℕ
  pub g : ℤ
  pub is : x ≡ fin false (suc k) g
  pub most : suc k * up g ≤ 2 ^ 53 * down g

whole-span : (x : Float) (n : ℕ) → HasValue x false (suc n) 1 → suc n ≤ 2 ^ 53 → Span x
whole-span nan n v h = absurd v
whole-span (inf s) n v h = absurd v
whole-span (fin true m e) n v h = absurd (true≢false v.0)
whole-span (fin false zero e) n v h = absurd (omega (arith, v.1, mul-pos {m = suc n} {n = down e} (omega arith) (down_pos e)))
whole-span (fin false (suc m) e) n v h =
    record { k = m; g = e; is = refl; most = le_trans (le_of_eq (sym (mul-one (suc m * up e)) ∙ v.1)) (mul-le-mul_right (down e) h) }

pub span : (a b : ℤ) → time_allowed a ≡ true → time_allowed b ≡ true → lt_z a b ≡ true → Span (span_f a b)
unfolding Ieee.of_int Ieee.in_float
span a b p q h =
    let n = later-by a b h in
    let most : suc n.0 ≤ 2 ^ 53 = leb→le (suc n.0) (2 ^ 53) (subst (λ (z : ℤ). T (Ieee.in_float binary64 z)) n.1 (span-whole a b p q)) in
    rw n.1 (whole-span (Ieee.of_int binary64 (pos (suc n.0))) n.0 (round_whole binary64 false (suc n.0) most) most)

-- ---- the deviation that a bound allows at a value, whose digits are the number n: it is not below 0, and at 0 it is 0 or an f32
data Deviates (n : ℕ) : Float → Type 0 where
  no_number : Deviates n nan
  unbounded : Deviates n (inf false)
  by : (i : ℕ) (g : ℤ) → T (fits binary64 (fin false i g)) → (n ≡ 0 → (i ≡ 0) ⊎ T (fits binary32 (fin false i g))) → Deviates n (fin false i g)

abbrev NoSize : Float → Type 0
NoSize nan = Unit {0}
NoSize (inf s) = ⊥
NoSize (fin s i g) = i ≡ 0

no-product : (t : Bool) (d : ℤ) (q : Float) → NoSize (Ieee.mul binary64 (fin t 0 d) q)
unfolding Ieee.mul
no-product t d nan = tt
no-product t d (inf u) = tt
no-product t d (fin u i g) =
    let none : 0 * up d * (i * up g) ≡ 0 = ap (λ (a : ℕ). a * (i * up g)) (zero-mul (up d)) ∙ zero-mul (i * up g) in
    rw (none, round-zero binary64 (Ieee.unlike t u) (down d * down g) (mul-pos (down_pos d) (down_pos g)))

sizes : (n : ℕ) (x : Float) → T (fits binary64 x) → (n ≡ 0 → NoSize x) → Deviates n (abs_f x)
unfolding abs_f fits
sizes n nan p h = no_number
sizes n (inf s) p h = unbounded
sizes n (fin s zero g) p h = by zero g p (λ z. inl refl)
sizes n (fin s (suc i) g) p h = by (suc i) g p (λ z. inl (h z))

deviates : (b : ErrorBound) (t : Bool) (n : ℕ) (d : ℤ) → bound_allowed b ≡ true → BoundHeld b → Deviates n (deviation b (fin t n d))
unfolding deviation bound_allowed is_finite Ieee.lt fits
deviates Lossless t n d ok held = by 0 (pos 0) tt (λ z. inl refl)
deviates (Absolute nan) t n d ok held = absurd (false≢true ok)
deviates (Absolute (inf s)) t n d ok held = absurd (false≢true ok)
deviates (Absolute (fin true i g)) t n d ok held = absurd (false≢true ok)
deviates (Absolute (fin false i g)) t n d ok held = by i g (fits_widens (fin false i g) held) (λ z. inr held)
deviates (Relative e) t n d ok held =
    let q = Ieee.div binary64 e hundred in
    sizes n (Ieee.mul binary64 (fin t n d) q) (mul-fits binary64 (fin t n d) q) (λ z. rw z (no-product t d q))

-- ---- a zero of either sign
zero_left : (u : Bool) (y : Float) → NoMore (fin u 0 (pos 0)) y → NoMore zero_f y
zero_left true nan h = h
zero_left true (inf true) h = h
zero_left true (inf false) h = h
zero_left true (fin t n d) h = omega arith
zero_left false y h = h

zero_right : (x : Float) (u : Bool) → NoMore x (fin u 0 (pos 0)) → NoMore x zero_f
zero_right nan true h = h
zero_right (inf true) true h = h
zero_right (inf false) true h = h
zero_right (fin s m e) true h = omega arith
zero_right x false h = h

-- ---- the slope from a first value to w, over a span of time: a line whose ends are equal is level
module _ (s : Bool) (m : ℕ) (e : ℤ) (k : ℕ) (g : ℤ) where
  abbrev rise : Float → Float
  rise w = (w -f fin s m e) /f fin false (suc k) g

  abbrev slope_to : Float → Float
  slope_to w = cond (equal_or_nan (fin s m e) w) zero_f (rise w)

  some : 0 < suc k * up g
  some = mul-pos {m = suc k} {n = up g} (omega arith) (up_pos g)

  no-rise : (w : Float) → equal_or_nan (fin s m e) w ≡ true → (u : Bool) × (rise w ≡ fin u 0 (pos 0))
  unfolding equal_or_nan Ieee.eq Ieee.is_nan Ieee.sub Ieee.neg
  no-rise nan h = absurd (false≢true h)
  no-rise (inf t) h = absurd (false≢true h)
  no-rise (fin t n d) h =
      let z = rounded-zero binary64 _ _ _ (mul-pos (down_pos d) (down_pos e)) (equal-parts s m e t n d h) (add-rounded binary64 t n d (not s) m e) in
      let q = rounded-zero binary64 _ _ _ (mul-pos some (omega arith)) (none z.0) (div-rounded binary64 z.0 0 (pos 0) k g) in
      (q.0, ap (λ (x : Float). x /f fin false (suc k) g) z.1 ∙ q.1)
    where
      none : (u : Bool) → gain u (0 * up (pos 0)) * down g ≡ loss u (0 * up (pos 0)) * down g
      none true = refl
      none false = refl

  slope-order : (l u : Float) → NoMore l u → NoMore (slope_to l) (slope_to u)
  unfolding Ieee.sub Ieee.neg
  slope-order l u h =
      let q : NoMore (rise l) (rise u) = div_order binary64 (l -f fin s m e) (u -f fin s m e) k g (add-order binary64 l u (not s) m e h) in
      by-test (λ (z : Float). NoMore z (slope_to u)) (equal_or_nan (fin s m e) l) zero_f (rise l)
      (λ i. let zl = no-rise l i in
      by-test (NoMore zero_f) (equal_or_nan (fin s m e) u) zero_f (rise u) (λ j. omega arith) (λ j. zero_left zl.0 (rise u) (subst (λ (z : Float). NoMore z (rise u)) zl.1 q)))
      (λ i. by-test (NoMore (rise l)) (equal_or_nan (fin s m e) u) zero_f (rise u) (λ j. let zu = no-rise u j in zero_right (rise l) zu.0 (subst (NoMore (rise l)) zu.1 q)) (λ j. q))

  -- from an f32 on, to a number that is 0 or not small, it is not -0
  module _ (p : T (fits binary32 (fin s m e))) (most : suc k * up g ≤ 2 ^ 53 * down g) where
    quotient-large : (x : Float) → Large 203 x → Large 256 (x /f fin false (suc k) g)
    unfolding Ieee.div
    quotient-large nan h = absurd h
    quotient-large (inf t) h = tt
    quotient-large (fin t n d) h = rounded-large binary64 _ _ _ 256 (mul-pos some (down_pos d)) (lit≤ tt) (gap t) (div-rounded binary64 t n d k g)
      where
        size : suc k * up g * down d ≤ n * up d * down g * 2 ^ 256
        size = le_trans (mul-le-mul most h) (le_of_eq (go (2 ^ 53) (2 ^ 203) (2 ^ 256) (n * up d) (down g) refl))
          where
            go : (a b c y g : ℕ) → a * b ≡ c → a * g * (y * b) ≡ y * g * c
            go a b c y g h = rw (← h) (omega arith)

        none : (g w c : ℕ) → 0 * g * w + c ≡ c
        none g w c = omega arith

        gap : (t : Bool) → Gap 256 (gain t (n * up d) * down g) (loss t (n * up d) * down g) (suc k * up g * down d)
        gap false = inl (le_trans (le_of_eq (none (down g) (2 ^ 256) (suc k * up g * down d))) size)
        gap true = inr (le_trans (le_of_eq (none (down g) (2 ^ 256) (suc k * up g * down d))) size)

    difference-large : (w : Float) → equal_or_nan (fin s m e) w ≡ false → T (fits binary64 w) → Clear w → Large 203 (w -f fin s m e)
    unfolding Ieee.sub Ieee.neg Ieee.add
    difference-large nan differ q c = absurd c
    difference-large (inf t) differ q c = tt
    difference-large (fin t n d) differ q c =
        rounded-large binary64 (up_by t n d s m e) (down_by t n d s m e) (down d * down e) 203 (mul-pos (down_pos d) (down_pos e)) (lit≤ tt) (apart-or-equal s m e t n d p q c differ) (add-rounded binary64 t n d (not s) m e)

    slope-plain : (w : Float) → T (fits binary64 w) → Clear w → NoMinusZero (slope_to w)
    slope-plain w q c =
        by-test NoMinusZero (equal_or_nan (fin s m e) w) zero_f (rise w) (λ h. tt) (λ h. large-some 256 (rise w) (quotient-large (w -f fin s m e) (difference-large w h q c)))

    slope-fits : (w : Float) → T (fits binary64 (slope_to w))
    unfolding fits
    slope-fits w = cond-fits binary64 (equal_or_nan (fin s m e) w) zero_f (rise w) tt (div-fits binary64 (w -f fin s m e) (fin false (suc k) g))

    -- of two lines in order the upper one has the greater slope
    upper-wins : (l u : Float) → T (fits binary64 l) → T (fits binary64 u) → Clear l → Clear u → NoMore l u → max_f (slope_to l) (slope_to u) ≡ slope_to u
    upper-wins l u p q c d h =
        greater-is-right binary64 (slope_to l) (slope_to u) (slope-fits l) (slope-fits u) (slope-plain l p c) (slope-plain u q d) (slope-order l u h)

    around-wins : (t : Bool) (n : ℕ) (d : ℤ) (x : Float) → T (fits binary32 (fin t n d)) → Deviates n x → max_f (slope_to (fin t n d -f x)) (slope_to (fin t n d +f x)) ≡ slope_to (fin t n d +f x)
    unfolding Ieee.sub Ieee.neg Ieee.add Ieee.div Ieee.is_nan Ieee.eq equal_or_nan max_f
    around-wins t n d x v no_number = refl
    around-wins t n d x v unbounded = upper-wins (inf true) (inf false) (inf-fits binary64 true) (inf-fits binary64 false) tt tt tt
    around-wins t n d x v (by i g q near) =
        upper-wins (fin t n d -f fin false i g) (fin t n d +f fin false i g) (sub-fits binary64 (fin t n d) (fin false i g)) (add-fits binary64 (fin t n d) (fin false i g))
        (add-clear t n d true i g v (neg-fits binary64 (fin false i g) q) (λ z. ⊎_elim inl (λ k. inr (neg-fits binary32 (fin false i g) k)) (near z)))
        (add-clear t n d false i g v q near)
        (around binary64 t n d i g)

-- ---- the law: of the two lines that a second point sets, the greater slope is that of the upper one
slope-by : (a b : Point) → (line_through a b).slope ≡ cond (equal_or_nan a.value b.value) zero_f ((b.value -f a.value) /f span_f a.time b.time)
unfolding line_through
slope-by a b = go (equal_or_nan a.value b.value)
  where
    go : (t : Bool) → (cond t (record { slope = zero_f; intercept = a.value }) (sloped ((b.value -f a.value) /f span_f a.time b.time) a)).slope ≡ cond t zero_f ((b.value -f a.value) /f span_f a.time b.time)
    go true = refl
    go false = refl

upper-slope : (b : ErrorBound) (v w x : Float) → bound_allowed b ≡ true → BoundHeld b → T (fits binary32 v) → T (fits binary32 w) → is_finite v ≡ true → is_finite w ≡ true → Span x
    → max_f (cond (equal_or_nan v (w -f deviation b w)) zero_f ((w -f deviation b w -f v) /f x)) (cond (equal_or_nan v (w +f deviation b w)) zero_f ((w +f deviation b w -f v) /f x))
    ≡ cond (equal_or_nan v (w +f deviation b w)) zero_f ((w +f deviation b w -f v) /f x)
unfolding is_finite
upper-slope b nan w x ok held p q i j span = absurd (false≢true i)
upper-slope b (inf s) w x ok held p q i j span = absurd (false≢true i)
upper-slope b (fin s m e) nan x ok held p q i j span = absurd (false≢true j)
upper-slope b (fin s m e) (inf t) x ok held p q i j span = absurd (false≢true j)
upper-slope b (fin s m e) (fin t n d) x ok held p q i j span =
    rw span.is (around-wins s m e span.k span.g p span.most t n d (deviation b (fin t n d)) q (deviates b t n d ok held))

pub two-slopes : (b : ErrorBound) (a p : Point) → bound_allowed b ≡ true → BoundHeld b → T (fits binary32 a.value) → T (fits binary32 p.value) → both_finite a.value p.value ≡ true → Span (span_f a.time p.time)
    → max_f (line_through a (lowered p (deviation b p.value))).slope (line_through a (raised p (deviation b p.value))).slope ≡ (line_through a (raised p (deviation b p.value))).slope
two-slopes b a p ok held i j finite span =
    let d = deviation b p.value in
    rw (slope-by a (lowered p d), slope-by a (raised p d)) (upper-slope b a.value p.value (span_f a.time p.time) ok held i j (and_left (is_finite a.value) _ finite) (and_right (is_finite a.value) _ finite) span)
