-- The least and the greatest of some values, as a span holds them: what they say of the patterns. One law serves both: the greatest is the least where a
-- pattern is read with its sign turned. Assumes nothing.
use mathlib.Core.Path.{◌≡◌, refl, sym, ap, ap₂, ◌∙◌, subst}
use mathlib.Core.Bool.{Bool, true, false, cond, not, ◌&&◌, ◌||◌, true≢false, false≢true}
use Prim.Native.Nat.{ℕ, ◌+◌, ◌*◌, ◌^◌, ◌<◌}
use native.Mathlib.Nat.{add_comm}
use native.Mathlib.Omega.{arith}
use lib.Dec.{T, ltb}
use lib.Ieee as Ieee
use lib.Ieee.{Float, nan, inf, fin, binary32, up, down, neg, is_nan, of_bits, to_bits}
use lib.Ieee.Bits.{to_bits-of_bits}
use Rattle.models.specs.Floats.{better, min_bits, max_bits}
use Rattle.macaque_v.specs.State.{MinMax, min_max_with}
use Rattle.macaque_v.specs.Inner.Span.{or_infinite, lesser_of, is_number, span_from, span_with, said_bits, min_max_said, Extreme, turned, MinMaxHeld}
use Rattle.macaque_v.specs.declared.span.Span.{Span}

-- ---- a turned sign

neg-back : (x : Float) → neg (neg x) ≡ x
unfolding neg
neg-back nan = refl
neg-back (inf true) = refl
neg-back (inf false) = refl
neg-back (fin true m e) = refl
neg-back (fin false m e) = refl

neg-nan : (x : Float) → is_nan (neg x) ≡ is_nan x
unfolding neg is_nan
neg-nan nan = refl
neg-nan (inf s) = refl
neg-nan (fin s m e) = refl

neg-below : (s t : Bool) (a b : ℕ) → Ieee.below (not s) a (not t) b ≡ Ieee.below t b s a
neg-below true true a b = refl
neg-below true false a b = refl
neg-below false true a b = ap (ltb 0) (add_comm a b)
neg-below false false a b = refl

neg-lt : (x y : Float) → Ieee.lt (neg x) (neg y) ≡ Ieee.lt y x
unfolding neg Ieee.lt
neg-lt nan nan = refl
neg-lt nan (inf t) = refl
neg-lt nan (fin t n d) = refl
neg-lt (inf s) nan = refl
neg-lt (inf true) (inf true) = refl
neg-lt (inf true) (inf false) = refl
neg-lt (inf false) (inf true) = refl
neg-lt (inf false) (inf false) = refl
neg-lt (inf s) (fin t n d) = refl
neg-lt (fin s m e) nan = refl
neg-lt (fin s m e) (inf true) = refl
neg-lt (fin s m e) (inf false) = refl
neg-lt (fin s m e) (fin t n d) = neg-below s t (m * up e * down d) (n * up d * down e)

-- ---- the better of two

module _ {A : Type 0} (beats : Float → Float → Bool) (read : A → Float) (a b : A) where
  -- the better one is read as the better of what both are read as
  better-read : read (better beats read a b) ≡ better beats (λ (x : Float). x) (read a) (read b)
  better-read = go (is_nan (read a)) (beats (read b) (read a))
    where
      go : (p q : Bool) → read (cond p b (cond q b a)) ≡ cond p (read b) (cond q (read b) (read a))
      go true q = refl
      go false true = refl
      go false false = refl

  better-either : (P : A → Type 0) → P a → P b → P (better beats read a b)
  better-either P pa pb = go (is_nan (read a)) (beats (read b) (read a))
    where
      go : (p q : Bool) → P (cond p b (cond q b a))
      go true q = pb
      go false true = pb
      go false false = pa

  -- a NaN on the left gave way
  better-nan : is_nan (read (better beats read a b)) ≡ true → better beats read a b ≡ b
  better-nan = go (is_nan (read a)) (beats (read b) (read a)) refl
    where
      go : (p q : Bool) → is_nan (read a) ≡ p → is_nan (read (cond p b (cond q b a))) ≡ true → cond p b (cond q b a) ≡ b
      go true q e h = refl
      go false true e h = refl
      go false false e h = absurd (false≢true (sym e ∙ h))

abbrev lesser_number : Float → Float → Float
lesser_number x y = better Ieee.lt (λ (z : Float). z) x y

-- ---- of numbers, the lesser is one

less-number : (y x : Float) → Ieee.lt y x ≡ true → is_nan y ≡ false
unfolding Ieee.lt is_nan
less-number nan x h = absurd (false≢true h)
less-number (inf s) x h = refl
less-number (fin s m e) x h = refl

lesser-number : (x y : Float) → is_nan x ≡ false → is_nan (cond (Ieee.lt y x) y x) ≡ false
lesser-number x y h = go (Ieee.lt y x) refl
  where
    go : (q : Bool) → Ieee.lt y x ≡ q → is_nan (cond q y x) ≡ false
    go true e = less-number y x e
    go false e = h

is-itself : (x : Float) → is_nan x ≡ false → x ≡ or_infinite x
unfolding or_infinite
is-itself x h = ap (λ (b : Bool). cond b (inf false) x) (sym h)

-- only of two NaNs the lesser is one
both-nan : (x y : Float) → is_nan (lesser_number x y) ≡ (is_nan x && is_nan y)
unfolding is_nan
both-nan nan y = refl
both-nan (inf s) y = lesser-number (inf s) y refl
both-nan (fin s m e) y = lesser-number (fin s m e) y refl

-- with an infinity for a NaN one test finds it
lesser-held : (x y : Float) → lesser_of (or_infinite x) y ≡ or_infinite (lesser_number x y)
unfolding lesser_of or_infinite is_nan Ieee.lt
lesser-held nan nan = refl
lesser-held nan (inf true) = refl
lesser-held nan (inf false) = refl
lesser-held nan (fin s m e) = refl
lesser-held (inf s) y = is-itself (cond (Ieee.lt y (inf s)) y (inf s)) (lesser-number (inf s) y refl)
lesser-held (fin s m e) y = is-itself (cond (Ieee.lt y (fin s m e)) y (fin s m e)) (lesser-number (fin s m e) y refl)

-- ---- one end

-- a number is there where one was, or the next is one
one-came : (some p a b : Bool) → (some || not p) ≡ not a → ((some || not b) || not p) ≡ not (a && b)
one-came true p true b h = absurd (true≢false h)
one-came true p false b h = refl
one-came false p true true h = h
one-came false p true false h = refl
one-came false p false true h = h
one-came false p false false h = refl

none_yet : (read : ℕ → Float) (bits last : ℕ) → bits < 2 ^ 32 → Extreme read bits 0 bits (or_infinite (read bits)) false last
none_yet read bits last fits = record { value = refl; came = refl; small = fits; newest = λ z. absurd (omega arith) }

module _ {read : ℕ → Float} {start n bits last : ℕ} {x : Float} {some : Bool} (E : Extreme read start n bits x some last) where
  one_more : (v : ℕ) → v < 2 ^ 32 → Extreme read start (n + 1) (better Ieee.lt read bits v) (lesser_of x (read v)) (some || not (is_nan (read v))) v
  one_more v fits =
      let is = better-read Ieee.lt read bits v in
      record {
        value = ap (λ (z : Float). lesser_of z (read v)) E.value ∙ lesser-held (read bits) (read v) ∙ ap or_infinite (sym is);
        came =
            one-came some (is_nan (read start)) (is_nan (read bits)) (is_nan (read v)) E.came
            ∙ ap not (sym (ap is_nan is ∙ both-nan (read bits) (read v)));
        small = better-either Ieee.lt read bits v (λ (b : ℕ). b < 2 ^ 32) E.small fits;
        newest = λ h k. better-nan Ieee.lt read bits v k;
      }

  -- the pattern that is said, where `write` has a number back as its pattern
  bits_are : 0 < n → (write : Float → ℕ) → (is_nan (read bits) ≡ false → write (read bits) ≡ bits) → cond (some || not (is_nan (read start))) (write x) last ≡ bits
  bits_are h write back = ap (λ (b : Bool). cond b (write x) last) E.came ∙ go (is_nan (read bits)) refl
    where
      go : (p : Bool) → is_nan (read bits) ≡ p → cond (not p) (write x) last ≡ bits
      go true e = sym (E.newest h e)
      go false e = ap write (E.value ∙ sym (is-itself (read bits) e)) ∙ back e

-- ---- both at once

-- the greatest is the least by the turned sign
greatest-is : (a b : ℕ) → better Ieee.lt turned a b ≡ max_bits a b
unfolding max_bits
greatest-is a b =
    ap₂ (λ (p q : Bool). cond p b (cond q b a)) (neg-nan (of_bits binary32 a)) (neg-lt (of_bits binary32 b) (of_bits binary32 a))

written_back : (bits : ℕ) → bits < 2 ^ 32 → is_nan (of_bits binary32 bits) ≡ false → to_bits binary32 (of_bits binary32 bits) ≡ bits
written_back bits fits h = to_bits-of_bits binary32 bits fits (subst (λ (t : Bool). T (not t)) (sym h) tt)

-- before any of the n
pub span_none : (b : MinMax) (last : ℕ) → b.min < 2 ^ 32 → b.max < 2 ^ 32 → MinMaxHeld b 0 b (span_from b.min b.max) last
span_none b last s t = record { least = none_yet (of_bits binary32) b.min last s; greatest = none_yet turned b.max last t }

module _ {b : MinMax} {n last : ℕ} {e : MinMax} {s : Span} (H : MinMaxHeld b n e s last) where
  pub span_more : (v : ℕ) → v < 2 ^ 32 → MinMaxHeld b (n + 1) (min_max_with e v) (span_with s v) v
  unfolding is_number min_bits
  span_more v fits =
      record {
        least = one_more H.least v fits;
        greatest =
            subst (λ (p : Bool). Extreme turned b.max (n + 1) (max_bits e.max v) (lesser_of s.turned (turned v)) (s.some || not p) v) (neg-nan (of_bits binary32 v))
            (subst (λ (m : ℕ). Extreme turned b.max (n + 1) m (lesser_of s.turned (turned v)) (s.some || not (is_nan (turned v))) v) (greatest-is e.max v)
            (one_more H.greatest v fits));
      }

  pub span-bits : 0 < n → min_max_said s b last ≡ e
  unfolding said_bits is_number
  span-bits some =
      let low = bits_are H.least some (to_bits binary32) (written_back e.min H.least.small) in
      let high =
      bits_are H.greatest some (λ (x : Float). to_bits binary32 (neg x))
      (λ h. ap (to_bits binary32) (neg-back (of_bits binary32 e.max)) ∙ written_back e.max H.greatest.small (sym (neg-nan (of_bits binary32 e.max)) ∙ h)) in
      ap₂ (λ (x y : ℕ). record { min = x; max = y }) low
      (ap (λ (p : Bool). cond (s.some || not p) (to_bits binary32 (neg s.turned)) last) (sym (neg-nan (of_bits binary32 b.max))) ∙ high)
