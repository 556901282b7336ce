-- Within the limits of a timestamp, a time and the difference of two are whole numbers that an f64 holds. Assumes nothing.
use mathlib.Core.Path.{◌≡◌}
use mathlib.Core.Bool.{Bool, true, false, cond}
use Prim.Native.Nat.{ℕ, zero, suc, ◌+◌, ◌-◌, ◌<◌, ◌≤◌}
use native.Mathlib.Omega.{arith}
use borrow.Author.Tests.{leb-true}
use lib.IntN.{ℤ, pos, negsuc, sub_ℕ, ◌-ℤ◌}
use lib.Dec.{T, leb, ltb, le→leb, lt→ltb, leb→le, ltb→lt}
use lib.Ieee as Ieee
use lib.Ieee.{binary64}
use mir.Syntax.{w64}
use mir.Val.{SFits}
use Rattle.models.proofs.Tests.{and_left}
use Rattle.lines.specs.Times.{time_allowed}

limit-pos : (n : ℕ) → time_allowed (pos n) ≡ true → n ≤ 4503599627370496
unfolding time_allowed
limit-pos n h = leb-true n 4503599627370496 h

pub limit-neg : (n : ℕ) → time_allowed (negsuc n) ≡ true → n ≤ 4503599627370495
unfolding time_allowed
limit-neg n h = leb-true n 4503599627370495 (and_left (leb n 4503599627370495) true h)

-- ---- what a cast asks
whole_pos : (n : ℕ) → n ≤ 9007199254740992 → T (Ieee.in_float binary64 (pos n))
unfolding Ieee.in_float
whole_pos n h = le→leb n 9007199254740992 h

whole_neg : (n : ℕ) → n < 9007199254740992 → T (Ieee.in_float binary64 (negsuc n))
unfolding Ieee.in_float
whole_neg n h = lt→ltb n 9007199254740992 h

pub time-whole : (t : ℤ) → time_allowed t ≡ true → T (Ieee.in_float binary64 t)
time-whole (pos n) h = whole_pos n (omega (arith, limit-pos n h))
time-whole (negsuc n) h = whole_neg n (omega (arith, limit-neg n h))

pick-whole : (t : Bool) (p q : ℕ) → p ≤ 9007199254740992 → q < 9007199254740992 → T (Ieee.in_float binary64 (cond t (negsuc q) (pos p)))
pick-whole true p q hp hq = whole_neg q hq
pick-whole false p q hp hq = whole_pos p hp

sub-whole : (x y : ℕ) → x ≤ 9007199254740992 → y ≤ 9007199254740992 → T (Ieee.in_float binary64 (sub_ℕ x y))
sub-whole x y hx hy = pick-whole (ltb x y) (x - y) (y - suc x) (omega arith) (omega arith)

pub span-whole : (a b : ℤ) → time_allowed a ≡ true → time_allowed b ≡ true → T (Ieee.in_float binary64 (b -ℤ a))
span-whole (pos zero) (pos m) ha hb = whole_pos (m + 0) (omega (arith, limit-pos m hb))
span-whole (pos (suc n)) (pos m) ha hb = sub-whole m (suc n) (omega (arith, limit-pos m hb)) (omega (arith, limit-pos (suc n) ha))
span-whole (negsuc n) (pos m) ha hb = whole_pos (m + suc n) (omega (arith, limit-pos m hb, limit-neg n ha))
span-whole (pos zero) (negsuc m) ha hb = sub-whole 0 (suc m) (omega arith) (omega (arith, limit-neg m hb))
span-whole (pos (suc n)) (negsuc m) ha hb = whole_neg (suc (m + n)) (omega (arith, limit-neg m hb, limit-pos (suc n) ha))
span-whole (negsuc n) (negsuc m) ha hb = sub-whole (suc n) (suc m) (omega (arith, limit-neg n ha)) (omega (arith, limit-neg m hb))

-- what an f64 holds whole, an i64 holds
pub whole-fits : (z : ℤ) → T (Ieee.in_float binary64 z) → SFits w64 z
unfolding Ieee.in_float
whole-fits (pos n) t = record { sfits = omega (arith, leb→le n 9007199254740992 t) }
whole-fits (negsuc n) t = record { sfits = omega (arith, ltb→lt n 9007199254740992 t) }

pub time-fits : (t : ℤ) → time_allowed t ≡ true → SFits w64 t
time-fits t h = whole-fits t (time-whole t h)
