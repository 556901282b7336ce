-- Times in order, read one by one, and a run of stores, one by one. Assumes nothing.
use mathlib.Core.Path.{◌≡◌, refl, sym, ap, ◌∙◌}
use mathlib.Core.Bool.{Bool, true, false, ◌&&◌}
use mathlib.Core.List.{List, [], ◌∷◌, map}
use Prim.Native.Nat.{ℕ, zero, suc, ◌+◌, ◌<◌, ◌≤◌}
use native.Mathlib.Nat.{zero-add, le_of_suc-le-suc, not-suc-le-zero}
use native.Mathlib.Numerals.{add-one}
use native.Mathlib.Omega.{arith}
use borrow.Author.Tests.{lt-ltb}
use Rattle.std.proofs.Math.Bool.{and_assoc}
use lib.IntN.{ℤ, pos, negsuc}
use lib.Signed.{lt_z}
use lib.ListN.{length, get_or, drop, set, length-map}
use lib.Seq.{sets, sets-eq, drop-cons, drop-length}
use lib.Ieee.{Float}
use Rattle.models.proofs.Tests.{and_left, and_right}
use Rattle.lines.specs.Times.{time_allowed, in_order, after}
use Rattle.lines.specs.Values.{in_time, sum_from, line_drawn, line_drawn_at}
use Rattle.lines.specs.Line.{◌+f◌, value_at}
use Rattle.lines.specs.declared.Point.{Point}
use Rattle.lines.specs.declared.Line.{Line}
use Rattle.lines.proofs.Exact.{limit-neg}

-- ---- times in order

-- every time is after -2 ^ 52 - 1
below_all : (t : ℤ) → time_allowed t ≡ true → lt_z (negsuc 4503599627370496) t ≡ true
below_all (pos n) h = refl
below_all (negsuc n) h = lt-ltb n 4503599627370496 (omega (arith, limit-neg n h))

start-by : (t : ℤ) (ts : List ℤ) (b : Bool) → time_allowed t ≡ b → (time_allowed t && after t ts) ≡ (time_allowed t && (lt_z (negsuc 4503599627370496) t && after t ts))
start-by t ts true e = rw (below_all t e)
start-by t ts false e = rw e

pub after-all : (ts : List ℤ) → in_order ts ≡ after (negsuc 4503599627370496) ts
unfolding in_order after
after-all [] = refl
after-all (t ∷ ts) = start-by t ts (time_allowed t) refl

pub after-here : (a : ℤ) (ts : List ℤ) (i : ℕ) → i < length ts →
    after a (drop i ts) ≡ ((time_allowed (get_or ts i (pos 0)) && lt_z a (get_or ts i (pos 0))) && after (get_or ts i (pos 0)) (drop (i + 1) ts))
unfolding after
after-here a ts i h = rw (add-one i, drop-cons ts i (pos 0)) (sym (and_assoc (time_allowed (get_or ts i (pos 0))) (lt_z a (get_or ts i (pos 0))) _))

after-at : (a : ℤ) (ts : List ℤ) (i : ℕ) → after a ts ≡ true → i < length ts → time_allowed (get_or ts i (pos 0)) ≡ true
unfolding after
after-at a [] i h l = absurd (not-suc-le-zero l)
after-at a (t ∷ ts) zero h l = and_left (time_allowed t) (lt_z a t && after t ts) h
after-at a (t ∷ ts) (suc i) h l = after-at t ts i (and_right (lt_z a t) (after t ts) (and_right (time_allowed t) (lt_z a t && after t ts) h)) (le_of_suc-le-suc l)

pub in-order-at : (ts : List ℤ) (i : ℕ) → in_order ts ≡ true → i < length ts → time_allowed (get_or ts i (pos 0)) ≡ true
in-order-at ts i h l = after-at (negsuc 4503599627370496) ts i (sym (after-all ts) ∙ h) l

pub start-in-time : (a b : Point) → in_time a b ≡ true → time_allowed a.time ≡ true
unfolding in_time
start-in-time a b h = and_left (time_allowed a.time) _ h

pub end-in-time : (a b : Point) → in_time a b ≡ true → time_allowed b.time ≡ true
unfolding in_time
end-in-time a b h = and_left (time_allowed b.time) _ (and_right (time_allowed a.time) _ h)

-- what the check takes where a call asks for times within the limits
pub ruleset ends_in_time = (start-in-time, end-in-time, and_left, and_right)

-- ---- a run of stores

pub drop-end : {A : Type 0} (l : List A) (i : ℕ) → i ≡ length l → drop i l ≡ []
drop-end l i e = ap (λ (k : ℕ). drop k l) e ∙ drop-length l

pub sets-here : {A B : Type 0} (f : A → B) (out : List B) (ts : List A) (i : ℕ) (d : A) → i < length ts →
    sets out i (map f (drop i ts)) ≡ sets (set out i (f (get_or ts i d))) (i + 1) (map f (drop (i + 1) ts))
sets-here f out ts i d h = rw (add-one i, drop-cons ts i d)

pub sets-done : {A B : Type 0} (f : A → B) (out : List B) (ts : List A) (i : ℕ) → i ≡ length ts → sets out i (map f (drop i ts)) ≡ out
sets-done f out ts i e = rw (drop-end ts i e)

pub sets-drawn : (line : Line) (ts : List ℤ) (out : List ℕ) → length ts ≤ length out → sets out 0 (map (line_drawn_at line) ts) ≡ line_drawn line ts out
unfolding line_drawn
sets-drawn line ts out h =
    let m = length-map ts (line_drawn_at line) in
    sets-eq (map (line_drawn_at line) ts) out 0 (omega (arith, m)) ∙ rw (zero-add (length (map (line_drawn_at line) ts)), m)

-- ---- a sum

pub sum-here : (sum : Float) (line : Line) (ts : List ℤ) (i : ℕ) → i < length ts →
    sum_from sum line (drop i ts) ≡ sum_from (sum +f value_at line (get_or ts i (pos 0))) line (drop (i + 1) ts)
unfolding sum_from
sum-here sum line ts i h = rw (add-one i, drop-cons ts i (pos 0))

pub sum_done : (sum : Float) (line : Line) (ts : List ℤ) (i : ℕ) → i ≡ length ts → sum_from sum line (drop i ts) ≡ sum
unfolding sum_from
sum_done sum line ts i e = rw (drop-end ts i e)
