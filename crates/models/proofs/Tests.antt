-- Laws of tests: two at once, a negated one, and what goes by one. Assumes nothing.
use mathlib.Core.Path.{◌≡◌, refl, ap}
use mathlib.Core.Bool.{Bool, true, false, cond, not, ◌&&◌, ◌||◌, true≢false, false≢true}
use mathlib.Core.Logic.{◌⊎◌, inl, inr}
use Prim.Native.Nat.{ℕ}
use native.Mathlib.Omega.{arith}
use borrow.Author.Tests.{not-false}

-- ---- both
pub and_left : (a b : Bool) → (a && b) ≡ true → a ≡ true
and_left true b h = refl
and_left false b h = h

pub and_right : (a b : Bool) → (a && b) ≡ true → b ≡ true
and_right true b h = h
and_right false b h = absurd (false≢true h)

pub and_parts : (a b : Bool) → (a && b) ≡ true → (a ≡ true) × (b ≡ true)
and_parts a b h = (and_left a b h, and_right a b h)

pub and_both : (a b : Bool) → a ≡ true → b ≡ true → (a && b) ≡ true
and_both true b h k = k
and_both false b h k = h

pub and-past : (a b : Bool) → a ≡ true → (a && b) ≡ false → b ≡ false
and-past true b h k = k
and-past false b h k = absurd (false≢true h)

pub and-false : (a b : Bool) → b ≡ false → (a && b) ≡ false
and-false true b h = h
and-false false b h = refl

-- ---- either
pub or-either : (a b : Bool) → (a || b) ≡ true → (a ≡ true) ⊎ (b ≡ true)
or-either true b h = inl refl
or-either false b h = inr h

pub or-one : (a b : Bool) → a ≡ false → (a || b) ≡ true → b ≡ true
or-one true b h k = absurd (true≢false h)
or-one false b h k = k

pub or_right : (a b : Bool) → b ≡ true → (a || b) ≡ true
or_right true b h = refl
or_right false b h = h

pub or-false : (a b : Bool) → b ≡ false → (a || b) ≡ a
or-false true b h = refl
or-false false b h = h

pub neither : (a b : Bool) → (a || b) ≡ false → (a ≡ false) × (b ≡ false)
neither true b h = absurd (true≢false h)
neither false b h = (refl, h)

-- ---- not
pub not-of : {a : Bool} → a ≡ true → not a ≡ false
not-of h = ap not h

pub not-parts : (a b : Bool) → not (a && b) ≡ false → (not a ≡ false) × (not b ≡ false)
not-parts a b h = let p = and_parts a b (not-false (a && b) h) in (not-of p.0, not-of p.1)

-- ---- what cannot be: for a clash that `cc` finds
pub never : ◌≡◌ {A = ℕ} 0 1 → ⊥
never e = omega arith

-- ---- what goes by a test
pub by-test : {X : Type 0} (Q : X → Type 0) (test : Bool) (x y : X) → (test ≡ true → Q x) → (test ≡ false → Q y) → Q (cond test x y)
by-test Q true x y p q = p refl
by-test Q false x y p q = q refl
