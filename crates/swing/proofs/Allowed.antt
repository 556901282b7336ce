-- What a state that may be used, and a time that follows it, tell of its times; and that a step gives such a state. Assumes nothing.
use mathlib.Core.Path.{◌≡◌, refl, ap}
use mathlib.Core.Bool.{true, ◌&&◌, ◌||◌, false≢true}
use mathlib.Core.Logic.{⊎_elim}
use Prim.Native.Nat.{ℕ, ◌<◌, ◌≤◌}
use native.Mathlib.Omega.{arith}
use native.Mathlib.Nat.{le_antisymm}
use borrow.Author.Tests.{leb-true, le-leb, ltb-true, lt-ltb, eqb-true}
use lib.Dec.{leb, ltb, eqb}
use lib.IntN.{ℤ, pos, negsuc}
use lib.Signed.{lt_z}
use Rattle.models.specs.Limits.{most_values}
use Rattle.models.proofs.Tests.{and_left, and_right, and_both, or-either, or_right}
use Rattle.swing.specs.declared.Swing.{Swing}
use Rattle.lines.specs.Times.{same_time, time_allowed}
use Rattle.swing.specs.State.{usable, times_allowed, time_follows}

-- ---- times
same-times : (a b : ℤ) → same_time a b ≡ true → a ≡ b
same-times (pos a) (pos b) h = ap pos (le_antisymm (leb-true a b (and_left _ (leb b a) h)) (leb-true b a (and_right (leb a b) _ h)))
same-times (pos a) (negsuc b) h = absurd (false≢true h)
same-times (negsuc a) (pos b) h = absurd (false≢true h)
same-times (negsuc a) (negsuc b) h = ap negsuc (le_antisymm (leb-true a b (and_right (leb b a) _ h)) (leb-true b a (and_left _ (leb a b) h)))

same-itself : (a : ℤ) → same_time a a ≡ true
same-itself (pos a) = rw (le-leb a a (omega arith))
same-itself (negsuc a) = rw (le-leb a a (omega arith))

pub before-both : (a b c : ℤ) → lt_z a b ≡ true → lt_z b c ≡ true → lt_z a c ≡ true
before-both (pos a) (pos b) (pos c) p q = lt-ltb a c (omega (arith, ltb-true a b p, ltb-true b c q))
before-both (pos a) (pos b) (negsuc c) p q = q
before-both (pos a) (negsuc b) c p q = absurd (false≢true p)
before-both (negsuc a) (pos b) (pos c) p q = refl
before-both (negsuc a) (pos b) (negsuc c) p q = absurd (false≢true q)
before-both (negsuc a) (negsuc b) (pos c) p q = refl
before-both (negsuc a) (negsuc b) (negsuc c) p q = lt-ltb c a (omega (arith, ltb-true b a p, ltb-true c b q))

-- ---- a state that may be used
module _ (s : Swing) where
  abbrev a : ℤ
  a = s.start_time

  abbrev b : ℤ
  b = s.end_time

  pub length-limit : usable s ≡ true → s.length ≤ most_values
  unfolding usable
  length-limit h = leb-true s.length most_values (and_left _ (times_allowed s.length a b) h)

  -- with a point in it, its times keep the limits, and a time after the end is after the start
  limits : usable s ≡ true → (s.length ≡ 0 → ⊥) → (time_allowed a ≡ true) × (time_allowed b ≡ true) × ((t : ℤ) → lt_z b t ≡ true → lt_z a t ≡ true)
  unfolding usable times_allowed
  limits h some =
      ⊎_elim
      (λ none. absurd (some (eqb-true s.length 0 none)))
      (λ r. ⊎_elim
      (λ one. let w = and_right (eqb s.length 1) _ one in
      let t = and_right (same_time a b) _ w in
      let same = same-times a b (and_left _ (time_allowed a) w) in
      (t, rw same at t, λ t h. rw same h))
      (λ more. let w = and_right (ltb 1 s.length) _ more in
      let ends = and_right (lt_z a b) _ w in
      (and_left _ (time_allowed b) ends, and_right (time_allowed a) _ ends, λ t. before-both a b t (and_left _ _ w)))
      (or-either _ _ r))
      (or-either (eqb s.length 0) _ (and_right (leb s.length most_values) _ h))

  pub start-allowed : usable s ≡ true → (s.length ≡ 0 → ⊥) → time_allowed a ≡ true
  start-allowed h some = (limits h some).0

  pub end-allowed : usable s ≡ true → (s.length ≡ 0 → ⊥) → time_allowed b ≡ true
  end-allowed h some = (limits h some).1

  pub length-below : usable s ≡ true → (s.length ≡ most_values → ⊥) → s.length < most_values
  length-below h below = omega (arith, length-limit h)

  -- ---- a time that follows it
  pub follows-allowed : (t : ℤ) → time_follows s t ≡ true → time_allowed t ≡ true
  unfolding time_follows
  follows-allowed t h = and_left _ (eqb s.length 0 || lt_z b t) h

  pub follows-start : (t : ℤ) → usable s ≡ true → (s.length ≡ 0 → ⊥) → time_follows s t ≡ true → lt_z a t ≡ true
  unfolding time_follows
  follows-start t h some follows =
      ⊎_elim
      (λ none. absurd (some (eqb-true s.length 0 none)))
      (λ later. (limits h some).2 t later)
      (or-either (eqb s.length 0) (lt_z b t) (and_right (time_allowed t) _ follows))

-- ---- the times of a state that a step gives
pub one_time : (t : ℤ) → time_allowed t ≡ true → times_allowed 1 t t ≡ true
unfolding times_allowed
one_time t ok = rw (same-itself t, ok)

pub two-times : (n : ℕ) (a t : ℤ) → 1 < n → lt_z a t ≡ true → time_allowed a ≡ true → time_allowed t ≡ true → times_allowed n a t ≡ true
unfolding times_allowed
two-times n a t some later first last =
    or_right (eqb n 0) _ (or_right (eqb n 1 && (same_time a t && time_allowed a)) _ (and_both _ _ (lt-ltb 1 n some) (and_both _ _ later (and_both _ _ first last))))

-- ---- what the check takes where a call asks for times within the limits, or for room
pub ruleset held = (length-limit, start-allowed, end-allowed, length-below, follows-allowed)
