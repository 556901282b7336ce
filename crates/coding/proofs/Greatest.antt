-- "clear the s lowest bits with the greatest s from 0 to 23 that stays within": what is kept is so. Assumes nothing.
use mathlib.Core.Path.{◌≡◌, refl, sym, ap, ◌∙◌}
use mathlib.Core.Bool.{Bool, true, false, cond, not, ◌&&◌, ◌||◌}
use Prim.Native.Nat.{ℕ, zero, suc, ◌≤◌, ◌<◌}
use native.Mathlib.Omega.{arith}
use borrow.Author.Tests.{leb-true, leb-false}
use lib.Dec.{leb}
use lib.Ieee as Ieee
use lib.Ieee.{Float, binary32, of_bits}
use Rattle.models.specs.Floats.{equal_or_nan}
use Rattle.models.specs.Bound.{within_in}
use Rattle.models.specs.declared.ErrorBound.{ErrorBound}
use Rattle.models.proofs.Laws.{ne-self}
use Rattle.coding.specs.Keep.{may_replace, cleared, shortened, Greatest, most_cleared, is_lossless, keep_rule}

-- equal-or-NaN always is within, and a value is that to itself
self-equal : (x : Float) → equal_or_nan x x ≡ true
unfolding equal_or_nan Ieee.ne
self-equal x = by-test (Ieee.eq x x) (Ieee.is_nan x) (ne-self x)
  where
    by-test : (e n : Bool) → not e ≡ n → (e || (n && n)) ≡ true
    by-test true n h = refl
    by-test false n h = rw (← h)

pub may-replace-itself : (b : ErrorBound) (x : ℕ) → may_replace b x x ≡ true
unfolding within_in
may-replace-itself b x = rw (self-equal (of_bits binary32 x))

whole : (x : ℕ) → cleared 0 x ≡ x
whole x = omega arith

pub clears-the-most : (b : ErrorBound) (x most : ℕ) → (s : ℕ) × (shortened b most x ≡ cleared s x) × Greatest b x most s
unfolding shortened
clears-the-most b x zero =
    (zero, sym (whole x), record { at_most = omega arith; stays = ap (may_replace b x) (whole x) ∙ may-replace-itself b x; none_above = λ t h k. absurd (omega arith) })
clears-the-most b x (suc most) = by-test (may_replace b x (cleared (suc most) x)) refl (clears-the-most b x most)
  where
    -- a t above s is the one tried here, or a lower one
    above : (s : ℕ) → Greatest b x most s → may_replace b x (cleared (suc most) x) ≡ false → (t : ℕ) → s < t → t ≤ suc most → may_replace b x (cleared t x) ≡ false
    above s G e t h k = by_last (leb t most) refl
      where
        by_last : (test : Bool) → leb t most ≡ test → may_replace b x (cleared t x) ≡ false
        by_last true l = G.none_above t h (leb-true t most l)
        by_last false l =
            let last : t ≡ suc most = omega (arith, leb-false t most l) in
            ap (λ (n : ℕ). may_replace b x (cleared n x)) last ∙ e

    by-test : (test : Bool) → may_replace b x (cleared (suc most) x) ≡ test → (s : ℕ) × (shortened b most x ≡ cleared s x) × Greatest b x most s
        → (s : ℕ) × (shortened b (suc most) x ≡ cleared s x) × Greatest b x (suc most) s
    by-test true e G = (suc most, rw e, record { at_most = omega arith; stays = e; none_above = λ t h k. absurd (omega arith) })
    by-test false e G =
        (G.0, rw e G.1, record { at_most = omega (arith, G.2.at_most); stays = G.2.stays; none_above = above G.0 G.2 e })

-- ---- so what is kept may stand for its input, whatever the last kept value
pub kept-may-replace : (b : ErrorBound) (l x : ℕ) → may_replace b x (keep_rule b l x) ≡ true
unfolding keep_rule
kept-may-replace b l x = go (is_lossless b) (may_replace b x l) refl
  where
    go : (s t : Bool) → may_replace b x l ≡ t → may_replace b x (cond s x (cond t l (shortened b most_cleared x))) ≡ true
    go true t e = may-replace-itself b x
    go false true e = e
    go false false e = let G = clears-the-most b x most_cleared in ap (may_replace b x) G.1 ∙ G.2.stays
