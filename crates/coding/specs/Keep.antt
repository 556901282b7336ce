-- What the writer keeps of an input, both as f32 patterns. "Later values: Lossless keeps the input. Otherwise keep the last value if within; else
-- clear the s lowest bits with the greatest s from 0 to 23 that stays within." Assumes nothing.
use Rattle.std.specs.Prelude.{◌≡◌, Bool, true, false, cond, ℕ, zero, suc, ◌*◌, ◌/◌, ◌^◌, ◌≤◌, ◌<◌}
use Rattle.std.specs.Float.{binary32}
use Rattle.std.specs.Float.Ieee.{of_bits}
use Rattle.models.specs.Bound.{within}
use Rattle.models.specs.declared.ErrorBound.{ErrorBound}
use Rattle.models.specs.declared.ErrorBound.TheVariants.{Lossless, Absolute, Relative}

-- the pattern p may stand for the input x
abbrev pub may_replace : ErrorBound → ℕ → ℕ → Bool
may_replace b x p = within b (of_bits binary32 x) (of_bits binary32 p)

-- x with the s lowest bits cleared
abbrev pub cleared : ℕ → ℕ → ℕ
cleared s x = x / 2 ^ s * 2 ^ s

-- x with the s lowest bits cleared, s the greatest from 0 to `most` that stays within
unfoldable pub shortened : ErrorBound → ℕ → ℕ → ℕ
shortened b zero x = x
shortened b (suc s) x = cond (may_replace b x (cleared (suc s) x)) (cleared (suc s) x) (shortened b s x)

-- s is the greatest from 0 to `most` that stays within
pub record Greatest (b : ErrorBound) (x most s : ℕ) : Type 0 where
  pub at_most : s ≤ most
  pub stays : may_replace b x (cleared s x) ≡ true
  pub none_above : (t : ℕ) → s < t → t ≤ most → may_replace b x (cleared t x) ≡ false

-- the most bits that are cleared: those below the exponent
abbrev pub most_cleared : ℕ
most_cleared = 23

abbrev pub is_lossless : ErrorBound → Bool
is_lossless Lossless = true
is_lossless (Absolute e) = false
is_lossless (Relative e) = false

-- what is kept of x after the last kept value l
unfoldable pub keep_rule : ErrorBound → ℕ → ℕ → ℕ
keep_rule b l x = cond (is_lossless b) x (cond (may_replace b x l) l (shortened b most_cleared x))
