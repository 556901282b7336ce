-- A state that was put into a row is read back from it, whatever stands behind, where its fields are of their formats: proofs/Held shows that those of every
-- state that calls make are. Assumes nothing.
use mathlib.Core.Path.{◌≡◌}
use mathlib.Core.Bool.{Bool}
use mathlib.Core.List.{List, ◌++◌}
use Prim.Native.Nat.{ℕ}
use native.Mathlib.Omega.{arith}
use borrow.Author.Tests.{le-ltb}
use lib.Dec.{T}
use lib.ListN.{length, drop}
use lib.Ieee.{binary32, binary64, fits}
use lib.Ieee.Bits.{of_bits-to_bits}
use mir.Syntax.{w64}
use mir.Val.{SFits}
use Rattle.models.specs.Bound.{BoundHeld}
use Rattle.pmc_mean.specs.declared.PMCMean.{PMCMean}
use Rattle.swing.specs.declared.Swing.{Swing}
use Rattle.exports.specs.Words.{bound_kind, bound_bits}
use Rattle.exports.proofs.Back.{bound-back, bound-front, is-small, value-back, time-back}
use Rattle.exports_fit.specs.Row.{pmc_length, pmc_row, pmc_in, swing_length, swing_row, swing_in}

-- ---- PMC-Mean
pub record PmcHeld (s : PMCMean) : Type 0 where
  pub bound : BoundHeld s.error_bound
  pub least : T (fits binary32 s.min_value)
  pub greatest : T (fits binary32 s.max_value)
  pub sum : T (fits binary64 s.sum_of_values)

pub pmc-back : (s : PMCMean) (flag : Bool) (rest : List ℕ) → PmcHeld s → pmc_in (pmc_row s flag ++ rest) ≡ s
unfolding pmc_in pmc_row
pmc-back s flag rest h =
    rw (le-ltb (length (pmc_row s flag ++ rest)) pmc_length (omega arith), bound-front (bound_kind s.error_bound) (bound_bits s.error_bound) (drop 2 (pmc_row s flag ++ rest)), bound-back s.error_bound h.bound, value-back s.min_value h.least, value-back s.max_value h.greatest, of_bits-to_bits binary64 s.sum_of_values h.sum, is-small s.min_value h.least, is-small s.max_value h.greatest)

-- ---- Swing
pub record SwingHeld (s : Swing) : Type 0 where
  pub bound : BoundHeld s.error_bound
  pub start : SFits w64 s.start_time
  pub last : SFits w64 s.end_time
  pub first : T (fits binary64 s.first_value)
  pub upper-slope : T (fits binary64 s.upper_bound_slope)
  pub upper-intercept : T (fits binary64 s.upper_bound_intercept)
  pub lower-slope : T (fits binary64 s.lower_bound_slope)
  pub lower-intercept : T (fits binary64 s.lower_bound_intercept)
  pub numerator : T (fits binary64 s.slope_with_minimum_mse_numerator)
  pub denominator : T (fits binary64 s.slope_with_minimum_mse_denominator)

pub swing-back : (s : Swing) (flag : Bool) (rest : List ℕ) → SwingHeld s → swing_in (swing_row s flag ++ rest) ≡ s
unfolding swing_in swing_row
swing-back s flag rest h =
    rw (le-ltb (length (swing_row s flag ++ rest)) swing_length (omega arith), bound-front (bound_kind s.error_bound) (bound_bits s.error_bound) (drop 2 (swing_row s flag ++ rest)), bound-back s.error_bound h.bound, time-back s.start_time h.start, time-back s.end_time h.last, of_bits-to_bits binary64 s.first_value h.first, of_bits-to_bits binary64 s.upper_bound_slope h.upper-slope, of_bits-to_bits binary64 s.upper_bound_intercept h.upper-intercept, of_bits-to_bits binary64 s.lower_bound_slope h.lower-slope, of_bits-to_bits binary64 s.lower_bound_intercept h.lower-intercept, of_bits-to_bits binary64 s.slope_with_minimum_mse_numerator h.numerator, of_bits-to_bits binary64 s.slope_with_minimum_mse_denominator h.denominator)
