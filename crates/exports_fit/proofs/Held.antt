-- The fields of a state are of their formats: those of a fresh one, those of one that a row of any words stands for, and with them those after a step.
-- Assumes nothing.
use mathlib.Core.Bool.{Bool, cond}
use mathlib.Core.List.{List}
use Prim.Native.Nat.{ℕ, ◌%◌, ◌^◌}
use native.Mathlib.Omega.{arith}
use lib.Dec.{T, ltb}
use lib.IntN.{ℤ, pos}
use lib.ListN.{length, get_or}
use lib.Ieee as Ieee
use lib.Ieee.{Float, binary32, binary64, of_bits, fits}
use lib.Ieee.Bits.{of_bits-fits}
use lib.Ieee.Fits.{cond-fits, add-fits, sub-fits, div-fits, fits_widens}
use mir.Syntax.{w64}
use mir.Val.{SFits}
use Rattle.models.specs.declared.Stepped.{Stepped}
use Rattle.models.specs.Floats.{equal_or_nan, min_f, max_f}
use Rattle.models.specs.Bound.{BoundHeld}
use Rattle.models.specs.declared.ErrorBound.{ErrorBound}
use Rattle.models.proofs.Judged.{after-judging, after_test}
use Rattle.models.proofs.Tests.{by-test}
use Rattle.models.proofs.Folds.{steps-keep}
use Rattle.lines.specs.Line.{◌+f◌, ◌-f◌, point_of, raised, lowered, line_through}
use Rattle.lines.specs.declared.Line.{Line}
use Rattle.lines.specs.declared.Point.{Point}
use Rattle.lines.specs.declared.Terms.{Terms}
use Rattle.lines.proofs.Exact.{time-fits}
use Rattle.pmc_mean.specs.State as Pmc
use Rattle.pmc_mean.specs.Calls as OfPmc
use Rattle.pmc_mean.specs.Run as PmcRun
use Rattle.pmc_mean.specs.declared.PMCMean.{PMCMean}
use Rattle.swing.specs.State as SwingState
use Rattle.swing.specs.State.{first_point, upper_line, lower_line, sums_of}
use Rattle.swing.specs.Step as SwingStep
use Rattle.swing.specs.Run as SwingRun
use Rattle.swing.specs.Run.{Given}
use Rattle.swing.specs.declared.Swing.{Swing}
use Rattle.swing.proofs.Allowed.{follows-allowed}
use Rattle.swing.proofs.Runs.{by-case, kept}
use Rattle.exports.specs.Words.{no_count, bound_front, time_in}
use Rattle.exports.proofs.Back.{bound-front-held, time-in-fits}
use Rattle.exports_fit.specs.Row.{pmc_length, no_pmc, pmc_in, swing_length, no_swing, swing_in}
use Rattle.exports_fit.proofs.Back.{PmcHeld, SwingHeld}

-- ---- PMC-Mean
pub pmc-fresh : (b : ErrorBound) → BoundHeld b → PmcHeld (Pmc.fresh b)
unfolding Pmc.fresh fits
pmc-fresh b h = record { bound = h; least = tt; greatest = tt; sum = tt }

pub no-pmc-held : (b : ErrorBound) → BoundHeld b → PmcHeld (no_pmc b)
no-pmc-held b h = record { bound = h; least = of_bits-fits binary32 0; greatest = of_bits-fits binary32 0; sum = of_bits-fits binary64 0 }

pub pmc-in : (row : List ℕ) → PmcHeld (pmc_in row)
unfolding pmc_in
pmc-in row =
    let bound = bound-front-held row in
    by-test PmcHeld (ltb (length row) pmc_length) _ _
    (λ short. no-pmc-held (bound_front row) bound)
    (λ long. record {
      bound = bound;
      least = of_bits-fits binary32 (get_or row 2 0 % 2 ^ 32);
      greatest = of_bits-fits binary32 (get_or row 3 0 % 2 ^ 32);
      sum = of_bits-fits binary64 (get_or row 4 0);
    })

picked : (a v : Float) (s t : Bool) → T (fits binary32 a) → T (fits binary32 v) → T (fits binary32 (cond s v (cond t v a)))
picked a v s t p q = cond-fits binary32 s v (cond t v a) q (cond-fits binary32 t v a q p)

pub pmc-tried : (s : PMCMean) (v : Float) → PmcHeld s → T (fits binary32 v) → PmcHeld (Pmc.tried s v).state
unfolding Pmc.tried Pmc.with_value min_f max_f
pmc-tried s v h ok =
    after_test PmcHeld (Pmc.fits (Pmc.with_value s v)) _ _
    (λ fits. record {
      bound = h.bound;
      least = picked s.min_value v (Ieee.is_nan s.min_value) (Ieee.lt v s.min_value) h.least ok;
      greatest = picked s.max_value v (Ieee.is_nan s.max_value) (Ieee.lt s.max_value v) h.greatest ok;
      sum = add-fits binary64 s.sum_of_values v;
    })
    (λ fails. h)

pub pmc-next : (s : PMCMean) (value : ℕ) → PmcHeld s → PmcHeld (PmcRun.next s value)
unfolding OfPmc.fit_answer
pmc-next s value h =
    let v = of_bits binary32 value in
    after-judging PmcHeld s (OfPmc.fit_causes s) (Pmc.tried s v) h (λ none. pmc-tried s v h (of_bits-fits binary32 value))

pub pmc-run : (b : ErrorBound) (values : List ℕ) → BoundHeld b → PmcHeld (PmcRun.run (Pmc.fresh b) values)
pmc-run b values h = steps-keep PmcRun.next PmcHeld pmc-next (Pmc.fresh b) values (pmc-fresh b h)

-- ---- Swing
pub swing-fresh : (b : ErrorBound) → BoundHeld b → SwingHeld (SwingState.fresh b)
unfolding SwingState.fresh fits
swing-fresh b h =
    record {
      bound = h;
      start = record { sfits = omega arith };
      last = record { sfits = omega arith };
      first = tt;
      upper-slope = tt;
      upper-intercept = tt;
      lower-slope = tt;
      lower-intercept = tt;
      numerator = tt;
      denominator = tt;
    }

-- by the bits of its numbers
numbers-held : (b : ErrorBound) (from to : ℤ) (a u v l k n d count : ℕ) → BoundHeld b → SFits w64 from → SFits w64 to
    → SwingHeld (record { error_bound = b; start_time = from; end_time = to; first_value = of_bits binary64 a; upper_bound_slope = of_bits binary64 u; upper_bound_intercept = of_bits binary64 v; lower_bound_slope = of_bits binary64 l; lower_bound_intercept = of_bits binary64 k; slope_with_minimum_mse_numerator = of_bits binary64 n; slope_with_minimum_mse_denominator = of_bits binary64 d; length = count })
numbers-held b from to a u v l k n d count h p q =
    record {
      bound = h;
      start = p;
      last = q;
      first = of_bits-fits binary64 a;
      upper-slope = of_bits-fits binary64 u;
      upper-intercept = of_bits-fits binary64 v;
      lower-slope = of_bits-fits binary64 l;
      lower-intercept = of_bits-fits binary64 k;
      numerator = of_bits-fits binary64 n;
      denominator = of_bits-fits binary64 d;
    }

pub no-swing-held : (b : ErrorBound) → BoundHeld b → SwingHeld (no_swing b)
no-swing-held b h = numbers-held b (pos 0) (pos 0) 0 0 0 0 0 0 0 no_count h (record { sfits = omega arith }) (record { sfits = omega arith })

pub swing-in : (row : List ℕ) → SwingHeld (swing_in row)
unfolding swing_in
swing-in row =
    let bound = bound-front-held row in
    by-test SwingHeld (ltb (length row) swing_length) _ _ (λ short. no-swing-held (bound_front row) bound)
    (λ long. numbers-held (bound_front row) (time_in (get_or row 2 0)) (time_in (get_or row 3 0)) (get_or row 4 0) (get_or row 5 0) (get_or row 6 0) (get_or row 7 0) (get_or row 8 0) (get_or row 9 0) (get_or row 10 0) (get_or row 11 0) bound (time-in-fits (get_or row 2 0)) (time-in-fits (get_or row 3 0)))

abbrev LineHeld : Line → Type 0
LineHeld l = T (fits binary64 l.slope) × T (fits binary64 l.intercept)

through-held : (a b : Point) → T (fits binary64 a.value) → LineHeld (line_through a b)
unfolding line_through fits
through-held a b ok = by-test LineHeld (equal_or_nan a.value b.value) _ _ (λ h. (tt, ok)) (λ h. (div-fits binary64 _ _, sub-fits binary64 a.value _))

module _ (s : Swing) (p : Point) (h : SwingHeld s) (time : SFits w64 p.time) (value : T (fits binary32 p.value)) where
  wide : T (fits binary64 p.value)
  wide = fits_widens p.value value

  opened-held : SwingHeld (SwingStep.opened s p)
  unfolding SwingStep.opened
  opened-held =
      record {
        bound = h.bound;
        start = time;
        last = time;
        first = wide;
        upper-slope = h.upper-slope;
        upper-intercept = h.upper-intercept;
        lower-slope = h.lower-slope;
        lower-intercept = h.lower-intercept;
        numerator = h.numerator;
        denominator = h.denominator;
      }

  moved-held : (upper lower : Line) (sums : Terms) → LineHeld upper → LineHeld lower → T (fits binary64 sums.numerator) → T (fits binary64 sums.denominator) → SwingHeld (SwingStep.moved s p upper lower sums)
  unfolding SwingStep.moved
  moved-held upper lower sums u l n d =
      record {
        bound = h.bound;
        start = h.start;
        last = time;
        first = h.first;
        upper-slope = u.0;
        upper-intercept = u.1;
        lower-slope = l.0;
        lower-intercept = l.1;
        numerator = n;
        denominator = d;
      }

  through : (to : Point) → LineHeld (line_through (first_point s) to)
  through to = through-held (first_point s) to h.first

  pub swing-tried : SwingHeld (SwingStep.tried s p).state
  unfolding SwingStep.second SwingStep.swung SwingStep.upper_swung SwingStep.lower_swung
  swing-tried =
      by-case (λ (t : Stepped Swing). SwingHeld t.state) s p h
      (λ none. opened-held)
      (λ some. moved-held _ _ (sums_of s) (wide, wide) (wide, wide) h.numerator h.denominator)
      (λ one finite. moved-held _ _ (sums_of s) (through (raised p _)) (through (lowered p _)) h.numerator h.denominator)
      (λ some more d high low.
      moved-held _ _ _
      (by-test LineHeld (Ieee.lt p.value (high -f d)) _ (upper_line s) (λ t. through (raised p d)) (λ t. (h.upper-slope, h.upper-intercept)))
      (by-test LineHeld (Ieee.lt (low +f d) p.value) _ (lower_line s) (λ t. through (lowered p d)) (λ t. (h.lower-slope, h.lower-intercept)))
      (add-fits binary64 _ _)
      (add-fits binary64 _ _))

pub swing-next : (s : Swing) (g : Given) → SwingHeld s → SwingHeld (SwingRun.next s g)
swing-next s g h =
    kept SwingHeld s g h (λ ok room follows. swing-tried s (point_of g.time g.bits) h (time-fits g.time (follows-allowed s g.time follows)) (of_bits-fits binary32 g.bits))

pub swing-run : (b : ErrorBound) (given : List Given) → BoundHeld b → SwingHeld (SwingRun.run (SwingState.fresh b) given)
swing-run b given h = steps-keep SwingRun.next SwingHeld swing-next (SwingState.fresh b) given (swing-fresh b h)
