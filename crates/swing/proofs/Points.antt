-- A model's first and second point, in states made by steps from fresh: 01, "Its first two finite points always fit. The second is not added to the error
-- sums, so a two-point model has slope 0/0 and takes the upper slope. A one-point model answers a NaN last value." Assumes nothing.
use mathlib.Core.Path.{◌≡◌, refl, sym, ap, ◌∙◌, subst}
use mathlib.Core.Bool.{Bool, true, false, cond}
use mathlib.Core.List.{List, [], ◌∷◌}
use Prim.Native.Nat.{ℕ, ◌≤◌}
use native.Mathlib.Omega.{arith}
use lib.Dec.{T}
use lib.Signed.{lt_z}
use lib.Ieee as Ieee
use lib.Ieee.{Float, nan, binary32, to_bits, fits}
use lib.Ieee.Bits.{of_bits-fits}
use Rattle.numbers.proofs.Nans.{nan_pattern_lem}
use Rattle.numbers.proofs.Convert.{narrowed-nan}
use Rattle.models.specs.declared.Stepped.{Stepped}
use Rattle.models.specs.Answers.{answered_on, state_after, fitting, refusing, NoneHolds}
use Rattle.models.specs.Floats.{zero_f, fresh_bits, is_finite, min_f, max_f}
use Rattle.models.specs.Bound.{bound_allowed, BoundHeld, deviation}
use Rattle.models.specs.declared.ErrorBound.{ErrorBound}
use Rattle.models.proofs.Judged.{accepted}
use Rattle.models.proofs.Tests.{and_left, and_right, and_both}
use Rattle.models.proofs.Folds.{steps-keep}
use Rattle.lines.specs.Times.{time_allowed, after, in_order}
use Rattle.lines.specs.declared.Point.{Point}
use Rattle.lines.specs.declared.Terms.{Terms}
use Rattle.lines.specs.Line.{◌/f◌, point_of, answered_as}
use Rattle.swing.specs.State.{fresh, first_point, sums_of, time_follows}
use Rattle.swing.specs.Step.{opened, moved, second, swung, tried}
use Rattle.swing.specs.Model.{best_slope, last_value}
use Rattle.swing.specs.Calls.{fit_causes, fit_answer, model_causes, model_answer}
use Rattle.swing.specs.Run.{Given, next, run, Fits, finite}
use Rattle.swing.specs.declared.Swing.{Swing}
use Rattle.swing.proofs.Allowed.{start-allowed, follows-allowed, follows-start}
use Rattle.swing.proofs.Runs.{by-case, kept, fresh-has, swing, run-usable, run-steps}
use Rattle.models.proofs.Runs.{run-bound}
use Rattle.swing.proofs.Slopes.{span, two-slopes}

-- ---- "its first two finite points always fit"

fits_by : (s : Swing) (g : Given) (t : Swing) → NoneHolds (fit_causes s g.time) → tried s (point_of g.time g.bits) ≡ fitting t → fit_answer s g.time g.bits ≡ answered_on (fitting t)
unfolding fit_answer
fits_by s g t none e =
    sym (accepted (refusing s) (answered_on (tried s (point_of g.time g.bits))) (fit_causes s g.time) none) ∙ ap answered_on e

module _ (b : ErrorBound) (given : List Given) (g : Given) (allowed : bound_allowed b ≡ true) where
  abbrev made : Swing
  made = run (fresh b) given

  abbrev point : Point
  point = point_of g.time g.bits

  -- a state that stands for no point takes any
  pub first_fits : made.length ≡ 0 → time_allowed g.time ≡ true → fit_answer made g.time g.bits ≡ answered_on (fitting (opened made point))
  unfolding tried time_follows
  first_fits none time = fits_by made g (opened made point) (run-steps b given g.time allowed (omega arith) (rw (time, none))) (rw none)

  -- and one that stands for a finite point any finite one at a later time
  pub second_fits : made.length ≡ 1 → time_follows made g.time ≡ true → is_finite made.first_value ≡ true → finite g ≡ true
      → fit_answer made g.time g.bits ≡ answered_on (fitting (second made point (deviation made.error_bound point.value)))
  unfolding tried
  second_fits one follows p q =
      fits_by made g (second made point (deviation made.error_bound point.value)) (run-steps b given g.time allowed (omega arith) follows) (rw (one, p, q))

-- of any two finite points at increasing times, both fit
pub first-two-fit : (b : ErrorBound) (g h : Given) → bound_allowed b ≡ true → in_order (g.time ∷ h.time ∷ []) ≡ true → finite g ≡ true → finite h ≡ true → Fits (fresh b) g × Fits (next (fresh b) g) h
unfolding in_order after fresh opened time_follows
first-two-fit b g h allowed ordered p q =
    let time = and_left (time_allowed g.time) _ ordered in
    let rest = and_right (time_allowed g.time) _ ordered in
    let one = first_fits b [] g allowed refl time in
    let s : next (fresh b) g ≡ opened (fresh b) (point_of g.time g.bits) = ap state_after one in
    let follows = and_both _ _ (and_left (time_allowed h.time) _ rest) (and_left (lt_z g.time h.time) _ (and_right (time_allowed h.time) _ rest)) in
    ((_, one), (_, second_fits b (g ∷ []) h allowed (ap (λ (t : Swing). t.length) s) (rw s follows) (rw s p) q))

-- ---- what a state made by steps holds while it stands for at most two points
abbrev Few : Swing → Type 0
Few s = (s.length ≤ 2 → sums_of s ≡ record { numerator = zero_f; denominator = zero_f }) × (s.length ≤ 1 → (s.upper_bound_slope ≡ nan) × (s.lower_bound_slope ≡ nan))

next-few : (s : Swing) (g : Given) → Few s → Few (next s g)
unfolding opened moved second swung
next-few s g few =
    kept Few s g few (λ ok room follows.
    by-case (λ (t : Stepped Swing). Few t.state) s (point_of g.time g.bits) few
    (λ none. (λ h. few.0 (omega arith), λ h. few.1 (omega arith)))
    (λ some. (λ h. few.0 (omega arith), λ h. absurd (omega arith)))
    (λ one finite. (λ h. few.0 (omega arith), λ h. absurd (omega arith)))
    (λ some more d high low. (λ h. absurd (omega arith), λ h. absurd (omega arith))))

run-few : (b : ErrorBound) (given : List Given) → Few (run (fresh b) given)
unfolding fresh
run-few b given = steps-keep next Few next-few (fresh b) given (λ h. refl, λ h. (refl, refl))

-- "the second is not added to the error sums": they are those of a fresh state
pub sums-of-two : (b : ErrorBound) (given : List Given) → (run (fresh b) given).length ≤ 2 → sums_of (run (fresh b) given) ≡ sums_of (fresh b)
unfolding fresh
sums-of-two b given h = (run-few b given).0 h

-- "so a two-point model has slope 0/0"
pub zero_by_zero : (b : ErrorBound) (given : List Given) → (run (fresh b) given).length ≤ 2 → (sums_of (run (fresh b) given)).numerator /f (sums_of (run (fresh b) given)).denominator ≡ nan
unfolding Ieee.div
zero_by_zero b given h = ap (λ (t : Terms). t.numerator /f t.denominator) ((run-few b given).0 h)

best-of-two : (b : ErrorBound) (given : List Given) → (run (fresh b) given).length ≤ 2 → best_slope (run (fresh b) given) ≡ max_f (run (fresh b) given).lower_bound_slope (run (fresh b) given).upper_bound_slope
unfolding min_f Ieee.is_nan
best-of-two b given h = rw (zero_by_zero b given h)

-- ---- "a one-point model answers a NaN last value"
pub one-point-last : (b : ErrorBound) (given : List Given) → (run (fresh b) given).length ≡ 1 → last_value (run (fresh b) given) ≡ nan
unfolding last_value max_f Ieee.is_nan Ieee.mul Ieee.add
one-point-last b given one =
    let slopes = (run-few b given).1 (omega arith) in
    rw (best-of-two b given (omega arith), slopes.0, slopes.1)

nan-answered : answered_as nan ≡ fresh_bits
unfolding answered_as
nan-answered = ap (to_bits binary32) narrowed-nan ∙ nan_pattern_lem binary32

pub one-point-model : (b : ErrorBound) (given : List Given) → bound_allowed b ≡ true → (run (fresh b) given).length ≡ 1
    → model_answer (run (fresh b) given) ≡ answered_on (record { first = answered_as (run (fresh b) given).first_value; last = fresh_bits })
unfolding model_answer fit_answer
one-point-model b given allowed one =
    let s = run (fresh b) given in
    let bound : s.error_bound ≡ b = run-bound swing (fresh b) given ∙ (fresh-has b).0 in
    let last : answered_as (last_value s) ≡ fresh_bits = ap answered_as (one-point-last b given one) ∙ nan-answered in
    sym (accepted (refusing s) (answered_on _) (model_causes s) (rw (bound, allowed), (rw (run-usable b given), (rw one, tt))))
    ∙ ap (λ (w : ℕ). answered_on (record { first = answered_as s.first_value; last = w })) last

-- ---- a two-point model "takes the upper slope", where the bound's number is an f32, as in every bound that the code holds: for 2 ^ -1074, the values 0 at the
-- times 0 and 4 have the lower slope -0 and the upper slope +0, of which the first stays

same-twice : (test : Bool) (v : Float) → cond test v v ≡ v
same-twice true v = refl
same-twice false v = refl

greater-of-one : (v : Float) → max_f v v ≡ v
unfolding max_f
greater-of-one v = ap (cond (Ieee.is_nan v) v) (same-twice (Ieee.lt v v) v) ∙ same-twice (Ieee.is_nan v) v

module _ (b : ErrorBound) (allowed : bound_allowed b ≡ true) (held : BoundHeld b) where
  abbrev Two : Swing → Type 0
  Two s = (s.error_bound ≡ b) × ((s.length ≡ 0 → ⊥) → T (fits binary32 s.first_value)) × (s.length ≡ 2 → max_f s.lower_bound_slope s.upper_bound_slope ≡ s.upper_bound_slope)

  next-two : (s : Swing) (g : Given) → Two s → Two (next s g)
  unfolding opened moved second swung
  next-two s g two =
      let p = point_of g.time g.bits in
      let v = of_bits-fits binary32 g.bits in
      kept Two s g two (λ ok room follows.
      by-case (λ (t : Stepped Swing). Two t.state) s p two
      (λ none. (two.0, λ h. v, λ h. absurd (omega arith)))
      (λ some. (two.0, λ h. two.1 some, λ h. greater-of-one p.value))
      (λ one finite.
      let some : s.length ≡ 0 → ⊥ = λ none. absurd (omega arith) in
      let time = span s.start_time g.time (start-allowed s ok some) (follows-allowed s g.time follows) (follows-start s g.time ok some follows) in
      (two.0, λ h. two.1 some, λ h. two-slopes s.error_bound (first_point s) p (ap bound_allowed two.0 ∙ allowed) (subst BoundHeld (sym two.0) held) (two.1 some) v finite time))
      (λ some more d high low. (two.0, λ h. two.1 some, λ h. absurd (omega arith))))

  run-two : (given : List Given) → Two (run (fresh b) given)
  unfolding fresh
  run-two given = steps-keep next Two next-two (fresh b) given (refl, λ some. absurd (some refl), λ h. absurd (omega arith))

  pub two-point-slope : (given : List Given) → (run (fresh b) given).length ≡ 2 → best_slope (run (fresh b) given) ≡ (run (fresh b) given).upper_bound_slope
  two-point-slope given h = best-of-two b given (omega arith) ∙ (run-two given).2 h
