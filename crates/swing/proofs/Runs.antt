-- A list of points tried one after the other: the cases of Swing's step, and the laws of runs of it. Assumes nothing.
use mathlib.Core.Path.{◌≡◌, refl}
use mathlib.Core.Bool.{true, not, ◌||◌, false≢true}
use mathlib.Core.List.{List, [], ◌∷◌, ◌++◌}
use Prim.Native.Nat.{◌+◌, ◌≤◌, ◌<◌}
use native.Mathlib.Omega.{arith}
use borrow.Author.Tests.{le-leb, eqb-true, eqb-false, not-false}
use lib.Dec.{eqb}
use lib.IntN.{ℤ}
use lib.ListN.{length}
use lib.Ieee as Ieee
use lib.Ieee.{Float}
use Rattle.models.specs.Limits.{most_values}
use Rattle.models.specs.declared.Stepped.{Stepped}
use Rattle.models.specs.Answers.{fitting, failing, ◌when◌, NoneHolds}
use Rattle.models.specs.Floats.{equal_or_nan}
use Rattle.models.specs.Bound.{bound_allowed, deviation}
use Rattle.models.specs.declared.ErrorBound.{ErrorBound}
use Rattle.models.proofs.Tests.{and_both, by-test, not-of}
use Rattle.models.proofs.Runs as Shared
use Rattle.models.proofs.Runs.{Fitting}
use Rattle.lines.specs.Times.{time_allowed}
use Rattle.lines.specs.Line.{◌+f◌, ◌-f◌, point_of, both_finite, value_at, level_line}
use Rattle.swing.specs.State.{fresh, upper_line, lower_line, sums_of, usable, times_allowed, time_follows}
use Rattle.swing.specs.Step.{opened, moved, flat, second, swung, later_at, later, tried}
use Rattle.swing.specs.Calls.{fit_causes, fit_answer}
use Rattle.swing.specs.Run.{Given, next, run}
use Rattle.swing.specs.declared.Swing.{Swing}
use Rattle.lines.specs.declared.Point.{Point}
use Rattle.lines.specs.declared.Line.{Line}
use Rattle.lines.specs.declared.Terms.{Terms}
use Rattle.swing.proofs.Allowed.{length-limit, follows-allowed, follows-start, start-allowed, one_time, two-times}

-- a step by its cases: a point that does not fit, the first one, one that is the same as the first, the second, and a later one
pub by-case : (Q : Stepped Swing → Type 0) (s : Swing) (p : Point) → Q (failing s) → (s.length ≡ 0 → Q (fitting (opened s p)))
    → ((s.length ≡ 0 → ⊥) → Q (fitting (moved s p (level_line p.value) (level_line p.value) (sums_of s))))
    → (s.length ≡ 1 → both_finite s.first_value p.value ≡ true → Q (fitting (second s p (deviation s.error_bound p.value))))
    → ((s.length ≡ 0 → ⊥) → (s.length ≡ 1 → ⊥) → (d high low : Float) → Q (fitting (swung s p d high low))) → Q (tried s p)
unfolding tried flat later later_at
by-case Q s p fails opens same two more =
    let d = deviation s.error_bound p.value in
    let high = value_at (upper_line s) p.time in
    let low = value_at (lower_line s) p.time in
    by-test Q (eqb s.length 0) _ _ (λ none. opens (eqb-true s.length 0 none)) (λ some.
    let n = eqb-false s.length 0 some in
    by-test Q (not (both_finite s.first_value p.value)) _ _
    (λ h. by-test Q (equal_or_nan s.first_value p.value) _ _ (λ h. same n) (λ h. fails))
    (λ h. by-test Q (eqb s.length 1) _ _ (λ one. two (eqb-true s.length 1 one) (not-false _ h))
    (λ one. by-test Q (Ieee.lt (high +f d) p.value || Ieee.lt p.value (low -f d)) _ _ (λ h. fails) (λ h. more n (eqb-false s.length 1 one) d high low))))

-- what a state has, with p as its first point too, or moved on to p with whatever lines and sums, it has after the step
pub stepped : (P : Swing → Type 0) (s : Swing) (p : Point) → P s → (s.length ≡ 0 → P (opened s p)) → ((s.length ≡ 0 → ⊥) → (upper lower : Line) (sums : Terms) → P (moved s p upper lower sums)) → P (tried s p).state
unfolding second swung
stepped P s p stays opens moves =
    by-case (λ (t : Stepped Swing). P t.state) s p stays opens (λ some. moves some _ _ _) (λ one finite. moves (λ none. absurd (omega arith)) _ _ _) (λ some more d high low. moves some _ _ _)

-- the last time of a state that took p in is that of p
pub fitted-end : (s : Swing) (p : Point) → (tried s p).fits ≡ true → (tried s p).state.end_time ≡ p.time
unfolding opened moved second swung
fitted-end s p =
    by-case (λ (t : Stepped Swing). t.fits ≡ true → t.state.end_time ≡ p.time) s p (λ h. absurd (false≢true h)) (λ none h. refl) (λ some h. refl) (λ one finite h. refl) (λ some more d high low h. refl)

-- ---- the laws of a step
pub fresh-has : (b : ErrorBound) → ((fresh b).error_bound ≡ b) × (usable (fresh b) ≡ true) × ((fresh b).length ≡ 0)
unfolding usable times_allowed fresh
fresh-has b = (refl, refl, refl)

pub step-has : (s : Swing) (p : Point) → ((tried s p).state.error_bound ≡ s.error_bound) × ((tried s p).state.length ≤ s.length + 1)
unfolding opened moved
step-has s p =
    stepped (λ (t : Swing). (t.error_bound ≡ s.error_bound) × (t.length ≤ s.length + 1)) s p (refl, omega arith) (λ none. (refl, omega arith)) (λ some upper lower sums. (refl, omega arith))

pub step-usable : (s : Swing) (p : Point) → usable s ≡ true → s.length < most_values → time_follows s p.time ≡ true → usable (tried s p).state ≡ true
unfolding usable opened moved
step-usable s p ok room follows =
    let last : time_allowed p.time ≡ true = follows-allowed s p.time follows in
    stepped (λ (t : Swing). usable t ≡ true) s p ok
    (λ none. one_time p.time last)
    (λ some upper lower sums.
    and_both _ _
    (le-leb (s.length + 1) most_values (omega arith))
    (two-times (s.length + 1) s.start_time p.time (omega arith) (follows-start s p.time ok some follows) (start-allowed s ok some) last))

abbrev pub swing : Fitting Swing Given
swing =
    record {
      bound = λ (s : Swing). s.error_bound;
      usable = usable;
      size = λ (s : Swing). s.length;
      later = λ (s : Swing) (g : Given). 10 when not (time_follows s g.time) ∷ [];
      step = λ (s : Swing) (g : Given). tried s (point_of g.time g.bits);
      fresh = fresh;
      fresh-has = fresh-has;
      size-limit = length-limit;
      step-has = λ s g. step-has s (point_of g.time g.bits);
      step-usable = λ s g ok room later. step-usable s (point_of g.time g.bits) ok room (not-false _ later.0);
    }

-- ---- the laws of a run
pub kept : (P : Swing → Type 0) (s : Swing) (g : Given) → P s → (usable s ≡ true → s.length < most_values → time_follows s g.time ≡ true → P (tried s (point_of g.time g.bits)).state) → P (next s g)
unfolding fit_answer
kept P s g p step = Shared.kept swing P s g p (λ ok room later. step ok room (not-false _ later.0))

pub run-append : (s : Swing) (xs ys : List Given) → run s (xs ++ ys) ≡ run (run s xs) ys
unfolding fit_answer
run-append = Shared.run-append swing

pub run-usable : (b : ErrorBound) (given : List Given) → usable (run (fresh b) given) ≡ true
unfolding fit_answer
run-usable = Shared.run-usable swing

pub run_length : (b : ErrorBound) (given : List Given) → (run (fresh b) given).length ≤ length given
unfolding fit_answer
run_length = Shared.run_length swing

-- a step on it is refused by nothing but a full state, or a time that does not follow
pub run-steps : (b : ErrorBound) (given : List Given) (t : ℤ) → bound_allowed b ≡ true → (run (fresh b) given).length < most_values → time_follows (run (fresh b) given) t ≡ true → NoneHolds (fit_causes (run (fresh b) given) t)
unfolding fit_answer
run-steps b given t allowed room follows = Shared.run-steps swing b given (record { time = t; bits = 0 }) allowed room (not-of follows, tt)
