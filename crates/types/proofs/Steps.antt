-- No step of choose_model is refused: where none of its causes holds, none of a step's causes holds at any of the points. So no point is dropped, and the
-- answer is the choice after the steps over all of them. Assumes nothing.
use mathlib.Core.Path.{◌≡◌, refl, sym, ap, ◌∙◌}
use mathlib.Core.Bool.{Bool, true, false, not}
use mathlib.Core.List.{List, [], ◌∷◌, foldl}
use Prim.Native.Nat.{ℕ, zero, suc, ◌<◌}
use native.Mathlib.Nat.{le_of_suc-le-suc, not-suc-le-zero}
use native.Mathlib.Omega.{arith}
use borrow.Author.Tests.{ne_eqb}
use lib.Dec.{eqb}
use lib.IntN.{ℤ, pos, negsuc}
use lib.Signed.{lt_z}
use lib.ListN.{length, take, get_or, length-take}
use Rattle.models.specs.Limits.{most_values}
use Rattle.models.specs.Answers.{answered, answered_on, refused, state_after, refusing, NoneHolds}
use Rattle.models.specs.Bound.{bound_allowed}
use Rattle.models.specs.declared.ErrorBound.{ErrorBound}
use Rattle.models.proofs.Judged.{accepted, after-judging}
use Rattle.models.proofs.Tests.{and_left, and_right, and_both, or_right}
use Rattle.lines.specs.Times.{time_allowed, after}
use Rattle.lines.specs.Line.{point_of}
use Rattle.lines.specs.declared.Point.{Point}
use Rattle.lines.proofs.Ordered.{after-all}
use Rattle.swing.specs.State as SwingState
use Rattle.swing.specs.Step as SwingStep
use Rattle.swing.specs.Run.{Given}
use Rattle.swing.specs.declared.Swing.{Swing}
use Rattle.swing.proofs.Allowed.{before-both}
use Rattle.swing.proofs.Runs.{fitted-end}
use Rattle.types.specs.Builder.{◌unless-failed◌, fresh, bounds_allowed, states_allowed, room_left, time_fits, with_swing, update_pmc, update_swing, updated, answered_by}
use Rattle.types.specs.Choice.{choice_of}
use Rattle.types.specs.Calls.{update_causes, update_answer}
use Rattle.types.specs.Run.{next, run, points, choice_causes, choice_answer, with_point}
use Rattle.types.specs.declared.ModelBuilder.{ModelBuilder}
use Rattle.types.proofs.Parts.{run-usable, run-bounds, run-lengths}
use Rattle.types.proofs.Accepted.{clear, points-length}

-- ---- a builder that every time after a may follow
abbrev Follows : ℤ → ModelBuilder → Type 0
Follows a b = (t : ℤ) → time_allowed t ≡ true → lt_z a t ≡ true → time_fits b t ≡ true

fresh-follows : (b : ErrorBound) (a : ℤ) → Follows a (fresh b)
unfolding fresh time_fits SwingState.fresh SwingState.time_follows
fresh-follows b a t ok later = rw ok

ends-before : (s : Swing) (t : ℤ) (live : Bool) → time_allowed t ≡ true → (live ≡ true → lt_z s.end_time t ≡ true) → (SwingState.time_follows s t unless-failed live) ≡ true
unfolding SwingState.time_follows
ends-before s t true ok later = and_both _ _ ok (or_right (eqb s.length 0) _ (later refl))
ends-before s t false ok later = refl

-- Swing has failed, or took p in, and ends there
updated-follows : (b : ModelBuilder) (p : Point) (live : Bool) → b.swing_could_fit_all ≡ live → Follows p.time (update_swing b p)
unfolding update_swing with_swing time_fits
updated-follows b p true e t ok later =
    rw (e, ok) (ends-before _ t (SwingStep.tried b.swing p).fits ok (λ fits. ap (λ (z : ℤ). lt_z z t) (fitted-end b.swing p fits) ∙ later))
updated-follows b p false e t ok later = rw (e, ok)

next-follows : (a : ℤ) (b : ModelBuilder) (g : Given) → lt_z a g.time ≡ true → Follows a b → Follows g.time (next b g)
unfolding update_answer updated
next-follows a b g before follows =
    let p = point_of g.time g.bits in
    after-judging (Follows g.time) b (update_causes b g.time) (answered_by (updated b p))
    (λ t ok later. follows t ok (before-both a g.time t before later))
    (λ none. updated-follows (update_pmc b p.value) p _ refl)

-- after any of the points, the next time may follow
in-time : (a : ℤ) (b : ModelBuilder) (ts : List ℤ) (values : List ℕ) (i : ℕ) → i < length ts → i < length values → after a ts ≡ true → Follows a b
    → time_fits (run b (take i (points ts values))) (get_or ts i (pos 0)) ≡ true
unfolding after points
in-time a b [] values i h k ordered follows = absurd (not-suc-le-zero h)
in-time a b (t ∷ ts) [] i h k ordered follows = absurd (not-suc-le-zero k)
in-time a b (t ∷ ts) (v ∷ values) zero h k ordered follows =
    follows t (and_left (time_allowed t) _ ordered) (and_left (lt_z a t) _ (and_right (time_allowed t) _ ordered))
in-time a b (t ∷ ts) (v ∷ values) (suc i) h k ordered follows =
    let rest = and_right (time_allowed t) _ ordered in
    let g : Given = record { time = t; bits = v } in
    in-time t (next b g) ts values i (le_of_suc-le-suc h) (le_of_suc-le-suc k) (and_right (lt_z a t) _ rest) (next-follows a b g (and_left (lt_z a t) _ rest) follows)

-- ---- so nothing refuses a step on what steps made
either_way : (ok live : Bool) → ok ≡ true → (ok unless-failed live) ≡ true
either_way ok live h = or_right (not live) ok h

room-below : (n : ℕ) → n < most_values → not (eqb n most_values) ≡ true
room-below n h = rw (ne_eqb n most_values (λ e. absurd (omega arith)))

nothing-refuses : (b : ErrorBound) (given : List Given) (t : ℤ) → bound_allowed b ≡ true → length given < most_values → time_fits (run (fresh b) given) t ≡ true → NoneHolds (update_causes (run (fresh b) given) t)
unfolding bounds_allowed states_allowed room_left
nothing-refuses b given t allowed room time =
    let s = run (fresh b) given in
    let bounds = run-bounds b given in
    let usable = run-usable b given in
    let lengths = run-lengths b given in
    let p = s.pmc_mean_could_fit_all in
    let q = s.swing_could_fit_all in
    let one = and_both _ _ (either_way _ p (ap bound_allowed bounds.0 ∙ allowed)) (either_way _ q (ap bound_allowed bounds.1 ∙ allowed)) in
    let two = and_both _ _ (either_way _ p usable.0) (either_way _ q usable.1) in
    let three = and_both _ _ (either_way _ p (room-below s.pmc_mean.length (omega (arith, lengths.0)))) (either_way _ q (room-below s.swing.length (omega (arith, lengths.1)))) in
    (ap not one, (ap not two, (ap not three, (ap not time, tt))))

-- ---- steps that nothing refuses
next-with-point : (b : ModelBuilder) (g : Given) → NoneHolds (update_causes b g.time) → next b g ≡ with_point b g
unfolding update_answer
next-with-point b g none = sym (ap state_after (accepted (refusing b) (answered_on (answered_by (with_point b g))) (update_causes b g.time) none))

abbrev at : List Given → ℕ → Given
at given i = get_or given i (record { time = pos 0; bits = 0 })

run-with-points : (b : ModelBuilder) (given : List Given) → ((i : ℕ) → i < length given → NoneHolds (update_causes (run b (take i given)) (at given i).time)) → run b given ≡ foldl with_point b given
run-with-points b [] h = refl
run-with-points b (g ∷ given) h =
    run-with-points (next b g) given (λ i l. h (suc i) (omega arith)) ∙ ap (λ (s : ModelBuilder). foldl with_point s given) (next-with-point b g (h 0 (omega arith)))

point-time : (ts : List ℤ) (values : List ℕ) (i : ℕ) → i < length (points ts values) → (at (points ts values) i).time ≡ get_or ts i (pos 0)
unfolding points
point-time [] values i h = absurd (not-suc-le-zero h)
point-time (t ∷ ts) [] i h = absurd (not-suc-le-zero h)
point-time (t ∷ ts) (v ∷ values) zero h = refl
point-time (t ∷ ts) (v ∷ values) (suc i) h = point-time ts values i (le_of_suc-le-suc h)

-- ---- the laws
module _ (ts : List ℤ) (values : List ℕ) (b : ErrorBound) (m : ℕ) (none : NoneHolds (choice_causes ts values b m)) where
  -- after any of the points, nothing refuses the next step
  pub choice-steps : (i : ℕ) → i < length values → NoneHolds (update_causes (run (fresh b) (take i (points ts values))) (get_or ts i (pos 0)))
  choice-steps i h =
      let c = clear ts values b m none in
      let first = negsuc 4503599627370496 in
      nothing-refuses b (take i (points ts values)) (get_or ts i (pos 0)) c.allowed
      (omega (arith, length-take i (points ts values), c.most))
      (in-time first (fresh b) ts values i (omega (arith, c.same)) h (sym (after-all ts) ∙ c.ordered) (fresh-follows b first))

  -- so every point is taken in
  pub choice-folds : run (fresh b) (points ts values) ≡ foldl with_point (fresh b) (points ts values)
  choice-folds =
      run-with-points (fresh b) (points ts values) (λ i l.
      rw (point-time ts values i l) (choice-steps i (omega (arith, points-length ts values))))

  pub choice-takes-all : choice_answer ts values b m ≡ answered (choice_of (foldl with_point (fresh b) (points ts values)) m)
  unfolding choice_answer
  choice-takes-all =
      sym (accepted refused (answered (choice_of (run (fresh b) (points ts values)) m)) (choice_causes ts values b m) none)
      ∙ ap (λ (s : ModelBuilder). answered (choice_of s m)) choice-folds
