-- choose_model is refused by its own causes only: where none of them holds, both models stand for the first value, so nothing refuses the choice between
-- them, and it is never 11 there. The chosen model stands for at least one of the values, Swing's for at least two. Assumes nothing.
use mathlib.Core.Path.{◌≡◌, refl, sym, ap, ◌∙◌, subst}
use mathlib.Core.Bool.{true, not}
use mathlib.Core.List.{List, [], ◌∷◌}
use Prim.Native.Nat.{ℕ, ◌≤◌}
use native.Mathlib.Omega.{arith}
use borrow.Author.Tests.{eqb-false, ltb-false, ne_eqb, not-false, eqb-true}
use lib.Dec.{eqb, ltb}
use lib.IntN.{ℤ}
use lib.ListN.{length}
use lib.Ieee.{Float, binary32, of_bits}
use Rattle.models.specs.Answers.{answered, answered_on, state_after, refusing, NoneHolds}
use Rattle.models.specs.Bound.{bound_allowed}
use Rattle.models.specs.Limits.{metadata_allowed, most_values}
use Rattle.models.specs.declared.ErrorBound.{ErrorBound}
use Rattle.models.proofs.Judged.{accepted, after-judging, after_test, told}
use Rattle.models.proofs.Tests.{and_left, neither, by-test}
use Rattle.models.proofs.Folds.{steps-keep}
use Rattle.lines.specs.Times.{time_allowed, after, in_order}
use Rattle.lines.specs.Line.{point_of}
use Rattle.lines.specs.declared.Point.{Point}
use Rattle.pmc_mean.specs.State as Pmc
use Rattle.pmc_mean.specs.declared.PMCMean.{PMCMean}
use Rattle.pmc_mean.proofs.First.{first_fits}
use Rattle.swing.specs.State as SwingState
use Rattle.swing.specs.Step as SwingStep
use Rattle.swing.specs.Run.{Given}
use Rattle.swing.specs.declared.Swing.{Swing}
use Rattle.swing.proofs.Runs as SwingRuns
use Rattle.types.specs.Builder.{fresh, bounds_allowed, states_allowed, room_left, time_fits, with_pmc, with_swing, update_pmc, update_swing, updated, answered_by}
use Rattle.types.specs.Choice.{choice_of}
use Rattle.types.specs.Calls.{update_causes, update_answer, finish_causes, finish_answer}
use Rattle.types.specs.Run.{next, run, points, choice_causes, choice_answer}
use Rattle.types.specs.declared.ModelBuilder.{ModelBuilder}
use Rattle.types.specs.declared.SelectedModel.{SelectedModel}
use Rattle.types.proofs.Parts.{run-usable, run-bounds}
use Rattle.types.proofs.Chosen.{finish-length, finish-swing, choice-length}

pub points-length : (ts : List ℤ) (values : List ℕ) → length (points ts values) ≤ length values
unfolding points
points-length [] values = omega arith
points-length (t ∷ ts) [] = omega arith
points-length (t ∷ ts) (v ∷ values) = omega (arith, points-length ts values)

-- ---- both models stand for a value
abbrev Some : ModelBuilder → Type 0
Some b = (1 ≤ b.pmc_mean.length) × (1 ≤ b.swing.length)

pmc-keeps : (s : PMCMean) (v : Float) → 1 ≤ s.length → 1 ≤ (Pmc.tried s v).state.length
unfolding Pmc.tried Pmc.with_value
pmc-keeps s v h = after_test (λ (t : PMCMean). 1 ≤ t.length) (Pmc.fits (Pmc.with_value s v)) _ _ (λ f. omega arith) (λ f. h)

swing-keeps : (s : Swing) (p : Point) → 1 ≤ s.length → 1 ≤ (SwingStep.tried s p).state.length
unfolding SwingStep.opened SwingStep.moved
swing-keeps s p h = SwingRuns.stepped (λ (t : Swing). 1 ≤ t.length) s p h (λ none. omega arith) (λ some upper lower sums. omega arith)

keep-pmc : (b : ModelBuilder) (v : Float) → Some b → Some (update_pmc b v)
unfolding update_pmc with_pmc
keep-pmc b v h = by-test Some b.pmc_mean_could_fit_all _ _ (λ e. (pmc-keeps b.pmc_mean v h.0, h.1)) (λ e. h)

keep-swing : (b : ModelBuilder) (p : Point) → Some b → Some (update_swing b p)
unfolding update_swing with_swing
keep-swing b p h = by-test Some b.swing_could_fit_all _ _ (λ e. (h.0, swing-keeps b.swing p h.1)) (λ e. h)

keeps : (b : ModelBuilder) (g : Given) → Some b → Some (next b g)
unfolding update_answer updated
keeps b g h =
    let p = point_of g.time g.bits in
    after-judging Some b (update_causes b g.time) (answered_by (updated b p)) h (λ none. keep-swing (update_pmc b p.value) p (keep-pmc b p.value h))

-- ---- after the first point they do
first-judged : (b : ErrorBound) (t : ℤ) → bound_allowed b ≡ true → time_allowed t ≡ true → NoneHolds (update_causes (fresh b) t)
unfolding fresh bounds_allowed states_allowed room_left time_fits Pmc.fresh SwingState.fresh SwingState.usable SwingState.times_allowed SwingState.time_follows
first-judged b t allowed time = (rw allowed, (refl, (refl, (rw time, tt))))

one_value : (b : ErrorBound) (v : Float) → 1 ≤ (Pmc.with_value (Pmc.fresh b) v).length
unfolding Pmc.with_value Pmc.fresh
one_value b v = omega arith

first-updated : (b : ErrorBound) (g : Given) → Some (updated (fresh b) (point_of g.time g.bits))
unfolding fresh updated update_pmc update_swing with_pmc with_swing Pmc.tried SwingStep.tried SwingState.fresh SwingStep.opened
first-updated b g = rw (first_fits b g.bits) (one_value b (of_bits binary32 g.bits), omega arith)

first-point : (b : ErrorBound) (g : Given) → bound_allowed b ≡ true → time_allowed g.time ≡ true → Some (next (fresh b) g)
unfolding update_answer
first-point b g allowed time =
    subst Some
    (ap state_after (accepted (refusing (fresh b)) (answered_on (answered_by (updated (fresh b) (point_of g.time g.bits)))) (update_causes (fresh b) g.time) (first-judged b g.time allowed time)))
    (first-updated b g)

-- ---- so nothing refuses the choice between them
run-some : (b : ErrorBound) (ts : List ℤ) (values : List ℕ) → bound_allowed b ≡ true → in_order ts ≡ true → length ts ≡ length values → (length values ≡ 0 → ⊥) → Some (run (fresh b) (points ts values))
unfolding in_order points
run-some b ts [] allowed ordered same some = absurd (some refl)
run-some b [] (v ∷ values) allowed ordered same some = absurd (omega arith)
run-some b (t ∷ ts) (v ∷ values) allowed ordered same some =
    steps-keep next Some keeps _ (points ts values) (first-point b (record { time = t; bits = v }) allowed (and_left (time_allowed t) (after t ts) ordered))

nothing-refuses : (b : ErrorBound) (given : List Given) (m : ℕ) → bound_allowed b ≡ true → metadata_allowed m ≡ true → Some (run (fresh b) given) → NoneHolds (finish_causes (run (fresh b) given) m)
nothing-refuses b given m allowed size some =
    let s = run (fresh b) given in
    let bounds = run-bounds b given in
    let usable = run-usable b given in
    let pmc = ne_eqb s.pmc_mean.length 0 (λ e. absurd (omega arith)) in
    let swing = ne_eqb s.swing.length 0 (λ e. absurd (omega arith)) in
    (rw (bounds.0, bounds.1, allowed), (rw (usable.0, usable.1), (rw size, (rw (pmc, swing), tt))))

-- ---- what choose_model judges, where nothing refuses it
pub record Clear (ts : List ℤ) (values : List ℕ) (b : ErrorBound) (m : ℕ) : Type 0 where
  pub allowed : bound_allowed b ≡ true
  pub most : length values ≤ most_values
  pub size : metadata_allowed m ≡ true
  pub same : length ts ≡ length values
  pub ordered : in_order ts ≡ true
  pub some : length values ≡ 0 → ⊥

-- ---- the laws
module _ (ts : List ℤ) (values : List ℕ) (b : ErrorBound) (m : ℕ) where
  pub clear : NoneHolds (choice_causes ts values b m) → Clear ts values b m
  clear none =
      let three = neither (ltb most_values (length values)) (not (metadata_allowed m)) none.1.0 in
      record {
        allowed = not-false (bound_allowed b) none.0;
        most = ltb-false most_values (length values) three.0;
        size = not-false (metadata_allowed m) three.1;
        same = eqb-true (length ts) (length values) (not-false (eqb (length ts) (length values)) none.1.1.0);
        ordered = not-false (in_order ts) none.1.1.1.0;
        some = eqb-false (length values) 0 none.1.1.1.1.0;
      }

  abbrev after-all : ModelBuilder
  after-all = run (fresh b) (points ts values)

  pub choice-clear : NoneHolds (choice_causes ts values b m) → NoneHolds (finish_causes after-all m)
  choice-clear none =
      let c = clear none in
      nothing-refuses b (points ts values) m c.allowed c.size (run-some b ts values c.allowed c.ordered c.same c.some)

  -- so the builder's own choice after the same steps is that answer
  pub choice-finishes : NoneHolds (choice_causes ts values b m) → finish_answer after-all m ≡ answered_on (choice_of after-all m)
  unfolding finish_answer
  choice-finishes none = sym (accepted (refusing after-all) (answered_on (choice_of after-all m)) (finish_causes after-all m) (choice-clear none))

  pub choice-is-finish : (x : SelectedModel) → choice_answer ts values b m ≡ answered x → finish_answer after-all m ≡ answered_on x
  unfolding choice_answer
  choice-is-finish x h =
      let t = told (choice_causes ts values b m) (choice_of after-all m) x (sym h) in
      choice-finishes t.0 ∙ ap answered_on (sym t.1)

  -- the model that is chosen
  pub choice-stands : (x : SelectedModel) → choice_answer ts values b m ≡ answered x → (1 ≤ x.length) × (x.length ≤ length values) × (x.model_type_id ≡ 1 → 2 ≤ x.length)
  unfolding choice_answer
  choice-stands x h =
      let t = told (choice_causes ts values b m) (choice_of after-all m) x (sym h) in
      let f = choice-is-finish x h in
      let most : x.length ≤ length (points ts values) = rw t.1 (choice-length b (points ts values) m) in
      (finish-length after-all m x f, omega (arith, most, points-length ts values), finish-swing after-all m x f)
