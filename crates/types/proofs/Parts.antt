-- Each model of a builder made by steps is that model's own run over some of the values: so both may be used, keep the bound, and stand for no
-- more values than were tried. Assumes nothing.
use mathlib.Core.Path.{◌≡◌, refl}
use mathlib.Core.Bool.{Bool, true, false, cond}
use mathlib.Core.List.{List, [], ◌∷◌}
use Prim.Native.Nat.{ℕ, ◌+◌, ◌≤◌}
use native.Mathlib.Omega.{arith}
use lib.ListN.{length}
use Rattle.models.specs.declared.ErrorBound.{ErrorBound}
use Rattle.models.proofs.Judged.{after-judging}
use Rattle.lines.specs.Line.{point_of}
use Rattle.lines.specs.declared.Point.{Point}
use Rattle.pmc_mean.specs.State as Pmc
use Rattle.models.proofs.Runs.{RunOf, longer, part-longer, run_of}
use Rattle.pmc_mean.proofs.Runs.{pmc-mean}
use Rattle.swing.specs.State as SwingState
use Rattle.swing.specs.Run.{Given}
use Rattle.swing.specs.Step as SwingStep
use Rattle.swing.proofs.Runs.{swing}
use Rattle.types.specs.Builder.{fresh, with_pmc, with_swing, update_pmc, update_swing, updated, answered_by}
use Rattle.types.specs.Calls.{update_causes, update_answer}
use Rattle.types.specs.Run.{next, run}
use Rattle.types.specs.declared.ModelBuilder.{ModelBuilder}
use Rattle.types.proofs.Rooms.{pmc-clears, swing-clears}

-- both models of a builder
abbrev pub Fitted : ErrorBound → ℕ → ModelBuilder → Type 0
Fitted bound n b = RunOf pmc-mean bound n b.pmc_mean × RunOf swing bound n b.swing

-- ---- a step leaves each as it was, or gives what its own step gives
parts : (b : ModelBuilder) (p : Point) (x y : Bool) → b.pmc_mean_could_fit_all ≡ x → b.swing_could_fit_all ≡ y
    → ((updated b p).pmc_mean ≡ cond x (Pmc.tried b.pmc_mean p.value).state b.pmc_mean) × ((updated b p).swing ≡ cond y (SwingStep.tried b.swing p).state b.swing)
unfolding updated update_pmc update_swing with_pmc with_swing
parts b p true true e f = (rw (e, f), rw (e, f))
parts b p true false e f = (rw (e, f), rw (e, f))
parts b p false true e f = (rw (e, f), rw (e, f))
parts b p false false e f = (rw (e, f), rw (e, f))

next-fitted : (bound : ErrorBound) (n : ℕ) (b : ModelBuilder) (g : Given) → Fitted bound n b → Fitted bound (n + 1) (next b g)
unfolding update_answer
next-fitted bound n b g h =
    let p = point_of g.time g.bits in
    let each = parts b p _ _ refl refl in
    after-judging (Fitted bound (n + 1)) b (update_causes b g.time) (answered_by (updated b p)) (longer pmc-mean bound n _ h.0, longer swing bound n _ h.1) (λ none. (
      rw each.0 (part-longer pmc-mean bound n _ g.bits _ (pmc-clears b g.time none) h.0),
      rw each.1 (part-longer swing bound n _ g _ (swing-clears b g.time none) h.1),
    ))

steps-fitted : (bound : ErrorBound) (n : ℕ) (b : ModelBuilder) (given : List Given) → Fitted bound n b → Fitted bound (n + length given) (run b given)
steps-fitted bound n b [] h = let e : n ≡ n + 0 = omega arith in rw e at h
steps-fitted bound n b (g ∷ given) h =
    let more = steps-fitted bound (n + 1) (next b g) given (next-fitted bound n b g h) in
    let e : n + 1 + length given ≡ n + length (g ∷ given) = omega arith in
    rw e at more

-- ---- the laws
pub run-fitted : (bound : ErrorBound) (given : List Given) → Fitted bound (length given) (run (fresh bound) given)
unfolding fresh
run-fitted bound given =
    let all = steps-fitted bound 0 (fresh bound) given (([], refl, omega arith), ([], refl, omega arith)) in
    let e : 0 + length given ≡ length given = omega arith in
    rw e at all

module _ (bound : ErrorBound) (given : List Given) where
  pmc-run : (Pmc.usable (run (fresh bound) given).pmc_mean ≡ true) × ((run (fresh bound) given).pmc_mean.error_bound ≡ bound) × ((run (fresh bound) given).pmc_mean.length ≤ length given)
  pmc-run = run_of pmc-mean bound (length given) (run (fresh bound) given).pmc_mean (run-fitted bound given).0

  swing-run : (SwingState.usable (run (fresh bound) given).swing ≡ true) × ((run (fresh bound) given).swing.error_bound ≡ bound) × ((run (fresh bound) given).swing.length ≤ length given)
  swing-run = run_of swing bound (length given) (run (fresh bound) given).swing (run-fitted bound given).1

  pub run-usable : (Pmc.usable (run (fresh bound) given).pmc_mean ≡ true) × (SwingState.usable (run (fresh bound) given).swing ≡ true)
  run-usable = (pmc-run.0, swing-run.0)

  pub run-bounds : ((run (fresh bound) given).pmc_mean.error_bound ≡ bound) × ((run (fresh bound) given).swing.error_bound ≡ bound)
  run-bounds = (pmc-run.1, swing-run.1)

  pub run-lengths : ((run (fresh bound) given).pmc_mean.length ≤ length given) × ((run (fresh bound) given).swing.length ≤ length given)
  run-lengths = (pmc-run.2, swing-run.2)
