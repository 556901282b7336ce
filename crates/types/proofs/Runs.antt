-- A list of points tried one after the other. Assumes nothing.
use mathlib.Core.Path.{◌≡◌, refl, ap, ◌∙◌}
use mathlib.Core.Bool.{false}
use mathlib.Core.List.{List, [], ◌∷◌, ◌++◌, foldl-append}
use Prim.Native.Nat.{ℕ, ◌+◌, ◌<◌}
use native.Mathlib.Numerals.{add-one}
use lib.IntN.{ℤ, pos}
use lib.ListN.{length, get_or, drop}
use lib.Seq.{drop-cons, drop-length}
use Rattle.models.proofs.Judged.{after-judging}
use Rattle.models.proofs.Tests.{neither}
use Rattle.lines.specs.Line.{point_of}
use Rattle.lines.specs.declared.Point.{Point}
use Rattle.swing.specs.Run.{Given}
use Rattle.types.specs.Builder.{update_pmc, update_swing, updated, could_fit, answered_by}
use Rattle.types.specs.Calls.{update_causes, update_answer}
use Rattle.types.specs.Run.{next, run, points}
use Rattle.types.specs.declared.ModelBuilder.{ModelBuilder}

pub run-append : (b : ModelBuilder) (xs ys : List Given) → run b (xs ++ ys) ≡ run (run b xs) ys
run-append b xs ys = foldl-append next b xs ys

-- ---- "once both have failed, a step answers no fit and the same state"
pub updated-failed : (b : ModelBuilder) (p : Point) → could_fit b ≡ false → updated b p ≡ b
unfolding updated update_pmc update_swing
updated-failed b p h = let f = neither b.pmc_mean_could_fit_all b.swing_could_fit_all h in rw (f.0, f.1)

next-failed : (b : ModelBuilder) (g : Given) → could_fit b ≡ false → next b g ≡ b
unfolding update_answer
next-failed b g h =
    after-judging (λ (s : ModelBuilder). s ≡ b) b (update_causes b g.time) (answered_by (updated b (point_of g.time g.bits))) refl (λ none. updated-failed b _ h)

pub run-failed : (b : ModelBuilder) (given : List Given) → could_fit b ≡ false → run b given ≡ b
run-failed b [] h = refl
run-failed b (g ∷ given) h = ap (λ (s : ModelBuilder). run s given) (next-failed b g h) ∙ run-failed b given h

-- ---- points side by side, read one by one
pub points-here : (ts : List ℤ) (values : List ℕ) (i : ℕ) → i < length ts → i < length values →
    points (drop i ts) (drop i values) ≡ record { time = get_or ts i (pos 0); bits = get_or values i 0 } ∷ points (drop (i + 1) ts) (drop (i + 1) values)
unfolding points
points-here ts values i h k = rw (add-one i, drop-cons ts i (pos 0), drop-cons values i 0)

pub points-done : (ts : List ℤ) (values : List ℕ) (i : ℕ) → i ≡ length values → points (drop i ts) (drop i values) ≡ []
unfolding points
points-done ts values i e = rw (ap (λ (k : ℕ). drop k values) e ∙ drop-length values) (none (drop i ts))
  where
    none : (l : List ℤ) → points l [] ≡ []
    none [] = refl
    none (t ∷ l) = refl
