-- A list tried one thing after the other on a model's state: fitting xs and then ys is fitting xs ++ ys, and what fitting makes of a fresh state may be
-- used, keeps the bound, and stands for no more than was tried. Assumes nothing.
use mathlib.Core.Path.{◌≡◌, refl, sym, ap, ◌∙◌, subst}
use mathlib.Core.Bool.{Bool, true, cond}
use mathlib.Core.List.{List, [], ◌∷◌, ◌++◌, foldl, foldl-append}
use Prim.Native.Nat.{ℕ, ◌+◌, ◌≤◌, ◌<◌}
use native.Mathlib.Omega.{arith}
use borrow.Author.Tests.{ne_eqb}
use lib.ListN.{length, length-append}
use Rattle.models.specs.Answers.{Cause, Stepped, answered_on, refusing, state_after, judged_on, NoneHolds}
use Rattle.models.specs.Bound.{bound_allowed}
use Rattle.models.specs.Limits.{most_values}
use Rattle.models.specs.Causes.{step_causes}
use Rattle.models.specs.declared.ErrorBound.{ErrorBound}
use Rattle.models.proofs.Tests.{not-of, by-test}
use Rattle.models.proofs.Judged.{steps, accepted, after-judging}
use Rattle.models.proofs.Folds.{steps-keep, steps-raise}

-- a model's states S, fitted to things of A one by one
pub record Fitting (S A : Type 0) : Type 0 where
  pub bound : S → ErrorBound
  pub usable : S → Bool
  pub size : S → ℕ
  -- what refuses a step after its bound, its state and its length; and the step
  pub later : S → A → List Cause
  pub step : S → A → Stepped S
  pub fresh : ErrorBound → S
  pub fresh-has : (b : ErrorBound) → (bound (fresh b) ≡ b) × (usable (fresh b) ≡ true) × (size (fresh b) ≡ 0)
  pub size-limit : (s : S) → usable s ≡ true → size s ≤ most_values
  pub step-has : (s : S) (a : A) → (bound (step s a).state ≡ bound s) × (size (step s a).state ≤ size s + 1)
  pub step-usable : (s : S) (a : A) → usable s ≡ true → size s < most_values → NoneHolds (later s a) → usable (step s a).state ≡ true

module _ {S A : Type 0} (F : Fitting S A) where
  abbrev pub causes : S → A → List Cause
  causes s a = step_causes (F.bound s) (F.usable s) (F.size s) (F.later s a)

  abbrev pub next : S → A → S
  next s a = state_after (judged_on s (causes s a) (F.step s a))

  abbrev pub run : S → List A → S
  run s given = foldl next s given

  -- where nothing refuses a step, its state may be used and has room
  pub step-allowed : (s : S) (a : A) → NoneHolds (causes s a) → (F.usable s ≡ true) × (F.size s < most_values) × NoneHolds (F.later s a)
  step-allowed s a none =
      let j = steps (F.bound s) (F.usable s) (F.size s) (F.later s a) none in
      (j.0, omega (arith, F.size-limit s j.0, j.1), j.2)

  -- what a state has, it has after the call, if it has it after such a step
  pub kept : (P : S → Type 0) (s : S) (a : A) → P s → (F.usable s ≡ true → F.size s < most_values → NoneHolds (F.later s a) → P (F.step s a).state) → P (next s a)
  kept P s a p step = after-judging P s (causes s a) (F.step s a) p (λ none. let j = step-allowed s a none in step j.0 j.1 j.2)

  pub run-append : (s : S) (xs ys : List A) → run s (xs ++ ys) ≡ run (run s xs) ys
  run-append s xs ys = foldl-append next s xs ys

  pub run-bound : (s : S) (given : List A) → F.bound (run s given) ≡ F.bound s
  run-bound s given =
      let P : S → Type 0 = λ t. F.bound t ≡ F.bound s in
      steps-keep next P (λ t a p. kept P t a p (λ ok room later. (F.step-has t a).0 ∙ p)) s given refl

  pub run-usable : (b : ErrorBound) (given : List A) → F.usable (run (F.fresh b) given) ≡ true
  run-usable b given =
      let P : S → Type 0 = λ t. F.usable t ≡ true in
      steps-keep next P (λ t a p. kept P t a p (F.step-usable t a)) (F.fresh b) given (F.fresh-has b).1

  one_more : (s : S) (a : A) → F.size (next s a) ≤ F.size s + 1
  one_more s a = kept (λ (t : S). F.size t ≤ F.size s + 1) s a (omega arith) (λ ok room later. (F.step-has s a).1)

  pub run_length : (b : ErrorBound) (given : List A) → F.size (run (F.fresh b) given) ≤ length given
  run_length b given = omega (arith, steps-raise next F.size one_more (F.fresh b) given, (F.fresh-has b).2)

  -- a step on it is refused by nothing but a full state, or what refuses that thing
  pub run-steps : (b : ErrorBound) (given : List A) (a : A) → bound_allowed b ≡ true → F.size (run (F.fresh b) given) < most_values → NoneHolds (F.later (run (F.fresh b) given) a) → NoneHolds (causes (run (F.fresh b) given) a)
  run-steps b given a allowed room later =
      let s = run (F.fresh b) given in
      (not-of (ap bound_allowed (run-bound (F.fresh b) given ∙ (F.fresh-has b).0) ∙ allowed), (not-of (run-usable b given), (ne_eqb (F.size s) most_values (λ e. absurd (omega arith)), later)))

  -- a state that is a run from fresh over at most n things
  abbrev pub RunOf : ErrorBound → ℕ → S → Type 0
  RunOf b n s = (given : List A) × (s ≡ run (F.fresh b) given) × (length given ≤ n)

  pub longer : (b : ErrorBound) (n : ℕ) (s : S) → RunOf b n s → RunOf b (n + 1) s
  longer b n s h = (h.0, h.1, omega (arith, h.2))

  one-longer : (b : ErrorBound) (n : ℕ) (s : S) (a : A) → RunOf b n s → RunOf b (n + 1) (next s a)
  one-longer b n s a h =
      (h.0 ++ (a ∷ []), ap (λ (t : S). next t a) h.1 ∙ sym (run-append (F.fresh b) h.0 (a ∷ [])), omega (arith, length-append h.0 (a ∷ []), h.2))

  -- so it is where a step that nothing refuses was made by a test, or not
  pub part-longer : (b : ErrorBound) (n : ℕ) (s : S) (a : A) (live : Bool) → (live ≡ true → NoneHolds (causes s a)) → RunOf b n s → RunOf b (n + 1) (cond live (F.step s a).state s)
  part-longer b n s a live none h =
      by-test (RunOf b (n + 1)) live _ _
      (λ e. subst (RunOf b (n + 1)) (sym (ap state_after (accepted (refusing s) (answered_on (F.step s a)) (causes s a) (none e)))) (one-longer b n s a h))
      (λ e. longer b n s h)

  -- it may be used, keeps the bound, and stands for no more than n
  pub run_of : (b : ErrorBound) (n : ℕ) (s : S) → RunOf b n s → (F.usable s ≡ true) × (F.bound s ≡ b) × (F.size s ≤ n)
  run_of b n s h = (
    ap F.usable h.1 ∙ run-usable b h.0,
    ap F.bound h.1 ∙ run-bound (F.fresh b) h.0 ∙ (F.fresh-has b).0,
    omega (arith, ap F.size h.1, run_length b h.0, h.2),
  )
