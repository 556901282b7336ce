-- What a verdict on a call's causes tells of all that the call judges by them: its answer, the state, lent memory. Assumes nothing.
use mathlib.Core.Path.{◌≡◌, refl, sym, ap, ◌∙◌}
use mathlib.Core.Bool.{Bool, true, false, cond, ◌&&◌}
use Rattle.std.specs.Prelude.{Result, Ok, Err}
use mathlib.Core.List.{List, [], ◌∷◌, ◌++◌}
use Prim.Native.Nat.{ℕ, ◌≤◌}
use borrow.Author.Tests.{leb-true, eqb-false, not-false}
use lib.Dec.{leb}
use Rattle.models.specs.Limits.{most_values, most_metadata}
use Rattle.models.specs.Answers.{Fault, fault, Said, answered, refused, SaidOn, answered_on, refused_on, refusing, Cause, ◌when◌, judge, judged, verdict, Done, Stepped, state_after, judged_on, NoneHolds}
use Rattle.models.specs.Refusals.{fault_of}
use Rattle.models.specs.Causes.{step_causes, model_causes, cost_causes}
use Rattle.models.specs.Calls.{said_by}
use Rattle.models.specs.declared.ErrorBound.{ErrorBound}
use Rattle.models.specs.declared.Refusal.{Refusal}
use Rattle.models.proofs.Tests.{and_right, by-test, never}

-- ---- an answer is no refusal, and either tells what it holds
pub not-answered : {A : Type 0} {f : Fault} {a : A} → ◌≡◌ {A = Said A} (refused f) (answered a) → ⊥
not-answered e = never (cc)

pub not-refused : {A : Type 0} {f : Fault} {a : A} → ◌≡◌ {A = Said A} (answered a) (refused f) → ⊥
not-refused e = not-answered (sym e)

pub not-answered-on : {S A : Type 0} {f : Fault} {s : S} {a : A} → ◌≡◌ {A = SaidOn S A} (refused_on f s) (answered_on a) → ⊥
not-answered-on e = never (cc)

pub same_answer : {A : Type 0} {a x : A} → ◌≡◌ {A = Said A} (answered a) (answered x) → a ≡ x
same_answer e = cc

pub same-answer-on : {S A : Type 0} {a x : A} → ◌≡◌ {A = SaidOn S A} (answered_on a) (answered_on x) → a ≡ x
same-answer-on e = cc

pub same-fault : {A : Type 0} {f g : Fault} → ◌≡◌ {A = Said A} (refused f) (refused g) → f ≡ g
same-fault e = cc

-- ---- by the causes
module _ {X : Type 0} (refuse : Fault → X) where
  pub accepted : (x : X) (causes : List Cause) → NoneHolds causes → x ≡ judge refuse causes x
  unfolding judge
  accepted x [] h = refl
  accepted x (n when holds ∷ causes) h = rw h.0 (accepted x causes h.1)

  pub turned-back : (x : X) (causes : List Cause) (f : Fault) → verdict causes ≡ refused f → refuse f ≡ judge refuse causes x
  unfolding judge
  turned-back x [] f h = absurd (not-refused h)
  turned-back x (k when true ∷ causes) f h = ap refuse (sym (same-fault h))
  turned-back x (k when false ∷ causes) f h = turned-back x causes f h

  -- causes that are judged in two parts
  pub judged-parts : (first later : List Cause) (x : X) → judge refuse (first ++ later) x ≡ judge refuse first (judge refuse later x)
  unfolding judge
  judged-parts [] later x = refl
  judged-parts (k when true ∷ first) later x = refl
  judged-parts (k when false ∷ first) later x = judged-parts first later x

  -- what no refusal gives tells that no cause held
  pub only_none : (x y : X) → ((f : Fault) → refuse f ≡ y → ⊥) → (causes : List Cause) → judge refuse causes x ≡ y → NoneHolds causes × (x ≡ y)
  unfolding judge
  only_none x y never [] h = (tt, h)
  only_none x y never (n when true ∷ causes) h = absurd (never (fault n) h)
  only_none x y never (n when false ∷ causes) h = let r = only_none x y never causes h in ((refl, r.0), r.1)

pub answered-only : {A : Type 0} (causes : List Cause) (x : Said A) (a : A) → judge refused causes x ≡ answered a → NoneHolds causes × (x ≡ answered a)
answered-only causes x a h = only_none refused x (answered a) (λ f e. not-answered e) causes h

pub accepted-on : {S A : Type 0} (s : S) (causes : List Cause) (x : SaidOn S A) (a : A) → judge (refusing s) causes x ≡ answered_on a → NoneHolds causes × (x ≡ answered_on a)
accepted-on s causes x a h = only_none (refusing s) x (answered_on a) (λ f e. not-answered-on e) causes h

pub none : (causes : List Cause) → verdict causes ≡ answered tt → NoneHolds causes
none causes h = (answered-only causes (answered tt) tt h).0

pub passed : (causes : List Cause) → NoneHolds causes → verdict causes ≡ answered tt
passed causes none = sym (accepted refused (answered tt) causes none)

-- an accepted answer tells that no cause held, and what was answered
pub accepted-only : {S A : Type 0} (s : S) (causes : List Cause) (a x : A) → judged_on s causes a ≡ answered_on x → (verdict causes ≡ answered tt) × (a ≡ x)
accepted-only s causes a x h = let r = accepted-on s causes (answered_on a) x h in (passed causes r.0, same-answer-on r.1)

pub told : {A : Type 0} (causes : List Cause) (a x : A) → answered x ≡ judged causes a → NoneHolds causes × (x ≡ a)
told causes a x h = let r = answered-only causes (answered a) x (sym h) in (r.0, sym (same_answer r.1))

-- a refusal of what would be answered is one by the causes
pub turned : {A : Type 0} (causes : List Cause) (a : A) (f : Fault) → refused f ≡ judged causes a → verdict causes ≡ refused f
unfolding judge
turned [] a f h = absurd (not-answered h)
turned (k when true ∷ causes) a f h = ap refused (sym (same-fault h))
turned (k when false ∷ causes) a f h = turned causes a f h

pub refused-first : (first later : List Cause) (f : Fault) → verdict first ≡ refused f → verdict (first ++ later) ≡ refused f
refused-first first later f h = judged-parts refused first later (answered tt) ∙ sym (turned-back refused (verdict later) first f h)

pub passed_first : (first later : List Cause) → verdict first ≡ answered tt → verdict (first ++ later) ≡ verdict later
passed_first first later h = judged-parts refused first later (answered tt) ∙ sym (accepted refused (verdict later) first (none first h))

-- ---- by the verdict v that a function gave on them
module _ (causes : List Cause) (v : Result Done Refusal) (says : said_by v ≡ verdict causes) where
  pub none-holds : v ≡ Ok tt → NoneHolds causes
  none-holds e = none causes (sym says ∙ ap said_by e)

  pub when-passed : {X : Type 0} (refuse : Fault → X) (x : X) → v ≡ Ok tt → x ≡ judge refuse causes x
  when-passed refuse x e = accepted refuse x causes (none-holds e)

  pub when-refused : {X : Type 0} (refuse : Fault → X) (x : X) (r : Refusal) → v ≡ Err r → refuse (fault_of r) ≡ judge refuse causes x
  when-refused refuse x r e = turned-back refuse x causes (fault_of r) (sym says ∙ ap said_by e)

-- ---- what the calls on a model's state judge, where nothing refuses them: its bound b, whether it may be used, its length n
module _ (b : ErrorBound) (usable : Bool) (n : ℕ) where
  pub steps : (later : List Cause) → NoneHolds (step_causes b usable n later) → (usable ≡ true) × (n ≡ most_values → ⊥) × NoneHolds later
  steps later none = (not-false usable none.1.0, eqb-false n most_values none.1.1.0, none.1.1.1)

  pub has-model : NoneHolds (model_causes b usable n) → (usable ≡ true) × (n ≡ 0 → ⊥)
  has-model none = (not-false usable none.1.0, eqb-false n 0 none.1.1.0)

  pub has-cost : (m : ℕ) → NoneHolds (cost_causes b usable n m) → (usable ≡ true) × (n ≡ 0 → ⊥) × (m ≤ most_metadata)
  has-cost m none =
      let size = not-false (leb 1 m && leb m most_metadata) none.1.1.0 in
      (not-false usable none.1.0, eqb-false n 0 none.1.1.1.0, leb-true m most_metadata (and_right (leb 1 m) (leb m most_metadata) size))

-- ---- what a state has, and has after a step that nothing refuses, it has after the call
module _ {S : Type 0} (P : S → Type 0) where
  pub after-judging : (s : S) (causes : List Cause) (step : Stepped S) → P s → (NoneHolds causes → P step.state) → P (state_after (judged_on s causes step))
  unfolding judge
  after-judging s [] step p k = k tt
  after-judging s (n when true ∷ causes) step p k = p
  after-judging s (n when false ∷ causes) step p k = after-judging s causes step p (λ h. k (refl, h))

  -- a step that goes by a test
  pub after_test : (test : Bool) (x y : Stepped S) → (test ≡ true → P x.state) → (test ≡ false → P y.state) → P (cond test x y).state
  after_test test x y p q = by-test (λ (t : Stepped S). P t.state) test x y p q
