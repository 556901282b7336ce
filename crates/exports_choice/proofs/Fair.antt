-- The choice by whole numbers (02, W8), through rows: where a call's number is 0, the words that it leaves are those of a model that is fair. Assumes nothing.
use mathlib.Core.Path.{◌≡◌, refl}
use mathlib.Core.Bool.{Bool, true, false, cond, ◌||◌}
use mathlib.Core.List.{List}
use Prim.Native.Nat.{ℕ, ◌<◌}
use native.Mathlib.Omega.{arith}
use lib.Dec.{leb}
use lib.IntN.{ℤ}
use lib.ListN.{length}
use Rattle.models.specs.Answers.{fault, Said, answered, refused, SaidOn, answered_on, refused_on, refusing, stateless}
use Rattle.models.proofs.Tests.{never}
use Rattle.types.specs.Builder.{fresh}
use Rattle.types.specs.Choice.{choice_of}
use Rattle.types.specs.Calls.{finish_causes, finish_answer}
use Rattle.types.specs.Run.{run, points, choice_causes, choice_answer}
use Rattle.types.specs.Fair.{Fair}
use Rattle.types.specs.declared.ModelBuilder.{ModelBuilder}
use Rattle.types.specs.declared.SelectedModel.{SelectedModel}
use Rattle.types.proofs.Fair.{finish-is-fair, choose-model-is-fair}
use Rattle.exports.specs.Face.{bound_of, before_short, refusal_fault, fault_said, row_after, ask_fault, ask_row}
use Rattle.exports.proofs.Numbers.{judged-so}
use Rattle.exports_choice.specs.Row.{builder_in, model_length, model_words}
use Rattle.exports_choice.specs.Fair.{FairRow}

-- a refusal has a number above 0
abbrev Numbered : Said SelectedModel → Type 0
Numbered (answered x) = Unit {0}
Numbered (refused f) = 0 < f.number

module _ (b : ModelBuilder) (m : ℕ) (out : List ℕ) where
  through : (q : Said SelectedModel) → Numbered q → ((x : SelectedModel) → q ≡ answered x → Fair b m x)
      → (fault_said model_length (length out) q).number ≡ 0 → FairRow b m out (row_after model_length model_words out q)
  unfolding fault_said refusal_fault row_after model_words
  through (answered x) above fair zero = go (leb model_length (length out)) refl
    where
      go : (t : Bool) → leb model_length (length out) ≡ t → FairRow b m out (row_after model_length model_words out (answered x))
      go true e = (x, fair x refl, rw e)
      go false e = let four : ◌≡◌ {A = ℕ} 4 0 = rw e at zero in absurd (omega (arith, four))
  through (refused f) above fair zero = absurd (told (before_short f.number || leb model_length (length out)) zero)
    where
      told : (t : Bool) → (cond t f (fault 4)).number ≡ 0 → ⊥
      told true z = omega (arith, above, z)
      told false z = omega (arith, z)

-- ---- finish
numbered-on : (b : ModelBuilder) (m : ℕ) → Numbered (stateless (finish_answer b m))
unfolding finish_answer
numbered-on b m =
    judged-so (λ (q : SaidOn ModelBuilder SelectedModel). Numbered (stateless q)) (refusing b) (λ n above. above) (finish_causes b m)
    (omega arith, (omega arith, (omega arith, (omega arith, tt)))) (answered_on (choice_of b m)) tt

of-stateless : {S A : Type 0} (q : SaidOn S A) (x : A) → stateless q ≡ answered x → q ≡ answered_on x
of-stateless (answered_on y) x e = cc
of-stateless (refused_on f s) x e = absurd (never (cc))

pub a-row-is-fair : (row out : List ℕ) (m : ℕ) → (ask_fault model_length (length out) (finish_answer (builder_in row) m)).number ≡ 0
    → FairRow (builder_in row) m out (ask_row model_length model_words out (finish_answer (builder_in row) m))
a-row-is-fair row out m zero =
    let b = builder_in row in
    through b m out (stateless (finish_answer b m)) (numbered-on b m) (λ x e. finish-is-fair b m x (of-stateless (finish_answer b m) x e)) zero

-- ---- choose_model
pub a-list-is-fair : (ts : List ℤ) (values out : List ℕ) (kind bound m : ℕ) → (fault_said model_length (length out) (choice_answer ts values (bound_of kind bound) m)).number ≡ 0
    → FairRow (run (fresh (bound_of kind bound)) (points ts values)) m out (row_after model_length model_words out (choice_answer ts values (bound_of kind bound) m))
unfolding choice_answer
a-list-is-fair ts values out kind bound m zero =
    let e = bound_of kind bound in
    let b = run (fresh e) (points ts values) in
    let above : Numbered (choice_answer ts values e m) =
    judged-so Numbered refused (λ n above. above) (choice_causes ts values e m) (omega arith, (omega arith, (omega arith, (omega arith, (omega arith, tt))))) (answered (choice_of b m)) tt in
    through b m out (choice_answer ts values e m) above (choose-model-is-fair ts values e m) zero
