-- The choice by whole numbers (02, W8), of the calls: whatever `finish` and `choose_model` answer is fair. Assumes nothing.
use mathlib.Core.Path.{◌≡◌, subst}
use mathlib.Core.List.{List}
use Prim.Native.Nat.{ℕ}
use lib.IntN.{ℤ}
use Rattle.models.specs.Answers.{answered, answered_on}
use Rattle.models.specs.declared.ErrorBound.{ErrorBound}
use Rattle.models.proofs.Judged.{accepted-on, same-answer-on}
use Rattle.types.specs.Builder.{fresh}
use Rattle.types.specs.Choice.{choice_of}
use Rattle.types.specs.Calls.{finish_causes, finish_answer}
use Rattle.types.specs.Run.{run, points, choice_answer}
use Rattle.types.specs.Fair.{Fair}
use Rattle.types.specs.declared.ModelBuilder.{ModelBuilder}
use Rattle.types.specs.declared.SelectedModel.{SelectedModel}
use Rattle.types.proofs.Accepted.{choice-is-finish}
use Rattle.types.proofs.FairChoice.{fair}

-- ---- of the calls
pub finish-is-fair : (b : ModelBuilder) (m : ℕ) (x : SelectedModel) → finish_answer b m ≡ answered_on x → Fair b m x
unfolding finish_answer
finish-is-fair b m x h =
    let a = accepted-on b (finish_causes b m) (answered_on (choice_of b m)) x h in
    subst (Fair b m) (same-answer-on a.1) (fair b m a.0)

pub choose-model-is-fair : (ts : List ℤ) (values : List ℕ) (b : ErrorBound) (m : ℕ) (x : SelectedModel) → choice_answer ts values b m ≡ answered x → Fair (run (fresh b) (points ts values)) m x
choose-model-is-fair ts values b m x h = finish-is-fair (run (fresh b) (points ts values)) m x (choice-is-finish ts values b m x h)
