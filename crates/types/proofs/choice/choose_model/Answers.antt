-- `choice::choose_model` meets its contract: refused by the first cause that holds, else the steps and the choice. Assumes nothing.
use mathlib.Core.Path.{◌≡◌, sym, ap, ◌∙◌}
use borrow.Author.Tests.{eqb-true, not-false}
use lib.ListN.{length}
use mathlib.Core.List.{List}
use Prim.Native.Nat.{ℕ}
use lib.IntN.{ℤ}
use Rattle.models.specs.Answers.{refused, answered, NoneHolds}
use Rattle.models.proofs.Judged.{none-holds, accepted, passed, when-passed, when-refused, not-answered, same_answer}
use Rattle.types.specs.Builder.{fresh}
use Rattle.types.specs.Calls.{new_answer, finish_causes}
use Rattle.models.specs.Calls.{said_by}
use Rattle.types.specs.Run.{run, points, choice_causes, choice_answer}
use Rattle.types.specs.declared.ModelBuilder.{ModelBuilder}
use Rattle.models.specs.declared.Refusal.{Refusal}
use Rattle.std.specs.Prelude.{Result, Ok}
use Rattle.std.proofs.lemmas.Result.{err_from_is_err_and}
use Rattle.models.specs.declared.ErrorBound.{ErrorBound}
use Rattle.types.proofs.Accepted.{choice-clear}
use Rattle.types.proofs.choice.choose_model.Goals as goal
use Rattle.types.proofs.choice.choose_model.Goals.{In_ok-judge_choice}

-- past the verdict no cause holds
clear : (c : In_ok-judge_choice) → NoneHolds (choice_causes c.args.timestamps.now c.args.values.now c.args.error_bound c.args.m)
clear c = none-holds _ _ c.judge_choice.ensures c.in_ok-judge_choice.was

-- so the builder is fresh
made : (ts : List ℤ) (values : List ℕ) (b : ErrorBound) (m : ℕ) (r : Result ModelBuilder Refusal) → NoneHolds (choice_causes ts values b m) → said_by r ≡ new_answer b → said_by r ≡ answered (fresh b)
unfolding new_answer
made ts values b m r none e = e ∙ sym (accepted refused _ _ (none.0, tt))

stepped : (ts : List ℤ) (values : List ℕ) (b : ErrorBound) (m : ℕ) (r : Result ModelBuilder Refusal) (s t : ModelBuilder) → NoneHolds (choice_causes ts values b m) → said_by r ≡ new_answer b → r ≡ Ok s → t ≡ run s (points ts values) → t ≡ run (fresh b) (points ts values)
stepped ts values b m r s t none e is ran =
    let same = same_answer (sym (ap said_by is) ∙ made ts values b m r none e) in
    ran ∙ ap (λ (x : ModelBuilder). run x (points ts values)) same

pub stepped-requires : goal.stepped-requires
stepped-requires c =
    let ts = c.args.timestamps.now in
    let vs = c.args.values.now in
    eqb-true (length ts) (length vs) (not-false _ (clear (goal.at.stepped-requires c).In_ok-judge_choice).1.1.0)

pub selected-requires : goal.selected-requires
selected-requires c =
    let a = c.args in
    let none = clear (goal.at.selected-requires c).In_ok-judge_choice in
    let causes = finish_causes (run (fresh a.error_bound) (points a.timestamps.now a.values.now)) a.m in
    rw (stepped a.timestamps.now a.values.now a.error_bound a.m c.new.result _ c.stepped.result none c.new.ensures c.in_ok-b.was c.stepped.ensures)
    (passed causes (choice-clear a.timestamps.now a.values.now a.error_bound a.m none))

pub returns-in_err-judge_choice : goal.returns-in_err-judge_choice
unfolding choice_answer
returns-in_err-judge_choice c =
    let p = err_from_is_err_and c.from_residual.result c.from_residual.ensures.1 in
    rw (p.1, p.2) (when-refused _ _ c.judge_choice.ensures refused _ _ c.in_err-judge_choice.was)

pub returns-in_err-b : goal.returns-in_err-b
returns-in_err-b c =
    let a = c.args in
    let none = clear (goal.at.returns-in_err-b c).In_ok-judge_choice in
    absurd (not-answered (sym (ap said_by c.in_err-b.was) ∙ made a.timestamps.now a.values.now a.error_bound a.m c.new.result none c.new.ensures))

pub returns : goal.returns
unfolding choice_answer
returns c =
    let a = c.args in
    let none = clear (goal.at.returns c).In_ok-judge_choice in
    rw (c.selected.ensures, stepped a.timestamps.now a.values.now a.error_bound a.m c.new.result _ c.stepped.result none c.new.ensures c.in_ok-b.was c.stepped.ensures)
    (when-passed _ _ c.judge_choice.ensures refused _ c.in_ok-judge_choice.was)
