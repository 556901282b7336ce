-- `Swing::model` meets its contract: refused by the first cause that holds. Assumes nothing.
use Rattle.models.specs.Answers.{refusing}
use Rattle.models.proofs.Judged.{when-refused}
use Rattle.swing.specs.Calls.{model_causes, model_answer}
use Rattle.swing.proofs.Swing.model.Goals as goal

pub returns-in-Err : goal.returns-in-Err
unfolding model_answer
returns-in-Err c =
    when-refused (model_causes c.args.self) _ (rw c.usable.ensures at c.judge_model.ensures) (refusing c.args.self) _ _ c.in-Err.is
