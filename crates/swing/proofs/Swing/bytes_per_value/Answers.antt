-- `Swing::bytes_per_value` meets its contract: refused by the first cause that holds. Assumes nothing.
use Rattle.models.specs.Answers.{refusing}
use Rattle.models.proofs.Judged.{when-refused}
use Rattle.swing.specs.Calls.{cost_causes, cost_answer}
use Rattle.swing.proofs.Swing.bytes_per_value.Goals as goal

pub returns-in-Err : goal.returns-in-Err
unfolding cost_answer
returns-in-Err c =
    when-refused (cost_causes c.args.self c.args.m) _ (rw c.usable.ensures at c.judge_cost.ensures) (refusing c.args.self) _ _ c.in-Err.is
