-- `ModelBuilder::finish` meets its contract: refused by the first cause that holds. Assumes nothing.
use Rattle.models.specs.Answers.{refusing}
use Rattle.models.proofs.Judged.{when-refused}
use Rattle.types.specs.Calls.{finish_answer}
use Rattle.types.proofs.ModelBuilder.finish.Goals as goal

pub returns-in-Err : goal.returns-in-Err
unfolding finish_answer
returns-in-Err c = when-refused _ _ c.judge_finish.ensures (refusing c.args.self) _ _ c.in-Err.is
