-- `Swing::fit_data_point` meets its contract: refused by the first cause that holds. Assumes nothing.
use mathlib.Core.Path.{◌≡◌}
use mir.Syntax.{w64}
use mir.ValLaws.{to_z-of_z}
use Rattle.models.specs.Answers.{refusing}
use Rattle.models.proofs.Judged.{when-refused}
use Rattle.lines.specs.Line.{point_of}
use Rattle.swing.specs.Calls.{fit_causes, fit_answer}
use Rattle.swing.proofs.Swing.fit_data_point.Goals as goal

pub returns-in-Err : goal.returns-in-Err
unfolding fit_answer
returns-in-Err c =
    let a = c.args in
    let point : c.point_of-p.result ≡ point_of a.timestamp a.value = rw (to_z-of_z w64 a.timestamp c.ranges.timestamp) at c.point_of-p.ensures in
    when-refused (fit_causes a.self a.timestamp) _ (rw point at c.judge_fit.ensures) (refusing a.self) _ _ c.in-Err.is
