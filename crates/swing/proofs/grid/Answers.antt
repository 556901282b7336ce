-- `swing::grid` meets its contract: a refusal leaves the output as it was. Assumes nothing.
use mathlib.Core.Path.{◌≡◌}
use mir.Syntax.{w64}
use mir.ValLaws.{to_z-of_z}
use lib.ListN.{length}
use Rattle.models.specs.Answers.{keeping}
use Rattle.models.proofs.Judged.{when-refused}
use Rattle.lines.specs.Line.{point_of}
use Rattle.swing.specs.Grid.{grid_causes, grid_memory}
use Rattle.swing.proofs.grid.Goals as goal

pub returns-in_err-judge_grid-clause-output : goal.returns-in_err-judge_grid-clause-output
unfolding grid_memory
returns-in_err-judge_grid-clause-output c =
    let a = c.args in
    let first : c.point_of-a.result ≡ point_of a.start_time a.first_value = rw (to_z-of_z w64 a.start_time c.ranges.start_time) at c.point_of-a.ensures in
    let last : c.point_of-b.result ≡ point_of a.end_time a.last_value = rw (to_z-of_z w64 a.end_time c.ranges.end_time) at c.point_of-b.ensures in
    when-refused (grid_causes (point_of a.start_time a.first_value) (point_of a.end_time a.last_value) a.timestamps.now (length a.out.now)) _ (rw (first, last) at c.judge_grid.ensures) (keeping a.out.now) _ _ c.in_err-judge_grid.was
