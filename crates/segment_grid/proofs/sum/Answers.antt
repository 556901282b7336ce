-- `segment_grid::sum` meets its contract: with room for all timestamps, 4 is never given. Assumes nothing.
use mathlib.Core.Path.{sym, ap, ◌∙◌}
use Rattle.std.proofs.lemmas.Result.{err_from_is_err_and}
use Rattle.models.specs.Answers.{answered, refused}
use Rattle.models.specs.Calls.{said_by}
use Rattle.models.proofs.Judged.{turned, turned-back}
use Rattle.segment_grid.specs.Segment.{given}
use Rattle.segment_grid.specs.Calls.{sum_answer}
use Rattle.segment_grid.proofs.Owned.{no-room-asked}
use Rattle.segment_grid.proofs.sum.Goals as goal

pub returns-in_err-first : goal.returns-in_err-first
unfolding sum_answer
returns-in_err-first c =
    let a = c.args in
    let e = err_from_is_err_and c.from_residual.result c.from_residual.ensures.1 in
    let says = c.judge.ensures ∙ no-room-asked a.model a.timestamps.now (said_by a.ends) a.residuals.now refused (answered (given (said_by a.ends))) in
    rw (e.1, e.2) (turned-back refused _ _ _ (turned _ _ _ (sym (ap said_by c.in_err-first.was) ∙ says)))
