-- `segment_grid::grid` meets its contract: a cause that holds refuses it, and leaves the output. Assumes nothing.
use mathlib.Core.Path.{sym, ap, ◌∙◌}
use lib.ListN.{length}
use Rattle.std.proofs.lemmas.Result.{err_from_is_err_and}
use Rattle.models.specs.Answers.{Said, refused, judged, keeping}
use Rattle.models.specs.Calls.{said_by}
use Rattle.models.proofs.Judged.{turned, turned-back}
use Rattle.parameters.specs.Forms.{Ends}
use Rattle.segment_grid.specs.Segment.{given}
use Rattle.segment_grid.specs.Calls.{grid_causes, grid_answer, grid_memory}
use Rattle.segment_grid.proofs.grid.Goals as goal

pub returns-in_err-first : goal.returns-in_err-first
unfolding grid_answer grid_memory
returns-in_err-first c =
    let a = c.args in
    let e = err_from_is_err_and c.from_residual.result c.from_residual.ensures.1 in
    let says = c.judge.ensures ∙ ap (λ (s : Said Ends). judged (grid_causes a.model a.timestamps.now s a.residuals.now (length a.out.now)) (given s)) c.ends_in-ends.ensures in
    let v = turned _ _ _ (sym (ap said_by c.in_err-first.was) ∙ says) in
    record { answer = rw (e.1, e.2) (turned-back refused _ _ _ v); output = turned-back (keeping a.out.now) _ _ _ v }
