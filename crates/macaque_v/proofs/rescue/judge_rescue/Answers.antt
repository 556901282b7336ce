-- `macaque_v::rescue::judge_rescue` meets its contract: a reopening at the limit has the same causes. Assumes nothing.
use mathlib.Core.Path.{ap, ◌∙◌}
use Rattle.models.specs.Answers.{verdict}
use Rattle.models.specs.Causes.{bound_causes}
use Rattle.stream.proofs.RescueCalls.{same-causes}
use Rattle.macaque_v.proofs.rescue.judge_rescue.Goals as goal

pub returns : goal.returns
returns c =
    let a = c.args in
    c.judge_reopen.ensures ∙ ap verdict (same-causes (bound_causes a.error_bound) a.room a.used a.limit)
