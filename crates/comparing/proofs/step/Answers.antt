-- `comparing::step` meets its contract: where it is refused, the line is left. Assumes nothing.
use mathlib.Core.Path.{◌≡◌, ap, ap₂, ◌∙◌}
use mathlib.Core.List.{List}
use Prim.Native.Nat.{ℕ}
use lib.ListN.{length}
use Rattle.models.specs.Answers.{refused, verdict}
use Rattle.models.specs.Calls.{said_by}
use Rattle.models.proofs.Judged.{when-refused}
use Rattle.comparing.specs.File.{file_stream}
use Rattle.comparing.specs.Calls.{step_causes, both_turns, step_told, step_left, step_memory}
use Rattle.comparing.proofs.step.Goals as goal

pub returns-in_err-judge_step-clause-text : goal.returns-in_err-judge_step-clause-text
unfolding step_memory step_told
returns-in_err-judge_step-clause-text c =
    let a = c.args in
    let l = file_stream a.left.now in
    let r = file_stream a.right.now in
    let says : said_by c.judge_step.result ≡ verdict (step_causes (length l) (length r) a.at) =
    c.judge_step.ensures ∙ ap₂ (λ (x y : List ℕ). verdict (step_causes (length x) (length y) a.at)) c.stream_in-l.ensures c.stream_in-r.ensures in
    ap (step_left a.line.now) (when-refused _ _ says refused (both_turns l r a.at) c.in_err-judge_step.field-0.0 c.in_err-judge_step.was)
