-- `macaque_v::MacaqueV::reopen` meets its contract: refused by the first cause that holds, else by the stream, else reopened. Assumes nothing.
use mathlib.Core.Path.{◌∙◌}
use borrow.Author.Tests.{ltb-false}
use lib.Dec.{ltb}
use lib.ListN.{length}
use Rattle.models.specs.Answers.{refused, keeping}
use Rattle.models.specs.Limits.{most_values}
use Rattle.models.proofs.Judged.{none-holds, when-passed, when-refused}
use Rattle.models.proofs.Tests.{neither}
use Rattle.macaque_v.proofs.Passing.{passed-on}
use Rattle.macaque_v.specs.Read.{reopen_causes, reopen_answer, reopen_memory}
use Rattle.macaque_v.proofs.MacaqueV.reopen.Goals as goal

pub resume-requires : goal.resume-requires
resume-requires c =
    let a = c.args in
    let none = none-holds (reopen_causes a.error_bound (length a.buffer.now) a.used a.count a.k) _ c.judge_reopen.ensures c.in_ok-judge_reopen.was in
    let both = neither (ltb a.count a.k) (ltb (length a.buffer.now) a.used) none.1.1.0 in
    (ltb-false a.count a.k both.0, ltb-false most_values a.count none.1.0, ltb-false (length a.buffer.now) a.used both.1)

pub returns-in_err-judge_reopen-clause-answer : goal.returns-in_err-judge_reopen-clause-answer
unfolding reopen_answer
returns-in_err-judge_reopen-clause-answer c = rw (passed-on c.from_residual.result c.from_residual.ensures.1) (when-refused _ _ c.judge_reopen.ensures refused _ _ c.in_err-judge_reopen.was)

pub returns-in_err-judge_reopen-clause-bytes : goal.returns-in_err-judge_reopen-clause-bytes
unfolding reopen_memory
returns-in_err-judge_reopen-clause-bytes c = when-refused _ _ c.judge_reopen.ensures (keeping c.args.buffer.now) _ _ c.in_err-judge_reopen.was

pub returns : goal.returns
unfolding reopen_answer reopen_memory
returns c =
    let a = c.args in
    let causes = reopen_causes a.error_bound (length a.buffer.now) a.used a.count a.k in
    let says = c.judge_reopen.ensures in
    let ok = c.in_ok-judge_reopen.was in record { answer = c.resume.ensures.answer ∙ when-passed causes _ says refused _ ok; bytes = c.resume.ensures.bytes ∙ when-passed causes _ says (keeping a.buffer.now) _ ok }
