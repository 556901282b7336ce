-- `exports_fit::modelardb_swing_bytes_per_value` meets its contract, by what the call behind it said. Assumes nothing.
use mathlib.Core.Path.{ap, ◌∙◌}
use Rattle.models.specs.Answers.{stateless}
use Rattle.swing.specs.Calls.{cost_answer}
use Rattle.swing.specs.declared.Swing.{Swing}
use Rattle.exports.specs.Face.{one_word, word_of32}
use Rattle.exports.specs.Inner.Put.{worded}
use Rattle.exports.proofs.Rows.{alike}
use Rattle.exports_fit.proofs.of_swing.modelardb_swing_bytes_per_value.Goals as goal

pub returns : goal.returns
returns c =
    let a = c.args in
    let said = c.bytes_per_value-answer.ensures ∙ ap (λ (s : Swing). cost_answer s a.m) c.swing_in.ensures in
    let cost = c.stateless.ensures ∙ ap stateless said in
    let both = alike word_of32 one_word 1 a.out.now _ _ (c.pattern_in.ensures ∙ ap (worded word_of32) cost) (c.put_value.ensures.fault, c.put_value.ensures.row) in
    record { fault = both.0; row = both.1 }
