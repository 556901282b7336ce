-- `exports_fit::modelardb_swing_model` meets its contract, by what the call behind it said. Assumes nothing.
use mathlib.Core.Path.{ap, ◌∙◌}
use Rattle.models.specs.Answers.{SaidOn, stateless}
use Rattle.swing.specs.Calls.{model_answer}
use Rattle.swing.specs.Model.{LineEnds}
use Rattle.swing.specs.declared.Swing.{Swing}
use Rattle.exports.specs.Inner.Put.{worded, pair_row}
use Rattle.exports.proofs.Rows.{alike}
use Rattle.exports_fit.specs.Row.{ends_row}
use Rattle.exports_fit.proofs.Answers.{swing-models}
use Rattle.exports_fit.proofs.of_swing.modelardb_swing_model.Goals as goal

pub returns : goal.returns
returns c =
    let said = c.model.ensures ∙ ap model_answer c.swing_in.ensures in
    let e = ap (worded pair_row) c.stateless.ensures ∙ swing-models c.model.result ∙ ap (λ (q : SaidOn Swing LineEnds). worded ends_row (stateless q)) said in
    let both = alike ends_row pair_row 2 c.args.out.now _ _ e (c.put_ends.ensures.fault, c.put_ends.ensures.row) in
    record { fault = both.0; row = both.1 }
