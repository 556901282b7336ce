-- `exports_choice::modelardb_model_builder_new` meets its contract, by what the call behind it said. Assumes nothing.
use mathlib.Core.Path.{◌≡◌, sym, ap, ◌∙◌}
use lib.ListN.{length}
use Rattle.models.specs.Answers.{failing}
use Rattle.models.specs.Calls.{said_by}
use Rattle.types.specs.Calls.{new_answer}
use Rattle.exports.specs.Face.{bound_of}
use Rattle.exports.proofs.Rows.{refused-row}
use Rattle.exports_fit.proofs.Answers.{put-answered}
use Rattle.exports_choice.specs.Row.{builder_length, builder_row}
use Rattle.exports_choice.proofs.Stands.{builder_state_row}
use Rattle.exports_choice.proofs.modelardb_model_builder_new.Goals as goal
use Rattle.exports_choice.proofs.modelardb_model_builder_new.Goals.{After-new}

-- what the call behind says, of the bound that the two words stand for
said : (c : After-new) → new_answer (bound_of c.args.kind c.args.bound) ≡ said_by c.new.result
said c = ap new_answer (sym c.bound_of.ensures) ∙ sym c.new.ensures

pub returns-in-Err : goal.returns-in-Err
returns-in-Err c =
    let both = refused-row builder_row builder_length c.args.state.now _ _ (said (goal.at.returns-in-Err c).After-new ∙ ap said_by c.in-Err.is) c.fault_with.ensures in
    record { fault = both.0; row = both.1 }

pub returns-in-Ok : goal.returns-in-Ok
returns-in-Ok c =
    let both = put-answered builder_row builder_length c.args.state.now _ _ _ (ap length c.builder_words.ensures ∙ builder_state_row.long (failing c.in-Ok.b)) c.builder_words.ensures (said (goal.at.returns-in-Ok c).After-new ∙ ap said_by c.in-Ok.is) c.put_words.ensures.fault c.put_words.ensures.row in
    record { fault = both.0; row = both.1 }
