-- `exports_choice::modelardb_model_builder_try_to_update_models` meets its contract, by what the call behind it said. Assumes nothing.
use mathlib.Core.Path.{◌≡◌, sym, ap, ◌∙◌}
use lib.ListN.{length}
use mir.Syntax.{w64}
use mir.ValLaws.{to_z-of_z}
use Rattle.models.specs.Answers.{stateless}
use Rattle.models.specs.Calls.{said_on}
use Rattle.types.specs.Calls.{update_answer}
use Rattle.types.specs.declared.ModelBuilder.{ModelBuilder}
use Rattle.exports.proofs.Rows.{step-said, refused-row}
use Rattle.exports_fit.proofs.Answers.{put-answered}
use Rattle.exports_choice.specs.Row.{builder_length, builder_in, builder_step}
use Rattle.exports_choice.proofs.Short.{update-roomy}
use Rattle.exports_choice.proofs.Stands.{builder_state_row}
use Rattle.exports_choice.proofs.modelardb_model_builder_try_to_update_models.Goals as goal
use Rattle.exports_choice.proofs.modelardb_model_builder_try_to_update_models.Goals.{After-try_to_update_models}

-- what the call behind says, of the builder that the row stands for
said : (c : After-try_to_update_models) → update_answer (builder_in c.args.state.now) c.args.timestamp c.args.value ≡ said_on c.try_to_update_models.result
said c = ap (λ (b : ModelBuilder). update_answer b c.args.timestamp c.args.value) (sym c.builder_in.ensures) ∙ sym (rw (to_z-of_z w64 c.args.timestamp c.ranges.timestamp) at c.try_to_update_models.ensures)

pub returns-in-Err : goal.returns-in-Err
returns-in-Err c =
    let a = c.args in
    let e = ap stateless (said (goal.at.returns-in-Err c).After-try_to_update_models ∙ ap said_on c.in-Err.is) in
    let both = step-said builder_length builder_step a.state.now (update_answer (builder_in a.state.now) a.timestamp a.value) (update-roomy a.state.now a.timestamp a.value) (refused-row builder_step builder_length a.state.now _ _ e c.fault_with.ensures) in
    record { fault = both.0; row = both.1 }

pub returns-in-Ok : goal.returns-in-Ok
returns-in-Ok c =
    let a = c.args in
    let e = ap stateless (said (goal.at.returns-in-Ok c).After-try_to_update_models ∙ ap said_on c.in-Ok.is) in
    let size = ap length c.builder_words.ensures ∙ builder_state_row.long c.in-Ok.step in
    let both = step-said builder_length builder_step a.state.now (update_answer (builder_in a.state.now) a.timestamp a.value) (update-roomy a.state.now a.timestamp a.value) (put-answered builder_step builder_length a.state.now _ _ _ size c.builder_words.ensures e c.put_words.ensures.fault c.put_words.ensures.row) in
    record { fault = both.0; row = both.1 }
