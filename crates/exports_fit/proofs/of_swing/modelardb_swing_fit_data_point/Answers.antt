-- `exports_fit::modelardb_swing_fit_data_point` meets its contract, by what the call behind it said. Assumes nothing.
use mathlib.Core.Path.{◌≡◌, sym, ap, ◌∙◌}
use lib.ListN.{length}
use mir.Syntax.{w64}
use mir.ValLaws.{to_z-of_z}
use Rattle.models.specs.Answers.{stateless}
use Rattle.models.specs.Calls.{said_on}
use Rattle.swing.specs.Calls.{fit_answer}
use Rattle.swing.specs.declared.Swing.{Swing}
use Rattle.exports.proofs.Rows.{step-said, refused-row}
use Rattle.exports_fit.specs.Row.{swing_length, swing_in, swing_step_row}
use Rattle.exports_fit.proofs.Answers.{put-answered}
use Rattle.exports_fit.proofs.Short.{swing-step-roomy}
use Rattle.exports_fit.proofs.Stands.{swing_state_row}
use Rattle.exports_fit.proofs.of_swing.modelardb_swing_fit_data_point.Goals as goal
use Rattle.exports_fit.proofs.of_swing.modelardb_swing_fit_data_point.Goals.{After-fit_data_point}

-- what the call behind says, of the state that the row stands for
said : (c : After-fit_data_point) → fit_answer (swing_in c.args.state.now) c.args.timestamp c.args.value ≡ said_on c.fit_data_point.result
said c = ap (λ (s : Swing). fit_answer s c.args.timestamp c.args.value) (sym c.swing_in.ensures) ∙ sym (rw (to_z-of_z w64 c.args.timestamp c.ranges.timestamp) at c.fit_data_point.ensures)

pub returns-in-Err : goal.returns-in-Err
returns-in-Err c =
    let a = c.args in
    let e = ap stateless (said (goal.at.returns-in-Err c).After-fit_data_point ∙ ap said_on c.in-Err.is) in
    let both = step-said swing_length swing_step_row a.state.now (fit_answer (swing_in a.state.now) a.timestamp a.value) (swing-step-roomy a.state.now a.timestamp a.value) (refused-row swing_step_row swing_length a.state.now _ _ e c.fault_with.ensures) in
    record { fault = both.0; row = both.1 }

pub returns-in-Ok : goal.returns-in-Ok
returns-in-Ok c =
    let a = c.args in
    let e = ap stateless (said (goal.at.returns-in-Ok c).After-fit_data_point ∙ ap said_on c.in-Ok.is) in
    let size = ap length c.swing_words.ensures ∙ swing_state_row.long c.in-Ok.step in
    let both = step-said swing_length swing_step_row a.state.now (fit_answer (swing_in a.state.now) a.timestamp a.value) (swing-step-roomy a.state.now a.timestamp a.value) (put-answered swing_step_row swing_length a.state.now _ _ _ size c.swing_words.ensures e c.put_words.ensures.fault c.put_words.ensures.row) in
    record { fault = both.0; row = both.1 }
