-- `exports_fit::modelardb_pmc_mean_fit_value` meets its contract, by what the call behind it said. Assumes nothing.
use mathlib.Core.Path.{◌≡◌, sym, ap, ◌∙◌}
use lib.ListN.{length}
use Rattle.models.specs.Answers.{stateless}
use Rattle.models.specs.Calls.{said_on}
use Rattle.pmc_mean.specs.Calls.{fit_answer}
use Rattle.pmc_mean.specs.declared.PMCMean.{PMCMean}
use Rattle.exports.proofs.Rows.{step-said, refused-row}
use Rattle.exports_fit.specs.Row.{pmc_length, pmc_in, pmc_step_row}
use Rattle.exports_fit.proofs.Answers.{put-answered}
use Rattle.exports_fit.proofs.Short.{pmc-step-roomy}
use Rattle.exports_fit.proofs.Stands.{pmc_state_row}
use Rattle.exports_fit.proofs.of_pmc_mean.modelardb_pmc_mean_fit_value.Goals as goal
use Rattle.exports_fit.proofs.of_pmc_mean.modelardb_pmc_mean_fit_value.Goals.{After-fit_value}

-- what the call behind says, of the state that the row stands for
said : (c : After-fit_value) → fit_answer (pmc_in c.args.state.now) c.args.value ≡ said_on c.fit_value.result
said c = ap (λ (s : PMCMean). fit_answer s c.args.value) (sym c.pmc_in.ensures) ∙ sym c.fit_value.ensures

pub returns-in-Err : goal.returns-in-Err
returns-in-Err c =
    let a = c.args in
    let e = ap stateless (said (goal.at.returns-in-Err c).After-fit_value ∙ ap said_on c.in-Err.is) in
    let both = step-said pmc_length pmc_step_row a.state.now (fit_answer (pmc_in a.state.now) a.value) (pmc-step-roomy a.state.now a.value) (refused-row pmc_step_row pmc_length a.state.now _ _ e c.fault_with.ensures) in
    record { fault = both.0; row = both.1 }

pub returns-in-Ok : goal.returns-in-Ok
returns-in-Ok c =
    let a = c.args in
    let e = ap stateless (said (goal.at.returns-in-Ok c).After-fit_value ∙ ap said_on c.in-Ok.is) in
    let size = ap length c.pmc_words.ensures ∙ pmc_state_row.long c.in-Ok.step in
    let both = step-said pmc_length pmc_step_row a.state.now (fit_answer (pmc_in a.state.now) a.value) (pmc-step-roomy a.state.now a.value) (put-answered pmc_step_row pmc_length a.state.now _ _ _ size c.pmc_words.ensures e c.put_words.ensures.fault c.put_words.ensures.row) in
    record { fault = both.0; row = both.1 }
