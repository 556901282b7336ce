-- The model that is chosen stands for at least one value, Swing's for at least two, and for no more than were handed in. Assumes nothing.
use mathlib.Core.Path.{◌≡◌}
use mathlib.Core.Bool.{true, not, ◌&&◌}
use mathlib.Core.List.{List}
use Prim.Native.Nat.{ℕ, ◌≤◌}
use lib.ListN.{length}
use Rattle.models.specs.Answers.{answered_on}
use Rattle.models.specs.declared.ErrorBound.{ErrorBound}
use Rattle.models.proofs.Judged.{accepted-on, same-answer-on}
use Rattle.models.proofs.Tests.{and_left, by-test, never}
use Rattle.swing.specs.Run.{Given}
use Rattle.types.specs.Builder.{fresh}
use Rattle.types.specs.Choice.{pmc_model, swing_model, swing_wins, end_lost, chosen, choice_of}
use Rattle.types.specs.Calls.{finish_causes, finish_answer}
use Rattle.types.specs.Run.{run}
use Rattle.types.specs.declared.ModelBuilder.{ModelBuilder}
use Rattle.types.specs.declared.SelectedModel.{SelectedModel}
use Rattle.types.proofs.Rooms.{finish-has}
use Rattle.types.proofs.TwoValues.{wins-with-two}
use Rattle.types.proofs.Parts.{run-lengths}

-- what both models have, the chosen one has
pub choice-has : (P : SelectedModel → Type 0) (b : ModelBuilder) (m : ℕ) → P (pmc_model b.pmc_mean m) → P (swing_model b.swing m) → P (choice_of b m)
unfolding choice_of chosen
choice-has P b m p s =
    by-test P (swing_wins m b.pmc_mean.length b.swing.length && not (end_lost (swing_model b.swing m))) _ _ (λ e. s) (λ e. p)

-- an accepted finish: no model of length 0 is chosen
pub finish-length : (b : ModelBuilder) (m : ℕ) (x : SelectedModel) → finish_answer b m ≡ answered_on x → 1 ≤ x.length
unfolding finish_answer pmc_model swing_model
finish-length b m x h =
    let a = accepted-on b (finish_causes b m) (answered_on (choice_of b m)) x h in
    let c = finish-has b m a.0 in
    rw (same-answer-on a.1) at (choice-has (λ (t : SelectedModel). 1 ≤ t.length) b m c.0 c.2)

-- and Swing is never chosen with one value
abbrev TwoIfSwing : SelectedModel → Type 0
TwoIfSwing t = t.model_type_id ≡ 1 → 2 ≤ t.length

pub finish-swing : (b : ModelBuilder) (m : ℕ) (x : SelectedModel) → finish_answer b m ≡ answered_on x → x.model_type_id ≡ 1 → 2 ≤ x.length
unfolding finish_answer choice_of chosen pmc_model swing_model
finish-swing b m x h =
    let a = accepted-on b (finish_causes b m) (answered_on (choice_of b m)) x h in
    let c = finish-has b m a.0 in
    let l = b.swing.length in
    let wins = swing_wins m b.pmc_mean.length l in
    let swing = swing_model b.swing m in
    let two : wins ≡ true → TwoIfSwing swing = λ w i. wins-with-two m b.pmc_mean.length l c.0 w in
    rw (same-answer-on a.1) at (by-test TwoIfSwing (wins && not (end_lost swing)) swing (pmc_model b.pmc_mean m) (λ e. two (and_left _ _ e)) (λ e i. absurd (never i)))

-- in a run from fresh
pub choice-length : (bound : ErrorBound) (given : List Given) (m : ℕ) → (choice_of (run (fresh bound) given) m).length ≤ length given
unfolding pmc_model swing_model
choice-length bound given m =
    let l = run-lengths bound given in
    choice-has (λ (t : SelectedModel). t.length ≤ length given) (run (fresh bound) given) m l.0 l.1
