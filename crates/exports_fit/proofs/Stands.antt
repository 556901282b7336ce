-- A row that a call on a model left stands for the state that the call handed out, whatever words it held before: so the next call on the row goes on where
-- the last one ended, and the row after any list of steps stands for the state after these steps. Assumes nothing.
use mathlib.Core.Path.{◌≡◌, refl}
use mathlib.Core.Bool.{true}
use mathlib.Core.List.{List, foldl}
use Prim.Native.Nat.{ℕ, ◌≤◌}
use borrow.Author.Tests.{not-false}
use lib.ListN.{length}
use lib.Ieee.{binary32, of_bits}
use lib.Ieee.Bits.{of_bits-fits}
use Rattle.models.specs.declared.Stepped.{Stepped}
use Rattle.models.specs.Answers.{NoneHolds}
use Rattle.models.specs.Bound.{bound_allowed}
use Rattle.lines.specs.Line.{point_of}
use Rattle.lines.proofs.Exact.{time-fits}
use Rattle.pmc_mean.specs.State as Pmc
use Rattle.pmc_mean.specs.Calls as OfPmc
use Rattle.pmc_mean.specs.Run as PmcRun
use Rattle.pmc_mean.specs.declared.PMCMean.{PMCMean}
use Rattle.swing.specs.State as SwingState
use Rattle.swing.specs.Step as SwingStep
use Rattle.swing.specs.Calls as OfSwing
use Rattle.swing.specs.Run as SwingRun
use Rattle.swing.specs.Run.{Given}
use Rattle.swing.specs.declared.Swing.{Swing}
use Rattle.swing.proofs.Allowed.{follows-allowed}
use Rattle.exports.specs.Face.{bound_of, row_after}
use Rattle.exports.proofs.Back.{bound-of-held}
use Rattle.exports.proofs.Stands.{StateRow, new-stands, step-stands, rows-stand}
use Rattle.exports_fit.specs.Row.{pmc_length, pmc_row, pmc_in, pmc_fresh, pmc_step_row, pmc_after, swing_length, swing_row, swing_in, swing_fresh, swing_step_row, swing_after}
use Rattle.exports_fit.proofs.Back.{PmcHeld, pmc-back, SwingHeld, swing-back}
use Rattle.exports_fit.proofs.Held.{pmc-fresh, pmc-in, pmc-tried, swing-fresh, swing-in, swing-tried}

-- ---- the two rows
pub pmc-long : (t : Stepped PMCMean) → length (pmc_step_row t) ≡ pmc_length
unfolding pmc_row
pmc-long t = refl

pub swing-long : (t : Stepped Swing) → length (swing_step_row t) ≡ swing_length
unfolding swing_row
swing-long t = refl

abbrev pub pmc_state_row : StateRow PMCMean
pmc_state_row =
    record {
      size = pmc_length;
      words = pmc_step_row;
      read = pmc_in;
      Formed = PmcHeld;
      long = pmc-long;
      back = λ t rest ok. pmc-back t.state t.fits rest ok;
      formed = pmc-in;
    }

abbrev pub swing_state_row : StateRow Swing
swing_state_row =
    record {
      size = swing_length;
      words = swing_step_row;
      read = swing_in;
      Formed = SwingHeld;
      long = swing-long;
      back = λ t rest ok. swing-back t.state t.fits rest ok;
      formed = swing-in;
    }

-- ---- after the call that hands out a fresh state
pub pmc-new-stands : (kind bound : ℕ) (row : List ℕ) → bound_allowed (bound_of kind bound) ≡ true → pmc_length ≤ length row
    → pmc_in (row_after pmc_length pmc_fresh row (OfPmc.new_answer (bound_of kind bound))) ≡ Pmc.fresh (bound_of kind bound)
unfolding OfPmc.new_answer
pmc-new-stands kind bound row allowed room =
    let b = bound_of kind bound in
    new-stands pmc_state_row row room b (Pmc.fresh b) allowed (pmc-fresh b (bound-of-held kind bound))

pub swing-new-stands : (kind bound : ℕ) (row : List ℕ) → bound_allowed (bound_of kind bound) ≡ true → swing_length ≤ length row
    → swing_in (row_after swing_length swing_fresh row (OfSwing.new_answer (bound_of kind bound))) ≡ SwingState.fresh (bound_of kind bound)
unfolding OfSwing.new_answer
swing-new-stands kind bound row allowed room =
    let b = bound_of kind bound in
    new-stands swing_state_row row room b (SwingState.fresh b) allowed (swing-fresh b (bound-of-held kind bound))

-- ---- after steps
abbrev pmc_tried : PMCMean → ℕ → Stepped PMCMean
pmc_tried s value = Pmc.tried s (of_bits binary32 value)

abbrev swing_tried : Swing → Given → Stepped Swing
swing_tried s g = SwingStep.tried s (point_of g.time g.bits)

pmc-keeps : (s : PMCMean) (value : ℕ) → PmcHeld s → NoneHolds (OfPmc.fit_causes s) → PmcHeld (pmc_tried s value).state
pmc-keeps s value ok none = pmc-tried s (of_bits binary32 value) ok (of_bits-fits binary32 value)

swing-keeps : (s : Swing) (g : Given) → SwingHeld s → NoneHolds (OfSwing.fit_causes s g.time) → SwingHeld (swing_tried s g).state
swing-keeps s g ok none =
    swing-tried s (point_of g.time g.bits) ok (time-fits g.time (follows-allowed s g.time (not-false _ none.1.1.1.0))) (of_bits-fits binary32 g.bits)

pub pmc-step-stands : (row : List ℕ) (value : ℕ) → pmc_in (pmc_after row value) ≡ PmcRun.next (pmc_in row) value
unfolding OfPmc.fit_answer
pmc-step-stands = step-stands pmc_state_row (λ s value. OfPmc.fit_causes s) pmc_tried pmc-keeps

pub swing-step-stands : (row : List ℕ) (g : Given) → swing_in (swing_after row g) ≡ SwingRun.next (swing_in row) g
unfolding OfSwing.fit_answer
swing-step-stands = step-stands swing_state_row (λ s g. OfSwing.fit_causes s g.time) swing_tried swing-keeps

pub pmc-rows-stand : (row values : List ℕ) → pmc_in (foldl pmc_after row values) ≡ PmcRun.run (pmc_in row) values
unfolding OfPmc.fit_answer
pmc-rows-stand = rows-stand pmc_state_row (λ s value. OfPmc.fit_causes s) pmc_tried pmc-keeps

pub swing-rows-stand : (row : List ℕ) (given : List Given) → swing_in (foldl swing_after row given) ≡ SwingRun.run (swing_in row) given
unfolding OfSwing.fit_answer
swing-rows-stand = rows-stand swing_state_row (λ s g. OfSwing.fit_causes s g.time) swing_tried swing-keeps
