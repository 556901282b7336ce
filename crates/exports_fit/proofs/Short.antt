-- A row that is too short stands for no state of its model: each call on it is refused with 2, or with 1 where the bound in its first two words is not
-- allowed. Assumes nothing.
use mathlib.Core.Path.{◌≡◌, refl}
use mathlib.Core.Bool.{true}
use mathlib.Core.List.{List}
use Prim.Native.Nat.{ℕ, ◌<◌}
use borrow.Author.Tests.{lt-ltb}
use lib.ListN.{length}
use lib.IntN.{ℤ}
use Rattle.models.specs.Answers.{Said, refused, stateless, Cause, judged_on}
use Rattle.models.specs.Causes.{state_causes}
use Rattle.models.specs.Bound.{bound_allowed}
use Rattle.pmc_mean.specs.State as Pmc
use Rattle.pmc_mean.specs.Calls as OfPmc
use Rattle.swing.specs.State as SwingState
use Rattle.swing.specs.Calls as OfSwing
use Rattle.exports.specs.Face.{no_state}
use Rattle.exports.specs.Words.{bound_front}
use Rattle.exports.proofs.Rows.{no-state, Roomy, roomy}
use Rattle.exports_fit.specs.Row.{pmc_length, no_pmc, pmc_in, swing_length, no_swing, swing_in}

abbrev Turned : {A : Type 0} → List ℕ → Said A → Type 0
Turned row said = said ≡ refused (no_state (bound_allowed (bound_front row)))

-- ---- PMC-Mean
module _ (row : List ℕ) (h : length row < pmc_length) where
  pmc-none : pmc_in row ≡ no_pmc (bound_front row)
  unfolding pmc_in
  pmc-none = rw (lt-ltb (length row) pmc_length h)

  pmc-turned : {A : Type 0} (later : List Cause) (a : A) → Turned row (stateless (judged_on (pmc_in row) (state_causes (pmc_in row).error_bound (Pmc.usable (pmc_in row)) later) a))
  pmc-turned later a = rw pmc-none (no-state (no_pmc (bound_front row)) (bound_allowed (bound_front row)) true later a refl)

  pub pmc-step-short : (value : ℕ) → Turned row (stateless (OfPmc.fit_answer (pmc_in row) value))
  unfolding OfPmc.fit_answer
  pmc-step-short value = pmc-turned _ _

  pub pmc-cost-short : (m : ℕ) → Turned row (stateless (OfPmc.cost_answer (pmc_in row) m))
  unfolding OfPmc.cost_answer
  pmc-cost-short m = pmc-turned _ _

  pub pmc-model-short : Turned row (stateless (OfPmc.model_answer (pmc_in row)))
  unfolding OfPmc.model_answer
  pmc-model-short = pmc-turned _ _

pub pmc-step-roomy : (row : List ℕ) (value : ℕ) → Roomy pmc_length row (stateless (OfPmc.fit_answer (pmc_in row) value))
pmc-step-roomy row value = roomy pmc_length row (stateless (OfPmc.fit_answer (pmc_in row) value)) (bound_allowed (bound_front row)) (λ h. pmc-step-short row h value)

-- ---- Swing
module _ (row : List ℕ) (h : length row < swing_length) where
  swing-none : swing_in row ≡ no_swing (bound_front row)
  unfolding swing_in
  swing-none = rw (lt-ltb (length row) swing_length h)

  swing-turned : {A : Type 0} (later : List Cause) (a : A) → Turned row (stateless (judged_on (swing_in row) (state_causes (swing_in row).error_bound (SwingState.usable (swing_in row)) later) a))
  unfolding SwingState.usable
  swing-turned later a = rw swing-none (no-state (no_swing (bound_front row)) (bound_allowed (bound_front row)) true later a refl)

  pub swing-step-short : (t : ℤ) (value : ℕ) → Turned row (stateless (OfSwing.fit_answer (swing_in row) t value))
  unfolding OfSwing.fit_answer
  swing-step-short t value = swing-turned _ _

  pub swing-cost-short : (m : ℕ) → Turned row (stateless (OfSwing.cost_answer (swing_in row) m))
  unfolding OfSwing.cost_answer
  swing-cost-short m = swing-turned _ _

  pub swing-model-short : Turned row (stateless (OfSwing.model_answer (swing_in row)))
  unfolding OfSwing.model_answer
  swing-model-short = swing-turned _ _

pub swing-step-roomy : (row : List ℕ) (t : ℤ) (value : ℕ) → Roomy swing_length row (stateless (OfSwing.fit_answer (swing_in row) t value))
swing-step-roomy row t value = roomy swing_length row (stateless (OfSwing.fit_answer (swing_in row) t value)) (bound_allowed (bound_front row)) (λ h. swing-step-short row h t value)
