-- The two models that are fitted side by side: when a step may be made, and the step.
use Rattle.std.specs.Prelude.{Bool, true, cond, not, ◌&&◌, ◌||◌, eqb, ℤ, Float}
use Rattle.models.specs.declared.Stepped.{Stepped}
use Rattle.models.specs.Bound.{bound_allowed}
use Rattle.models.specs.Limits.{most_values}
use Rattle.models.specs.declared.ErrorBound.{ErrorBound}
use Rattle.lines.specs.Times.{time_allowed}
use Rattle.lines.specs.declared.Point.{Point}
use Rattle.pmc_mean.specs.State as Pmc
use Rattle.pmc_mean.specs.declared.PMCMean.{PMCMean}
use Rattle.swing.specs.State as SwingState
use Rattle.swing.specs.Step as SwingStep
use Rattle.swing.specs.declared.Swing.{Swing}
use Rattle.types.specs.declared.ModelBuilder.{ModelBuilder}

-- before any value: neither model has failed
unfoldable pub fresh : ErrorBound → ModelBuilder
fresh b =
    record {
      pmc_mean = Pmc.fresh b;
      pmc_mean_could_fit_all = true;
      swing = SwingState.fresh b;
      swing_could_fit_all = true;
    }

-- a model that has failed judges nothing: "its state, length and time cause no refusal of a step"
infix 68 ◌unless-failed◌
abbrev pub ◌unless-failed◌ : Bool → Bool → Bool
ok unless-failed live = not live || ok

-- ---- may a step be made
unfoldable pub bounds_allowed : ModelBuilder → Bool
bounds_allowed b =
    bound_allowed b.pmc_mean.error_bound unless-failed b.pmc_mean_could_fit_all
    && bound_allowed b.swing.error_bound unless-failed b.swing_could_fit_all

unfoldable pub states_allowed : ModelBuilder → Bool
states_allowed b =
    Pmc.usable b.pmc_mean unless-failed b.pmc_mean_could_fit_all
    && SwingState.usable b.swing unless-failed b.swing_could_fit_all

-- "a step on a state of length 65,536 is refused with 3"
unfoldable pub room_left : ModelBuilder → Bool
room_left b =
    not (eqb b.pmc_mean.length most_values) unless-failed b.pmc_mean_could_fit_all
    && not (eqb b.swing.length most_values) unless-failed b.swing_could_fit_all

-- "the given timestamp's own limits are still judged"
unfoldable pub time_fits : ModelBuilder → ℤ → Bool
time_fits b t = time_allowed t && SwingState.time_follows b.swing t unless-failed b.swing_could_fit_all

-- ---- the step: "after a model's first failure it is not tried again", and keeps its state
unfoldable pub with_pmc : ModelBuilder → PMCMean → Bool → ModelBuilder
with_pmc b s fits =
    record {
      pmc_mean = s;
      pmc_mean_could_fit_all = fits;
      swing = b.swing;
      swing_could_fit_all = b.swing_could_fit_all;
    }

unfoldable pub with_swing : ModelBuilder → Swing → Bool → ModelBuilder
with_swing b s fits =
    record {
      pmc_mean = b.pmc_mean;
      pmc_mean_could_fit_all = b.pmc_mean_could_fit_all;
      swing = s;
      swing_could_fit_all = fits;
    }

abbrev pub pmc_step : ModelBuilder → Float → Stepped PMCMean
pmc_step b value = Pmc.tried b.pmc_mean value

abbrev pub swing_step : ModelBuilder → Point → Stepped Swing
swing_step b p = SwingStep.tried b.swing p

unfoldable pub update_pmc : ModelBuilder → Float → ModelBuilder
update_pmc b value =
    cond b.pmc_mean_could_fit_all
    (with_pmc b (pmc_step b value).state (pmc_step b value).fits)
    b

unfoldable pub update_swing : ModelBuilder → Point → ModelBuilder
update_swing b p =
    cond b.swing_could_fit_all
    (with_swing b (swing_step b p).state (swing_step b p).fits)
    b

-- a point's value is the same number in both formats
unfoldable pub updated : ModelBuilder → Point → ModelBuilder
updated b p = update_swing (update_pmc b p.value) p

-- whether some model stands for all values so far
abbrev pub could_fit : ModelBuilder → Bool
could_fit b = b.pmc_mean_could_fit_all || b.swing_could_fit_all

abbrev pub answered_by : ModelBuilder → Stepped ModelBuilder
answered_by b = record { fits = could_fit b; state = b }
