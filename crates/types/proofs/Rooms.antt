-- What a builder that nothing refuses tells of the models that it tries. Assumes nothing.
use mathlib.Core.Path.{◌≡◌, refl}
use mathlib.Core.Bool.{Bool, true, false, not, ◌&&◌, false≢true}
use Prim.Native.Nat.{ℕ, ◌≤◌}
use native.Mathlib.Omega.{arith}
use borrow.Author.Tests.{leb-true, not-true, not-false}
use lib.Dec.{eqb, leb}
use lib.IntN.{ℤ}
use lib.Ieee.{Float}
use Rattle.models.specs.Limits.{most_values, most_metadata, metadata_allowed}
use Rattle.models.proofs.Tests.{and_left, and_right, not-of, not-parts, neither, by-test}
use Rattle.models.proofs.Judged.{has-cost}
use Rattle.lines.specs.Times.{time_allowed}
use Rattle.swing.specs.State as SwingState
use Rattle.swing.specs.Calls as OfSwing
use Rattle.pmc_mean.specs.State as Pmc
use Rattle.pmc_mean.specs.Calls as OfPmc
use Rattle.swing.proofs.Allowed.{length-limit}
use Rattle.models.specs.Answers.{NoneHolds}
use Rattle.models.specs.Bound.{bound_allowed}
use Rattle.types.specs.Builder.{◌unless-failed◌, bounds_allowed, states_allowed, room_left, time_fits, with_pmc, update_pmc}
use Rattle.types.specs.Calls.{update_causes, finish_causes}
use Rattle.types.specs.declared.ModelBuilder.{ModelBuilder}

pub live-judges : (ok live : Bool) → (ok unless-failed live) ≡ true → live ≡ true → ok ≡ true
live-judges ok true h l = h
live-judges ok false h l = absurd (false≢true l)

-- where nothing refuses the step of a builder, nothing refuses that of a model that has not failed
module _ (b : ModelBuilder) (t : ℤ) (none : NoneHolds (update_causes b t)) where
  abbrev pmc : Bool
  pmc = b.pmc_mean_could_fit_all

  abbrev swing : Bool
  swing = b.swing_could_fit_all

  -- of two tests, one for each model, that one
  first : (p s : Bool) → not (p unless-failed pmc && s unless-failed swing) ≡ false → pmc ≡ true → not p ≡ false
  first p s h live = not-of (live-judges p pmc (and_left _ (s unless-failed swing) (not-false _ h)) live)

  last : (p s : Bool) → not (p unless-failed pmc && s unless-failed swing) ≡ false → swing ≡ true → not s ≡ false
  last p s h live = not-of (live-judges s swing (and_right (p unless-failed pmc) _ (not-false _ h)) live)

  pub pmc-clears : pmc ≡ true → NoneHolds (OfPmc.fit_causes b.pmc_mean)
  unfolding bounds_allowed states_allowed room_left
  pmc-clears live = (first _ _ none.0 live, (first _ _ none.1.0 live, (not-true _ (not-false _ (first _ _ none.1.1.0 live)), tt)))

  pub swing-clears : swing ≡ true → NoneHolds (OfSwing.fit_causes b.swing t)
  unfolding bounds_allowed states_allowed room_left time_fits
  swing-clears live = (
    last _ _ none.0 live,
    (last _ _ none.1.0 live, (not-true _ (not-false _ (last _ _ none.1.1.0 live)), (not-of (live-judges _ swing (and_right (time_allowed t) _ (not-false _ none.1.1.1.0)) live), tt))),
  )

-- what nothing refuses to finish, nothing refuses the cost of either model
pub finish-clears : (b : ModelBuilder) (m : ℕ) → NoneHolds (finish_causes b m) → NoneHolds (OfPmc.cost_causes b.pmc_mean m) × NoneHolds (OfSwing.cost_causes b.swing m)
finish-clears b m k =
    let bounds = not-parts (bound_allowed b.pmc_mean.error_bound) (bound_allowed b.swing.error_bound) k.0 in
    let states = not-parts (Pmc.usable b.pmc_mean) (SwingState.usable b.swing) k.1.0 in
    let some = neither (eqb b.pmc_mean.length 0) (eqb b.swing.length 0) k.1.1.1.0 in
    ((bounds.0, (states.0, (k.1.1.0, (some.0, tt)))), (bounds.1, (states.1, (k.1.1.0, (some.1, tt)))))

pub finish-has : (b : ModelBuilder) (m : ℕ) → NoneHolds (finish_causes b m) → (1 ≤ b.pmc_mean.length) × (b.pmc_mean.length ≤ most_values) × (1 ≤ b.swing.length) × (b.swing.length ≤ most_values) × (m ≤ most_metadata) × (1 ≤ m)
finish-has b m k =
    let c = finish-clears b m k in
    let n = b.pmc_mean.length in
    let p = has-cost b.pmc_mean.error_bound (Pmc.usable b.pmc_mean) n m c.0 in
    let s = has-cost b.swing.error_bound (SwingState.usable b.swing) b.swing.length m c.1 in
    (omega (arith, p.1), leb-true n most_values p.0, omega (arith, s.1), length-limit b.swing s.0, p.2, leb-true 1 m (and_left (leb 1 m) (leb m most_metadata) (not-false (metadata_allowed m) k.1.1.0)))

-- PMC-Mean's part of a step leaves Swing alone
pub pmc-leaves : (b : ModelBuilder) (value : Float) → ((update_pmc b value).swing ≡ b.swing) × ((update_pmc b value).swing_could_fit_all ≡ b.swing_could_fit_all)
unfolding update_pmc with_pmc
pmc-leaves b value =
    by-test (λ (t : ModelBuilder). (t.swing ≡ b.swing) × (t.swing_could_fit_all ≡ b.swing_could_fit_all)) b.pmc_mean_could_fit_all _ _ (λ e. (refl, refl)) (λ e. (refl, refl))
