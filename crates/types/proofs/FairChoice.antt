-- The choice of a builder that no cause refuses is fair. Assumes nothing.
use mathlib.Core.Path.{◌≡◌, refl, sym, ap, ◌∙◌}
use mathlib.Core.Bool.{Bool, true, false, cond, not, ◌&&◌, true≢false}
use Prim.Native.Nat.{ℕ}
use Rattle.models.specs.Answers.{NoneHolds}
use Rattle.models.proofs.Tests.{never}
use Rattle.types.specs.Choice.{pmc_model, swing_model, swing_wins, end_lost, chosen, choice_of}
use Rattle.types.specs.Calls.{finish_causes}
use Rattle.types.specs.Fair.{won_by_costs, choice_by_costs, MoreForEvery, Fair}
use Rattle.types.specs.declared.ModelBuilder.{ModelBuilder}
use Rattle.types.specs.declared.SelectedModel.{SelectedModel}
use Rattle.types.proofs.Rooms.{finish-has}
use Rattle.types.proofs.Wins.{wins-by-more, more-wins}
use Rattle.types.proofs.Costs.{still-wins, wins-at-a-tie}

module _ (b : ModelBuilder) (m : ℕ) (none : NoneHolds (finish_causes b m)) where
  abbrev pmc : ℕ
  pmc = b.pmc_mean.length

  abbrev swing : ℕ
  swing = b.swing.length

  -- the model by whether Swing wins, and whether its line is lost
  abbrev by : Bool → Bool → SelectedModel
  by wins gone = cond (wins && not gone) (swing_model b.swing m) (pmc_model b.pmc_mean m)

  abbrev lost : Bool
  lost = end_lost (swing_model b.swing m)

  kept_by : (wins won gone : Bool) → (won ≡ true → wins ≡ true) → (by won gone).model_type_id ≡ 1 → by wins gone ≡ by won gone
  unfolding pmc_model
  kept_by wins true false h i = ap (λ (t : Bool). by t false) (h refl)
  kept_by wins true true h i = absurd (never i)
  kept_by wins false gone h i = absurd (never i)

  more_by : (wins gone : Bool) → swing_wins m pmc swing ≡ wins → (by wins gone).model_type_id ≡ 1 → MoreForEvery m pmc (by wins gone).length
  unfolding pmc_model swing_model
  more_by true false e i = wins-by-more m pmc swing e
  more_by true true e i = absurd (never i)
  more_by false gone e i = absurd (never i)

  unearned-by : (wins gone : Bool) → swing_wins m pmc swing ≡ wins → (MoreForEvery m pmc swing → ⊥) → by wins gone ≡ pmc_model b.pmc_mean m
  unearned-by true gone e h = absurd (h (wins-by-more m pmc swing e))
  unearned-by false gone e h = refl

  pmc-by : (wins : Bool) → by wins true ≡ pmc_model b.pmc_mean m
  pmc-by true = refl
  pmc-by false = refl

  still : won_by_costs m pmc swing ≡ true → swing_wins m pmc swing ≡ true
  still = let c = finish-has b m none in still-wins m pmc swing c.0 c.1 c.2 c.3 c.4

  told-by : (wins won gone : Bool) → swing_wins m pmc swing ≡ wins → won_by_costs m pmc swing ≡ won → (by wins gone).bytes_per_value ≡ (by won gone).bytes_per_value
  unfolding pmc_model swing_model
  told-by true true gone w o = refl
  told-by false false gone w o = refl
  told-by false true gone w o = absurd (true≢false (sym (still o) ∙ w))
  told-by true false true w o = refl
  told-by true false false w o = let c = finish-has b m none in wins-at-a-tie m pmc swing c.0 c.1 c.2 c.3 c.4 c.5 w o

  pub fair : Fair b m (choice_of b m)
  unfolding choice_of choice_by_costs chosen
  fair =
      record {
        more = more_by (swing_wins m pmc swing) lost refl;
        earned = λ h e. rw (more-wins m pmc swing h, e);
        unearned = unearned-by (swing_wins m pmc swing) lost refl;
        lost = λ e. rw e (pmc-by (swing_wins m pmc swing));
        stays = kept_by (swing_wins m pmc swing) (won_by_costs m pmc swing) lost still;
        told = told-by (swing_wins m pmc swing) (won_by_costs m pmc swing) lost refl refl;
      }
