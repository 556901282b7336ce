-- Words of the promises on the choice by whole numbers (02, W8), and the rule that it replaced, beside which they put it: no call goes by that.
use Rattle.std.specs.Prelude.{◌≡◌, Bool, true, false, ℕ, ◌+◌, ◌*◌, ◌<◌}
use Rattle.std.specs.Float.Ieee as Ieee
use Rattle.models.specs.Limits.{cost}
use Rattle.types.specs.Choice.{pmc_model, swing_model, end_lost, chosen}
use Rattle.types.specs.declared.ModelBuilder.{ModelBuilder}
use Rattle.types.specs.declared.SelectedModel.{SelectedModel}

-- ---- the rule of 01 before 02: "M / PMC length against (M + 1) / Swing length, in f32; the smaller wins and PMC wins a tie"
unfoldable pub won_by_costs : ℕ → ℕ → ℕ → Bool
won_by_costs m pmc swing = Ieee.lt (cost (m + 1) swing) (cost m pmc)

-- what it chose
unfoldable pub choice_by_costs : ModelBuilder → ℕ → SelectedModel
choice_by_costs b m =
    chosen (won_by_costs m b.pmc_mean.length b.swing.length) (pmc_model b.pmc_mean m) (swing_model b.swing m)

-- ---- the promises

-- Swing took more than one value more for every m that PMC-Mean took: PMC-Mean took fewer than m for each value that Swing took more
abbrev pub MoreForEvery : ℕ → ℕ → ℕ → Type 0
MoreForEvery m pmc swing = (more : ℕ) × (swing ≡ pmc + more) × (pmc < m * more)

-- of the model x that is chosen between those of a builder, with metadata of m bytes
pub record Fair (b : ModelBuilder) (m : ℕ) (x : SelectedModel) : Type 0 where
  -- Swing's model only where it took so many more
  pub more : x.model_type_id ≡ 1 → MoreForEvery m b.pmc_mean.length x.length
  -- and wherever it did, save for 01's added rule
  pub earned : MoreForEvery m b.pmc_mean.length b.swing.length → end_lost (swing_model b.swing m) ≡ false → x ≡ swing_model b.swing m
  -- else PMC-Mean's, "An equal product goes to PMC" among it
  pub unearned : (MoreForEvery m b.pmc_mean.length b.swing.length → ⊥) → x ≡ pmc_model b.pmc_mean m
  -- and PMC-Mean's by 01's added rule
  pub lost : end_lost (swing_model b.swing m) ≡ true → x ≡ pmc_model b.pmc_mean m
  -- "wherever the old rule chose Swing, the new one does": the same model
  pub stays : (choice_by_costs b m).model_type_id ≡ 1 → x ≡ choice_by_costs b m
  -- the reported bytes for each value are those that the old rule reported: where the two choose otherwise, the costs of both models are the same f32
  pub told : x.bytes_per_value ≡ (choice_by_costs b m).bytes_per_value
