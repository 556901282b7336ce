-- The choice between the two models: 01, "Choice", by the whole numbers of 02, W8.
use Rattle.std.specs.Prelude.{Bool, cond, not, ◌&&◌, ℕ, ◌+◌, ◌*◌, ltb}
use Rattle.std.specs.Float.{binary32}
use Rattle.std.specs.Float.Ieee.{of_bits, to_bits}
use Rattle.models.specs.Floats.{is_finite}
use Rattle.models.specs.Limits.{cost}
use Rattle.pmc_mean.specs.State.{average}
use Rattle.pmc_mean.specs.declared.PMCMean.{PMCMean}
use Rattle.swing.specs.Model.{ends_of}
use Rattle.swing.specs.declared.Swing.{Swing}
use Rattle.types.specs.declared.ModelBuilder.{ModelBuilder}
use Rattle.types.specs.declared.SelectedModel.{SelectedModel}

-- "a segment's model is 0 for PMC or 1 for Swing", its parameters are patterns
unfoldable pub pmc_model : PMCMean → ℕ → SelectedModel
pmc_model s m =
    record {
      model_type_id = 0;
      length = s.length;
      first_value = to_bits binary32 (average s);
      last_value = to_bits binary32 (average s);
      bytes_per_value = cost m s.length;
    }

unfoldable pub swing_model : Swing → ℕ → SelectedModel
swing_model s m =
    record {
      model_type_id = 1;
      length = s.length;
      first_value = (ends_of s).first;
      last_value = (ends_of s).last;
      bytes_per_value = cost (m + 1) s.length;
    }

-- "Swing wins exactly if (M + 1) × PMC length is less than M × Swing length. An equal product goes to PMC.": by the size m of the metadata, and how many
-- values each model stands for
unfoldable pub swing_wins : ℕ → ℕ → ℕ → Bool
swing_wins m pmc swing = ltb ((m + 1) * pmc) (m * swing)

-- "a finite first and a non-finite last value (both as f32)"
unfoldable pub end_lost : SelectedModel → Bool
end_lost swing = is_finite (of_bits binary32 swing.first_value) && not (is_finite (of_bits binary32 swing.last_value))

unfoldable pub chosen : Bool → SelectedModel → SelectedModel → SelectedModel
chosen wins pmc swing = cond (wins && not (end_lost swing)) swing pmc

unfoldable pub choice_of : ModelBuilder → ℕ → SelectedModel
choice_of b m =
    chosen (swing_wins m b.pmc_mean.length b.swing.length) (pmc_model b.pmc_mean m) (swing_model b.swing m)
