-- What is promised of the chosen model, through rows (02, W8).
use Rattle.std.specs.Prelude.{◌≡◌, List, ◌++◌, ℕ, drop}
use Rattle.types.specs.Fair.{Fair}
use Rattle.types.specs.declared.ModelBuilder.{ModelBuilder}
use Rattle.types.specs.declared.SelectedModel.{SelectedModel}
use Rattle.exports_choice.specs.Row.{model_length, model_words}

-- the row afterwards begins with the words of a model that is fair for the builder, and is as it was behind them
abbrev pub FairRow : ModelBuilder → ℕ → List ℕ → List ℕ → Type 0
FairRow b m out after = (x : SelectedModel) × Fair b m x × (after ≡ model_words x ++ drop model_length out)
