-- The causes of a reopening and of a rescue with a table stand in the order of refusals: a law that is computed from their numbers, whatever else they hang on. The other calls
-- here judge by the lists of the calls behind them. Assumes nothing.
use mathlib.Core.Path.{refl}
use Prim.Native.Nat.{ℕ}
use Rattle.models.specs.Causes.{InOrder}
use Rattle.models.specs.declared.ErrorBound.{ErrorBound}
use Rattle.exports_table.specs.Calls.{table_reopen_causes_with}
use Rattle.exports_table.specs.Rescue.{table_rescue_causes_with}

pub of-reopen : (b : ErrorBound) (room used count k words entries row_words : ℕ) → InOrder (table_reopen_causes_with b room used count k words entries row_words)
of-reopen b room used count k words entries row_words = refl

pub of-rescue : (b : ErrorBound) (room used limit words row_words : ℕ) → InOrder (table_rescue_causes_with b room used limit words row_words)
of-rescue b room used limit words row_words = refl
