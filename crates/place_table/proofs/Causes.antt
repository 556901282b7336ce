-- The causes of each call here stand in order, 13 behind 12: a law that is computed from their numbers, whatever else they hang on. Assumes nothing.
use mathlib.Core.Path.{refl}
use mathlib.Core.List.{List}
use Prim.Native.Nat.{ℕ}
use Rattle.models.specs.Causes.{InOrder}
use Rattle.models.specs.declared.ErrorBound.{ErrorBound}
use Rattle.macaque_v.specs.declared.MacaqueV.{MacaqueV}
use Rattle.place_table.specs.Calls.{table_write_causes, table_reopen_causes, table_rescue_causes, check_causes, range_causes}

pub of-compress-values : (m : MacaqueV) (xs : List ℕ) (bytes words entries : ℕ) → InOrder (table_write_causes m xs bytes words entries)
of-compress-values m xs bytes words entries = refl

pub of-reopen : (b : ErrorBound) (room used count k words entries : ℕ) → InOrder (table_reopen_causes b room used count k words entries)
of-reopen b room used count k words entries = refl

pub of-rescue : (b : ErrorBound) (room used limit words : ℕ) → InOrder (table_rescue_causes b room used limit words)
of-rescue b room used limit words = refl

pub of-check : (count words entries : ℕ) → InOrder (check_causes count words entries)
of-check count words entries = refl

pub of_range : (bytes count : ℕ) (words : List ℕ) (entries p q room : ℕ) → InOrder (range_causes bytes count words entries p q room)
of_range bytes count words entries p q room = refl
