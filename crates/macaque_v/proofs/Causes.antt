-- The causes of each call here stand in 01's order: a law that is computed from their numbers, whatever else they hang on. Assumes nothing.
use mathlib.Core.Path.{refl}
use mathlib.Core.List.{List}
use Prim.Native.Nat.{ℕ}
use Rattle.models.specs.Causes.{InOrder}
use Rattle.models.specs.declared.ErrorBound.{ErrorBound}
use Rattle.macaque_v.specs.Calls.{write_causes}
use Rattle.macaque_v.specs.Read.{grid_causes, reopen_causes, rescue_causes}
use Rattle.macaque_v.specs.declared.MacaqueV.{MacaqueV}

pub of-compress-values : (m : MacaqueV) (xs : List ℕ) (bytes : ℕ) → InOrder (write_causes m xs bytes)
of-compress-values m xs bytes = refl

pub of-reopen : (b : ErrorBound) (room used count k : ℕ) → InOrder (reopen_causes b room used count k)
of-reopen b room used count k = refl

pub of-rescue : (b : ErrorBound) (room used limit : ℕ) → InOrder (rescue_causes b room used limit)
of-rescue b room used limit = refl

pub of-grid : (count room : ℕ) → InOrder (grid_causes count room)
of-grid count room = refl
