-- The causes of each call here stand in 01's order: a law that is computed from their numbers, whatever else they hang on. Assumes nothing.
use mathlib.Core.Path.{refl}
use Prim.Native.Nat.{ℕ}
use Rattle.models.specs.Causes.{InOrder}
use Rattle.models.specs.declared.ErrorBound.{ErrorBound}
use Rattle.exports_stream.specs.Calls.{new_causes, reopen_causes_with}
use Rattle.exports_stream.specs.Rescue.{rescue_causes_with}

pub of-new : (b : ErrorBound) (mode words : ℕ) → InOrder (new_causes b mode words)
of-new b mode words = refl

pub of-reopen : (b : ErrorBound) (room used count k words : ℕ) → InOrder (reopen_causes_with b room used count k words)
of-reopen b room used count k words = refl

pub of-rescue : (b : ErrorBound) (room used limit words : ℕ) → InOrder (rescue_causes_with b room used limit words)
of-rescue b room used limit words = refl
