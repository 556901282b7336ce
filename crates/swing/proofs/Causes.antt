-- The causes of each call here stand in 01's order: a law that is computed from their numbers, whatever else they hang on. Assumes nothing.
use mathlib.Core.Path.{refl}
use mathlib.Core.List.{List}
use Prim.Native.Nat.{ℕ}
use lib.IntN.{ℤ}
use Rattle.models.specs.Causes.{InOrder}
use Rattle.lines.specs.declared.Point.{Point}
use Rattle.swing.specs.Calls.{fit_causes, cost_causes, model_causes}
use Rattle.swing.specs.Grid.{average_causes, sum_causes, grid_causes}
use Rattle.swing.specs.declared.Swing.{Swing}

pub of-fit-data-point : (s : Swing) (t : ℤ) → InOrder (fit_causes s t)
of-fit-data-point s t = refl

pub of-bytes-per-value : (s : Swing) (m : ℕ) → InOrder (cost_causes s m)
of-bytes-per-value s m = refl

pub of-model : (s : Swing) → InOrder (model_causes s)
of-model s = refl

pub of-sum-by-average : (a b : Point) (count : ℕ) → InOrder (average_causes a b count)
of-sum-by-average a b count = refl

pub of-sum-over : (a b : Point) (ts : List ℤ) → InOrder (sum_causes a b ts)
of-sum-over a b ts = refl

pub of-grid : (a b : Point) (ts : List ℤ) (room : ℕ) → InOrder (grid_causes a b ts room)
of-grid a b ts room = refl
