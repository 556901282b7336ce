-- `coding::keep::tried` meets its contract. The invariant: the tests passed so far change nothing of the answer. Assumes nothing.
use mathlib.Core.Path.{◌≡◌}
use Prim.Native.Nat.{◌≤◌}
use Rattle.coding.specs.Keep.{shortened, most_cleared}
use Rattle.coding.proofs.keep.tried.Given as goal

abbrev pub invariant-loop-s : goal.invariant-loop-s
invariant-loop-s l = (l.s ≤ most_cleared) × (shortened l.error_bound most_cleared l.value ≡ shortened l.error_bound l.s l.value)

abbrev pub decreases-loop-s : goal.decreases-loop-s
decreases-loop-s l = l.s
