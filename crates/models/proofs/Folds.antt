-- Steps over a list, from the left: what every step keeps, all of them keep, and what a step raises by one at most, n steps raise by n. Assumes nothing.
use mathlib.Core.List.{List, [], ◌∷◌, foldl}
use Prim.Native.Nat.{ℕ, ◌+◌, ◌≤◌}
use native.Mathlib.Omega.{arith}
use lib.ListN.{length}

module _ {S A : Type 0} (step : S → A → S) where
  pub steps-keep : (P : S → Type 0) → ((s : S) (a : A) → P s → P (step s a)) → (s : S) (l : List A) → P s → P (foldl step s l)
  steps-keep P one s [] p = p
  steps-keep P one s (a ∷ l) p = steps-keep P one (step s a) l (one s a p)

  pub steps-raise : (size : S → ℕ) → ((s : S) (a : A) → size (step s a) ≤ size s + 1) → (s : S) (l : List A) → size (foldl step s l) ≤ size s + length l
  steps-raise size one s [] = omega arith
  steps-raise size one s (a ∷ l) = omega (arith, steps-raise size one (step s a) l, one s a)
