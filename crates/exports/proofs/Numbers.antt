-- No refusal has the number 0, so a call's fault tells what the call behind said. Assumes nothing.
use mathlib.Core.Bool.{true, false}
use mathlib.Core.List.{List, [], ◌∷◌}
use Prim.Native.Nat.{ℕ, ◌<◌}
use Rattle.models.specs.Answers.{fault, Cause, ◌when◌, judge}
use Rattle.models.specs.declared.Fault.{Fault}

-- every number of a list of causes is above 0
abbrev pub AboveZero : List Cause → Type 0
AboveZero [] = Unit {0}
AboveZero (n when holds ∷ causes) = (0 < n) × AboveZero causes

-- what is so of the answer, and of each refusal by a number above 0, is so of what is judged by such a list
pub judged-so : {X : Type 0} (P : X → Type 0) (refuse : Fault → X) → ((n : ℕ) → 0 < n → P (refuse (fault n))) → (causes : List Cause) → AboveZero causes
    → (x : X) → P x → P (judge refuse causes x)
unfolding judge
judged-so P refuse k [] h x p = p
judged-so P refuse k (n when true ∷ causes) h x p = k n h.0
judged-so P refuse k (n when false ∷ causes) h x p = judged-so P refuse k causes h.1 x p
