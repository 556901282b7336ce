-- What is kept of one value passes the test, and so do those that it stands in front of. Assumes nothing.
use mathlib.Core.Path.{◌≡◌, ap}
use mathlib.Core.Bool.{Bool, true, false}
use mathlib.Core.List.{List, ◌∷◌}
use Prim.Native.Nat.{ℕ, zero, suc, ◌<◌}
use native.Mathlib.Omega.{arith}
use lib.ListN.{length, get_or}
use Rattle.models.specs.Answers.{answered, judge}
use Rattle.models.specs.Bound.{bound_allowed}
use Rattle.models.specs.Calls.{within_answer}
use Rattle.models.specs.declared.ErrorBound.{ErrorBound}
use Rattle.stream.specs.Write.{kept_one}
use Rattle.coding.specs.Keep.{keep_rule}
use Rattle.coding.proofs.Greatest.{may-replace-itself, kept-may-replace}
use Rattle.macaque_v.specs.Kept.{KeptWithin}

module _ (b : ErrorBound) (ok : bound_allowed b ≡ true) where
  pub one_passes : (raw : Bool) (l x : ℕ) → within_answer b x (kept_one (keep_rule b) raw l x) ≡ answered true
  unfolding within_answer judge
  one_passes true l x = rw ok (ap answered (may-replace-itself b x))
  one_passes false l x = rw ok (ap answered (kept-may-replace b l x))

  -- one more in front
  pub and_one : (x v : ℕ) (xs vs : List ℕ) → within_answer b x v ≡ answered true → KeptWithin b xs vs → KeptWithin b (x ∷ xs) (v ∷ vs)
  and_one x v xs vs first rest = record { as_many = ap suc rest.as_many; passes = each }
    where
      each : (i : ℕ) → i < length (x ∷ xs) → within_answer b (get_or (x ∷ xs) i 0) (get_or (v ∷ vs) i 0) ≡ answered true
      each zero h = first
      each (suc i) h = rest.passes i (omega (arith, h))
