-- The most bits of MacaqueV's values as numbers, for the code that works them out. Assumes nothing.
use mathlib.Core.Path.{◌≡◌, ap}
use mathlib.Core.Bool.{Bool, true, false}
use Prim.Native.Nat.{ℕ, zero, suc, ◌+◌, ◌-◌, ◌*◌, ◌≤◌, ◌<◌}
use native.Mathlib.Omega.{arith}
use Rattle.stream.specs.Format.{macaque}
use Rattle.stream.specs.Size.{most_coded, most_bits}

pub most-first : (n : ℕ) → 0 < n → most_bits macaque true n ≡ 32 + most_coded macaque (n - 1)
most-first zero p = absurd (omega arith)
most-first (suc n) p = let e : n ≡ suc n - 1 = omega arith in ap (λ (k : ℕ). 32 + most_coded macaque k) e

pub most-small : (raw : Bool) (n : ℕ) → most_bits macaque raw n ≤ 45 * n
most-small false zero = omega arith
most-small false (suc n) = omega arith
most-small true zero = omega arith
most-small true (suc zero) = omega arith
most-small true (suc (suc n)) = omega arith
