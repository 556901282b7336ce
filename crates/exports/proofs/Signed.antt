-- A timestamp and its word, in two's complement. Assumes nothing.
use mathlib.Core.Path.{◌≡◌, refl, subst}
use mathlib.Core.Bool.{Bool, true, false, cond}
use Prim.Native.Nat.{ℕ, suc, ◌-◌, ◌^◌, ◌<◌}
use lib.Dec.{ltb}
use lib.IntN.{ℤ, pos, negsuc}
use mir.Syntax.{w64}
use mir.Val.{SFits, to_z, of_z, sel}
use mir.ValLaws.{to_z-of_z, to_z-Fits}
use Rattle.exports.specs.Words.{time_in}

-- ---- a word as a timestamp
selected : (b : Bool) (x y : ℤ) → sel b x y ≡ cond b x y
selected true x y = refl
selected false x y = refl

pub read-signed : (w : ℕ) → to_z w64 w ≡ time_in w
unfolding time_in
read-signed w = selected (ltb w (2 ^ 63)) (pos w) (negsuc (2 ^ 64 - suc w))

-- it is one that 64 bits hold
pub time-again : (w : ℕ) → w < 2 ^ 64 → to_z w64 (of_z w64 (time_in w)) ≡ time_in w
time-again w h = to_z-of_z w64 (time_in w) (subst (SFits w64) (read-signed w) (to_z-Fits w64 w (record { fits = h })))
