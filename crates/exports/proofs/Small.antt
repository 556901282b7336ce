-- Words of 32 bits are their own low bits. Assumes nothing.
use mathlib.Core.Path.{◌≡◌}
use mathlib.Core.Bool.{true}
use Prim.Native.Nat.{ℕ, ◌%◌, ◌^◌}
use native.Mathlib.Nat.{mod-eq_of_lt}
use borrow.Author.Tests.{ltb-true}
use Rattle.exports.specs.Words.{small}

pub low-is : (w : ℕ) → small w ≡ true → w % 2 ^ 32 ≡ w
low-is w h = mod-eq_of_lt (ltb-true w (2 ^ 32) h)
