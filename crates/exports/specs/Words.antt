-- The words of a state's row: a bound's two, a 32-bit value, a timestamp. What a word cannot stand for is not allowed: the call behind refuses it.
use Rattle.std.specs.Prelude.{Bool, cond, ◌&&◌, List, ℕ, suc, ◌+◌, ◌-◌, ◌^◌, ltb, ℤ, pos, negsuc, length, get_or}
use Rattle.std.specs.Float.{nan, binary32}
use Rattle.std.specs.Float.Ieee.{to_bits}
use Rattle.models.specs.Limits.{most_values}
use Rattle.models.specs.declared.ErrorBound.{ErrorBound}
use Rattle.models.specs.declared.ErrorBound.TheVariants.{Lossless, Absolute, Relative}
use Rattle.exports.specs.Face.{bound_of}

-- a length or a count that no call allows
abbrev pub no_count : ℕ
no_count = most_values + 1

-- ---- a bound
abbrev pub bound_kind : ErrorBound → ℕ
bound_kind Lossless = 0
bound_kind (Absolute e) = 1
bound_kind (Relative e) = 2

abbrev pub bound_bits : ErrorBound → ℕ
bound_bits Lossless = 0
bound_bits (Absolute e) = to_bits binary32 e
bound_bits (Relative e) = to_bits binary32 e

abbrev pub small : ℕ → Bool
small w = ltb w (2 ^ 32)

-- words that are not of 32 bits are no bound, and stand for one that is not allowed
unfoldable pub bound_in : ℕ → ℕ → ErrorBound
bound_in kind bits = cond (small kind && small bits) (bound_of kind bits) (Absolute nan)

-- the bound in a row's first two words; where they are not both there, no bound is judged
unfoldable pub bound_front : List ℕ → ErrorBound
bound_front row = cond (ltb (length row) 2) Lossless (bound_in (get_or row 0 0) (get_or row 1 0))

-- ---- a timestamp, in two's complement
unfoldable pub time_in : ℕ → ℤ
time_in w = cond (ltb w (2 ^ 63)) (pos w) (negsuc (2 ^ 64 - suc w))

unfoldable pub word_of_time : ℤ → ℕ
word_of_time (pos n) = n
word_of_time (negsuc n) = 2 ^ 64 - suc n
