-- The fields of a pattern without its sign, whose digits' field is w bits wide, and the pattern that a number of units has. Definitions only.
use Rattle.std.specs.Prelude.{ℕ, ◌+◌, ◌-◌, ◌*◌, ◌/◌, ◌%◌, ◌^◌, cond, eqb}
use Rattle.std.specs.Float.{Format, binary32, binary64}
use Rattle.std.specs.Float.Ieee.{size}

-- the digits, with the leading one put back where the exponent's field is not 0
abbrev pub digits : ℕ → ℕ → ℕ
digits w b = cond (eqb (b / 2 ^ w) 0) (b % 2 ^ w) (2 ^ w + b % 2 ^ w)

-- how many places the digits stand above the format's smallest value
abbrev pub place : ℕ → ℕ → ℕ
place w b = b / 2 ^ w - 1

-- The pattern, without its sign, of n of the smallest values of a format with p digits. It keeps the p leading digits, and the field says how many it dropped.
-- The leading digit adds one to the field.
abbrev pub encoded : ℕ → ℕ → ℕ
encoded p n = (size n - p) * 2 ^ (p - 1) + n / 2 ^ (size n - p)

-- the pattern that a NaN is answered as: 01, "Numbers and bounds"
abbrev pub nan_pattern : Format → ℕ
nan_pattern binary32 = 0x7fc0_0000
nan_pattern binary64 = 0x7ff8_0000_0000_0000
