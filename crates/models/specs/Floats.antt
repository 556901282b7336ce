-- The words of 01, "Numbers and bounds", on floats: finite, equal-or-NaN, minimum and maximum. Values of both formats are of one type, `Float`.
use Rattle.std.specs.Prelude.{Bool, true, false, cond, ◌&&◌, ◌||◌, ℕ, pos, Float}
use Rattle.std.specs.Float.Ieee as Ieee
use Rattle.std.specs.Float.{nan, inf, fin, binary32}
use Rattle.std.specs.Float.Ieee.{of_bits, to_bits}

-- ---- 0, and 100 = 25 * 2 ^ 2
abbrev pub zero_f : Float
zero_f = fin false 0 (pos 0)

abbrev pub hundred : Float
hundred = fin false 25 (pos 2)

-- ---- a pattern as models' parameters, sums and grid values are answered: a NaN's is 7FC00000
unfoldable pub plain_bits : ℕ → ℕ
plain_bits bits = to_bits binary32 (of_bits binary32 bits)

-- ---- sizes
unfoldable pub abs_f : Float → Float
abs_f nan = nan
abs_f (inf s) = inf false
abs_f (fin s m e) = fin false m e

-- ---- tests
unfoldable pub is_finite : Float → Bool
is_finite nan = false
is_finite (inf s) = false
is_finite (fin s m e) = true

-- equal as floats, or both NaN
unfoldable pub equal_or_nan : Float → Float → Bool
equal_or_nan a b = Ieee.eq a b || (Ieee.is_nan a && Ieee.is_nan b)

-- ---- minimum and maximum, of things that are read as floats: a NaN on the left gives way to the right; else the right wins only if it is strictly less (greater)
abbrev pub better : {A : Type 0} → (Float → Float → Bool) → (A → Float) → A → A → A
better beats read a b = cond (Ieee.is_nan (read a)) b (cond (beats (read b) (read a)) b a)

abbrev pub lesser : {A : Type 0} → (A → Float) → A → A → A
lesser read a b = better Ieee.lt read a b

abbrev pub greater : {A : Type 0} → (A → Float) → A → A → A
greater read a b = better (λ (x y : Float). Ieee.lt y x) read a b

-- of values
unfoldable pub min_f : Float → Float → Float
min_f = lesser (λ (x : Float). x)

unfoldable pub max_f : Float → Float → Float
max_f = greater (λ (x : Float). x)

-- of f32 patterns, where the winner keeps its bits
unfoldable pub min_bits : ℕ → ℕ → ℕ
min_bits = lesser (of_bits binary32)

unfoldable pub max_bits : ℕ → ℕ → ℕ
max_bits = greater (of_bits binary32)

-- what a minimum or a maximum is before any value has entered it
abbrev pub fresh_bits : ℕ
fresh_bits = 0x7fc0_0000
