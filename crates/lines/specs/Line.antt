-- Points, the line through two of them, and what a point adds to the sums of the slope with the least mean squared error. All in f64, each operation rounded once.
use Rattle.std.specs.Prelude.{Bool, cond, ◌&&◌, ℕ, ℤ, ◌-ℤ◌, Float}
use Rattle.std.specs.Float.Ieee as Ieee
use Rattle.std.specs.Float.{binary32, binary64}
use Rattle.std.specs.Float.Ieee.{of_bits, to_bits}
use Rattle.numbers.specs.Narrowed.{narrowed}
use Rattle.models.specs.Floats.{zero_f, equal_or_nan, is_finite}
use Rattle.lines.specs.declared.Point.{Point}
use Rattle.lines.specs.declared.Line.{Line}
use Rattle.lines.specs.declared.Terms.{Terms}

-- f64's operators
infixl 20 ◌+f◌
abbrev pub ◌+f◌ : Float → Float → Float
x +f y = Ieee.add binary64 x y

infixl 20 ◌-f◌
abbrev pub ◌-f◌ : Float → Float → Float
x -f y = Ieee.sub binary64 x y

infixl 30 ◌*f◌
abbrev pub ◌*f◌ : Float → Float → Float
x *f y = Ieee.mul binary64 x y

infixl 30 ◌/f◌
abbrev pub ◌/f◌ : Float → Float → Float
x /f y = Ieee.div binary64 x y

-- ---- values in and out

-- a value enters widened, which is the same number
abbrev pub point_of : ℤ → ℕ → Point
point_of t bits = record { time = t; value = of_bits binary32 bits }

-- and is answered rounded to f32
unfoldable pub answered_as : Float → ℕ
answered_as x = to_bits binary32 (narrowed x)

abbrev pub both_finite : Float → Float → Bool
both_finite a b = is_finite a && is_finite b

abbrev pub raised : Point → Float → Point
raised p d = record { time = p.time; value = p.value +f d }

abbrev pub lowered : Point → Float → Point
lowered p d = record { time = p.time; value = p.value -f d }

-- ---- a time, and the time from one to another: both are exact within the limits
abbrev pub time_f : ℤ → Float
time_f t = Ieee.of_int binary64 t

abbrev pub span_f : ℤ → ℤ → Float
span_f start end = Ieee.of_int binary64 (end -ℤ start)

-- ---- lines
abbrev pub level_line : Float → Line
level_line value = record { slope = value; intercept = value }

abbrev pub sloped : Float → Point → Line
sloped slope p = record { slope = slope; intercept = p.value -f slope *f time_f p.time }

-- through a and b: level where their values are equal-or-NaN
unfoldable pub line_through : Point → Point → Line
line_through a b =
    cond (equal_or_nan a.value b.value)
    (record { slope = zero_f; intercept = a.value })
    (sloped ((b.value -f a.value) /f span_f a.time b.time) a)

unfoldable pub value_at : Line → ℤ → Float
value_at line t = line.slope *f time_f t +f line.intercept

-- ---- the slope with the least mean squared error, as a fraction: "the square is one product"
unfoldable pub terms_of : Point → Point → Terms
terms_of a b =
    cond (equal_or_nan a.value b.value)
    (record { numerator = zero_f; denominator = zero_f })
    (record {
      numerator = (b.value -f a.value) *f span_f a.time b.time;
      denominator = span_f a.time b.time *f span_f a.time b.time;
    })

abbrev pub added : Terms → Terms → Terms
added a b = record { numerator = a.numerator +f b.numerator; denominator = a.denominator +f b.denominator }
