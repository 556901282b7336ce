-- The least and the greatest of some values, as they are held while many are taken in, and the patterns that they say. Assumes nothing.
use Rattle.std.specs.Prelude.{◌≡◌, Bool, true, false, cond, not, ◌||◌, ℕ, ◌^◌, ◌<◌, Float}
use Rattle.std.specs.Float.Ieee as Ieee
use Rattle.std.specs.Float.{inf, binary32}
use Rattle.std.specs.Float.Ieee.{neg, is_nan, of_bits, to_bits}
use Rattle.macaque_v.specs.State.{MinMax}
use Rattle.macaque_v.specs.declared.span.Span.{Span}

-- a number, or the infinity that no number is above
unfoldable pub or_infinite : Float → Float
or_infinite x = cond (is_nan x) (inf false) x

unfoldable pub lesser_of : Float → Float → Float
lesser_of x y = cond (Ieee.lt y x) y x

unfoldable pub is_number : ℕ → Bool
is_number bits = not (is_nan (of_bits binary32 bits))

-- before any value, behind two patterns; and with one value more
abbrev pub span_from : ℕ → ℕ → Span
span_from min max = record { low = or_infinite (of_bits binary32 min); turned = or_infinite (neg (of_bits binary32 max)); some = false }

abbrev pub span_with : Span → ℕ → Span
span_with s v =
    record {
      low = lesser_of s.low (of_bits binary32 v);
      turned = lesser_of s.turned (neg (of_bits binary32 v));
      some = s.some || is_number v;
    }

-- the pattern of the number x that is held: where none came, and none was there before, it is the last value's
unfoldable pub said_bits : Float → Bool → ℕ → ℕ → ℕ
said_bits x some start last = cond (some || is_number start) (to_bits binary32 x) last

abbrev pub least_in : Span → ℕ → ℕ → ℕ
least_in s min last = said_bits s.low s.some min last

abbrev pub greatest_in : Span → ℕ → ℕ → ℕ
greatest_in s max last = said_bits (neg s.turned) s.some max last

-- both, where taking in began behind the ends e
abbrev pub min_max_said : Span → MinMax → ℕ → MinMax
min_max_said s e last = record { min = least_in s e.min last; max = greatest_in s e.max last }

-- ---- while they are taken in

-- One end: n values behind the pattern `start`, the last of them `last`. Of the best pattern, `bits`, x is held; `some` says that a number came
pub record Extreme (read : ℕ → Float) (start n bits : ℕ) (x : Float) (some : Bool) (last : ℕ) : Type 0 where
  pub value : x ≡ or_infinite (read bits)
  pub came : (some || not (is_nan (read start))) ≡ not (is_nan (read bits))
  pub small : bits < 2 ^ 32
  pub newest : 0 < n → is_nan (read bits) ≡ true → bits ≡ last

-- a pattern read with its sign turned: the greatest is the least of these
abbrev pub turned : ℕ → Float
turned bits = neg (of_bits binary32 bits)

-- n values behind the ends b, the last of them `last`, the ends are e, and a span holds them
pub record MinMaxHeld (b : MinMax) (n : ℕ) (e : MinMax) (s : Span) (last : ℕ) : Type 0 where
  pub least : Extreme (of_bits binary32) b.min n e.min s.low s.some last
  pub greatest : Extreme turned b.max n e.max s.turned s.some last
