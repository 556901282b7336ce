-- The writer's state, as that of the theory of streams. "Minimum and maximum start fresh and take in each kept value from the left, the raw first one
-- too, and never an input that was not kept." And so does the sum, "added from the left". Assumes nothing.
use Rattle.std.specs.Prelude.{Bool, true, false, ℕ, Float}
use Rattle.std.specs.Float.Ieee as Ieee
use Rattle.std.specs.Float.{binary32}
use Rattle.std.specs.Float.Ieee.{of_bits}
use Rattle.models.specs.Floats.{min_bits, max_bits, fresh_bits, zero_f}
use Rattle.models.specs.declared.ErrorBound.{ErrorBound}
use Rattle.stream.specs.Format.{Gather, both, Mode, with_first, without_first, Stream, macaque_of, State, fresh}
use Rattle.macaque_v.specs.declared.MacaqueV.{MacaqueV}
use Rattle.macaque_v.specs.declared.Opening.{Opening}
use Rattle.macaque_v.specs.declared.Opening.TheVariants.{First, On}

-- ---- the least and the greatest kept value

pub record MinMax : Type 0 where
  pub min : ℕ
  pub max : ℕ

abbrev pub min_max_with : MinMax → ℕ → MinMax
min_max_with e v = record { min = min_bits e.min v; max = max_bits e.max v }

abbrev pub gather_min_max : Gather MinMax
gather_min_max = record { none = record { min = fresh_bits; max = fresh_bits }; by_first = min_max_with; by_next = min_max_with }

-- ---- the sum

-- "Sum adds in f32 from the left: from the first value in with-first mode, else from 0": a raw first value sets it, whatever it was, and any later one is
-- added
abbrev pub gather_sum : Gather Float
gather_sum =
    record {
      none = zero_f;
      by_first = λ s v. of_bits binary32 v;
      by_next = λ s v. Ieee.add binary32 s (of_bits binary32 v);
    }

-- ---- what a state gathers, side by side; a further thing stands beside it by `both` of stream/specs/Format

abbrev pub Known : Type 0
Known = MinMax × Float

abbrev pub gather_known : Gather Known
gather_known = both gather_min_max gather_sum

-- the least and the greatest kept value in a state, and their sum
abbrev pub ends_in : State Known → MinMax
ends_in s = s.seen.0

abbrev pub sum_in : State Known → Float
sum_in s = s.seen.1

-- ---- the stream of a mode, and the state in it

abbrev pub mode_of : Bool → Mode
mode_of true = with_first
mode_of false = without_first

abbrev pub stream_in : Bool → Stream Known
stream_in first = macaque_of (mode_of first) gather_known

abbrev pub state_of : MacaqueV → State Known
state_of m =
    record {
      last = m.last_value;
      win = record { lead = m.last_leading_zero_bits; trail = m.last_trailing_zero_bits };
      place = m.place;
      count = m.length;
      seen = (record { min = m.min_value; max = m.max_value }, m.sum);
    }

abbrev pub writer_of : ErrorBound → Bool → State Known → MacaqueV
writer_of b first s =
    record {
      error_bound = b;
      min_value = (ends_in s).min;
      max_value = (ends_in s).max;
      last_value = s.last;
      last_leading_zero_bits = s.win.lead;
      last_trailing_zero_bits = s.win.trail;
      with_first = first;
      place = s.place;
      length = s.count;
      sum = sum_in s;
    }

-- ---- how a stream opens

abbrev pub is_first : Opening → Bool
is_first First = true
is_first (On v) = false

-- with a first value there is none, and `fresh` looks at none
abbrev pub opening_value : Opening → ℕ
opening_value First = 0
opening_value (On v) = v

abbrev pub opened : Opening → State Known
opened o = fresh (stream_in (is_first o)) (opening_value o)
