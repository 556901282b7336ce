-- Words of the promises on the running sum (document 02, W4): a writer that is the one of its bytes, and one that is handed in with another sum. Assumes
-- nothing.
use Rattle.std.specs.Prelude.{◌≡◌, Bool, List, ℕ, take, Float}
use Rattle.std.specs.Float.{binary32}
use Rattle.std.specs.Float.Ieee.{to_bits}
use Rattle.bits.specs.Bits.{bits_of, whole_bytes}
use Rattle.models.specs.Answers.{answered, SaidOn, answered_on, refused_on}
use Rattle.stream.specs.Format.{gather_from, State}
use Rattle.stream.specs.Write.{kept}
use Rattle.stream.specs.Read.{done, read_all}
use Rattle.macaque_v.specs.State.{Known, gather_sum, ends_in, sum_in, mode_of, stream_in, state_of, is_first, opened}
use Rattle.macaque_v.specs.Write.{stream_by, rule_by}
use Rattle.macaque_v.specs.Calls.{write_answer, write_memory}
use Rattle.macaque_v.specs.Read.{sum_answer}
use Rattle.macaque_v.specs.declared.MacaqueV.{MacaqueV}
use Rattle.macaque_v.specs.declared.Opening.{Opening}

-- ---- "a state whose last value, window, place, length and sum are those of its bytes"

-- The bytes in use, read with the writer's length as their count, are accepted; and where reading ends, the last value, the window, the place, the length and
-- the sum are the writer's. Its least and its greatest value may be any, and behind a value its mode, which is looked at only at length 0.
pub record OfItsBytes (o : Opening) (buf : List ℕ) (m : MacaqueV) : Type 0 where
  pub mode : m.length ≡ 0 → m.with_first ≡ is_first o
  pub values : List ℕ
  pub end : State Known
  pub rest : List Bool
  pub reads : read_all (stream_in (is_first o)) m.length (opened o) (bits_of (take (whole_bytes m.place) buf)) ≡ done values end rest
  pub state : state_of m ≡ record { last = end.last; win = end.win; place = end.place; count = end.count; seen = (ends_in (state_of m), sum_in end) }

-- "equal to what the sum call would answer on the used bytes"
abbrev pub SumsAsTheCall : Opening → List ℕ → MacaqueV → Type 0
SumsAsTheCall o buf m = sum_answer (take (whole_bytes m.place) buf) m.length o ≡ answered (to_bits binary32 m.sum)

-- ---- "a wrong sum passed in is not refused; it is carried on by the same additions"

-- a writer with another sum
abbrev pub with_sum : Float → MacaqueV → MacaqueV
with_sum s m =
    record {
      error_bound = m.error_bound;
      min_value = m.min_value;
      max_value = m.max_value;
      last_value = m.last_value;
      last_leading_zero_bits = m.last_leading_zero_bits;
      last_trailing_zero_bits = m.last_trailing_zero_bits;
      with_first = m.with_first;
      place = m.place;
      length = m.length;
      sum = s;
    }

-- the sum s after what m keeps of xs: a raw first value sets it, any other is added
abbrev pub carried : MacaqueV → Float → List ℕ → Float
carried m s xs = gather_from gather_sum (mode_of m.with_first) m.length s (kept (rule_by m) (stream_by m) (state_of m) xs)

-- an answer with another sum: s in a writer that is handed back, t in one after a write
abbrev pub with_sums : Float → Float → SaidOn MacaqueV MacaqueV → SaidOn MacaqueV MacaqueV
with_sums s t (answered_on n) = answered_on (with_sum t n)
with_sums s t (refused_on f m) = refused_on f (with_sum s m)

-- handed in with the sum s, a write answers what it answers for m, with the same sums carried on, and leaves the same bytes
pub record CarriesTheSum (m : MacaqueV) (s : Float) (xs buf : List ℕ) : Type 0 where
  pub answer : write_answer (with_sum s m) xs buf ≡ with_sums s (carried m s xs) (write_answer m xs buf)
  pub memory : write_memory (with_sum s m) xs buf ≡ write_memory m xs buf
