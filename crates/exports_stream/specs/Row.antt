-- A writer's state as a row of eleven words: the bound's kind and bits; the least, the greatest and the last kept value; the window's leading and
-- trailing zeros; 1 where the first value is stored in full, else 0; the place; the length; the sum's bits. Assumes nothing.
use Rattle.std.specs.Prelude.{Bool, false, cond, ◌&&◌, List, [], ◌∷◌, ℕ, eqb, leb, length, take, get_or}
use Rattle.std.specs.Float.{binary32}
use Rattle.std.specs.Float.Ieee.{of_bits, to_bits}
use Rattle.bits.specs.Bits.{whole_bytes}
use Rattle.models.specs.Floats.{fresh_bits, zero_f}
use Rattle.models.specs.declared.ErrorBound.{ErrorBound}
use Rattle.exports.specs.Face.{word_of}
use Rattle.exports.specs.Words.{bound_kind, bound_bits, small, bound_front}
use Rattle.stream.specs.Format.{opening}
use Rattle.macaque_v.specs.declared.MacaqueV.{MacaqueV}

abbrev pub writer_length : ℕ
writer_length = 11

-- ---- a state's words

-- with the words of the bound, of the mode and of the sum as they are given
abbrev pub state_words : ℕ → ℕ → ℕ → ℕ → MacaqueV → List ℕ
state_words kind bits mode sum m =
    kind
    ∷ bits
    ∷ m.min_value
    ∷ m.max_value
    ∷ m.last_value
    ∷ m.last_leading_zero_bits
    ∷ m.last_trailing_zero_bits
    ∷ mode
    ∷ m.place
    ∷ m.length
    ∷ sum
    ∷ []

-- a state that is handed out: a NaN as its sum is 7FC00000
unfoldable pub writer_row : MacaqueV → List ℕ
writer_row m = state_words (bound_kind m.error_bound) (bound_bits m.error_bound) (word_of m.with_first) (to_bits binary32 m.sum) m

-- the place behind a row's stream, how many values it holds, and the bits of their sum
abbrev pub place_word : List ℕ → ℕ
place_word row = get_or row 8 0

abbrev pub length_word : List ℕ → ℕ
length_word row = get_or row 9 0

abbrev pub sum_word : List ℕ → ℕ
sum_word row = get_or row 10 0

-- the sum's word after a write: "An empty write changes nothing", so where no value came it is the one that stands in the row
abbrev pub sum_after : List ℕ → MacaqueV → ℕ
sum_after row m = cond (eqb m.length (length_word row)) (sum_word row) (to_bits binary32 m.sum)

-- the state after a write: the bound and the mode cannot change, so words 0, 1 and 7 are those that stand in the row
unfoldable pub written_row : List ℕ → MacaqueV → List ℕ
written_row row m = state_words (get_or row 0 0) (get_or row 1 0) (get_or row 7 0) (sum_after row m) m

-- ---- the state that words stand for

-- eleven words or more, words of 32 bits where the state has such, and a flag of 0 or 1
unfoldable pub stands_for_state : List ℕ → Bool
stands_for_state row =
    leb writer_length (length row)
    && (small (get_or row 2 0)
    && (small (get_or row 3 0)
    && (small (get_or row 4 0)
    && (small (get_or row 5 0)
    && (small (get_or row 6 0) && (leb (get_or row 7 0) 1 && small (sum_word row)))))))

-- the state that no buffer allows: it has a place and no value
abbrev pub spoiled_writer : ErrorBound → MacaqueV
spoiled_writer b =
    record {
      error_bound = b;
      min_value = fresh_bits;
      max_value = fresh_bits;
      last_value = 0;
      last_leading_zero_bits = opening.lead;
      last_trailing_zero_bits = opening.trail;
      with_first = false;
      place = 1;
      length = 0;
      sum = zero_f;
    }

abbrev pub read_writer : ErrorBound → List ℕ → MacaqueV
read_writer b row =
    record {
      error_bound = b;
      min_value = get_or row 2 0;
      max_value = get_or row 3 0;
      last_value = get_or row 4 0;
      last_leading_zero_bits = get_or row 5 0;
      last_trailing_zero_bits = get_or row 6 0;
      with_first = eqb (get_or row 7 0) 1;
      place = place_word row;
      length = length_word row;
      sum = of_bits binary32 (sum_word row);
    }

-- a row that is too short stands for no state, as one with wrong words does
unfoldable pub writer_in : List ℕ → MacaqueV
writer_in row = cond (stands_for_state row) (read_writer (bound_front row) row) (spoiled_writer (bound_front row))

-- ---- what a caller finds in the row of a stream

-- the bytes in use, by the word of the place
abbrev pub bytes_in_use : List ℕ → List ℕ → List ℕ
bytes_in_use row buf = take (whole_bytes (place_word row)) buf
