-- How large a stream can get, through the C face: what the calls answer, and the number afterwards; and words of the promises on room, of rows. Assumes nothing.
use Rattle.std.specs.Prelude.{◌≡◌, List, [], ◌∷◌, ℕ, ◌≤◌, ◌<◌, length}
use Rattle.bits.specs.Bits.{Below, whole_bytes}
use Rattle.models.specs.Answers.{Said, Done, answered, refused, fault, no_fault}
use Rattle.models.specs.declared.Fault.{Fault}
use Rattle.macaque_v.specs.Size.{most_bits_answer, most_bytes_answer, Turn}
use Rattle.macaque_v.specs.Size as call
use Rattle.exports.specs.Face.{bound_of, plain_fault}
use Rattle.exports_stream.specs.Row.{writer_length, place_word, length_word}
use Rattle.exports_stream.specs.Calls.{opening_of, count_in, new_row, write_fault, write_row, write_buffer, reopen_fault, reopen_row, reopen_buffer}

-- ---- most_bits and most_bytes: no opening value enters

-- the number afterwards: a refusal leaves it
abbrev pub number_after : ℕ → Said ℕ → ℕ
number_after old (answered n) = n
number_after old (refused f) = old

abbrev pub most_bits_said : ℕ → ℕ → Said ℕ
most_bits_said count mode = most_bits_answer (count_in mode count) (opening_of mode 0)

abbrev pub most_bytes_said : ℕ → ℕ → Said ℕ
most_bytes_said count mode = most_bytes_answer (count_in mode count) (opening_of mode 0)

unfoldable pub most_bits_fault : ℕ → ℕ → Fault
most_bits_fault count mode = plain_fault (most_bits_said count mode)

unfoldable pub most_bits_number : ℕ → ℕ → ℕ → ℕ
most_bits_number count mode old = number_after old (most_bits_said count mode)

unfoldable pub most_bytes_fault : ℕ → ℕ → Fault
most_bytes_fault count mode = plain_fault (most_bytes_said count mode)

unfoldable pub most_bytes_number : ℕ → ℕ → ℕ → ℕ
most_bytes_number count mode old = number_after old (most_bytes_said count mode)

-- ---- room, of rows

-- one turn of a chain: values are written, or the stream is reopened behind its first k values, with a bound of these two words
pub data RowTurn : Type 0 where
  writes : List ℕ → RowTurn
  reopens : ℕ → ℕ → ℕ → RowTurn

-- as a turn of the calls behind
abbrev pub turns_of : List RowTurn → List Turn
turns_of [] = []
turns_of (writes ys ∷ turns) = call.writes ys ∷ turns_of turns
turns_of (reopens k kind bound ∷ turns) = call.reopens k (bound_of kind bound) ∷ turns_of turns

-- each turn is accepted through the row, and in the bytes, that the one before left: a reopening by the row's own place and length, into the same row
abbrev pub AllRowsAccepted : ℕ → ℕ → List ℕ → List ℕ → List RowTurn → Type 0
AllRowsAccepted mode opening row buf [] = Done
AllRowsAccepted mode opening row buf (writes ys ∷ turns) =
    (write_fault row ys buf ≡ no_fault) × AllRowsAccepted mode opening (write_row row ys buf) (write_buffer row ys buf) turns
AllRowsAccepted mode opening row buf (reopens k kind bound ∷ turns) =
    (reopen_fault buf (whole_bytes (place_word row)) (length_word row) k mode opening kind bound row ≡ no_fault)
    × AllRowsAccepted mode opening (reopen_row buf (whole_bytes (place_word row)) (length_word row) k mode opening kind bound row)
    (reopen_buffer buf (whole_bytes (place_word row)) (length_word row) k mode opening kind bound row) turns

-- n values that a new lossless row writes into as many bytes as `most_bytes` gives, and then its place is what `most_bits` gives; in fewer bytes they are
-- refused with 4
pub record RowFills (mode value n : ℕ) : Type 0 where
  pub values : List ℕ
  pub counted : length values ≡ n
  pub small : Below 32 values
  pub fills : (row buf : List ℕ) → writer_length ≤ length row → most_bytes_number n mode 0 ≤ length buf
      → (write_fault (new_row 0 0 mode value row) values buf ≡ no_fault) × (place_word (write_row (new_row 0 0 mode value row) values buf) ≡ most_bits_number n mode 0)
  pub short : (row buf : List ℕ) → writer_length ≤ length row → length buf < most_bytes_number n mode 0 → write_fault (new_row 0 0 mode value row) values buf ≡ fault 4
