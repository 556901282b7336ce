-- The whole output of the listing program, from the bytes of its input. Assumes nothing.
use Rattle.std.specs.Prelude.{List, [], ◌∷◌, ◌++◌, ℕ, ◌+◌, ◌*◌, ltb, length, drop, get_or}
use Rattle.bits.specs.Bits.{bits_of}
use Rattle.models.specs.Answers.{Cause, ◌when◌, judge}
use Rattle.models.specs.Limits.{most_values}
use Rattle.stream.specs.Format.{State, fresh}
use Rattle.stream.specs.Read.{Reading, done, stopped, read_all}
use Rattle.stream.specs.Calls.{fault_at}
use Rattle.listing.specs.Text.{header_text, total_text, refused_text}
use Rattle.listing.specs.Rows.{listed, rows_from, total_bits, rows_text}
use Rattle.listing.specs.declared.Fields.{Fields}

-- ---- the input: "a with-first stream's count (4 bytes, little-endian) and bytes"

-- the number in four bytes from a place on, the lowest first
abbrev pub word_at : List ℕ → ℕ → ℕ
word_at bytes at = get_or bytes at 0 + 256 * (get_or bytes (at + 1) 0 + 256 * (get_or bytes (at + 2) 0 + 256 * get_or bytes (at + 3) 0))

abbrev pub count_in : List ℕ → ℕ
count_in input = word_at input 0

abbrev pub stream_in : List ℕ → List ℕ
stream_in input = drop 4 input

-- "at most 32,768 bytes in all. More is refused with 3, fewer than 4 with 5." A count above 65,536 is 3.
abbrev pub input_causes : List ℕ → List Cause
input_causes input =
    3 when ltb 32768 (length input)
    ∷ 5 when ltb (length input) 4
    ∷ 3 when ltb most_values (count_in input)
    ∷ []

-- ---- the stream, read whole

abbrev pub start : State Unit
start = fresh listed 0

abbrev pub read_whole : ℕ → List ℕ → Reading Unit
read_whole n bytes = read_all listed n start (bits_of bytes)

-- ---- the output

abbrev pub text_of : List Fields → List ℕ
text_of rows = header_text ++ rows_text 0 rows ++ total_text (total_bits rows)

abbrev pub text_by : List Fields → Reading Unit → List ℕ
text_by rows (done vs s rest) = text_of rows
text_by rows (stopped f) = refused_text (fault_at f)

abbrev pub stream_text : ℕ → List ℕ → List ℕ
stream_text n bytes = text_by (rows_from n start (bits_of bytes)) (read_whole n bytes)

unfoldable pub listing_text : List ℕ → List ℕ
listing_text input = judge refused_text (input_causes input) (stream_text (count_in input) (stream_in input))
