-- A file that is compared, and its values: document 02, "Compare two uploads". Assumes nothing.
use Rattle.std.specs.Prelude.{Bool, cond, ◌||◌, List, [], ◌∷◌, ℕ, ◌+◌, eqb, ltb, length, take, drop, get_or}
use Rattle.models.specs.Answers.{Said, refused, Cause, ◌when◌, judge}
use Rattle.models.specs.Limits.{most_values}
use Rattle.macaque_v.specs.Read.{values_in}
use Rattle.macaque_v.specs.declared.Opening.{Opening}
use Rattle.macaque_v.specs.declared.Opening.TheVariants.{First, On}
use Rattle.listing.specs.Listing.{word_at}

-- ---- "a file of a mode byte (0 with first, 1 without), opening value and count (4 bytes each, little-endian) and bytes"

abbrev pub head_length : ℕ
head_length = 9

abbrev pub file_mode : List ℕ → ℕ
file_mode file = get_or file 0 0

abbrev pub opens_by : ℕ → ℕ → Opening
opens_by mode value = cond (eqb mode 0) First (On value)

abbrev pub file_opening : List ℕ → Opening
file_opening file = opens_by (file_mode file) (word_at file 1)

abbrev pub file_count : List ℕ → ℕ
file_count file = word_at file 5

abbrev pub file_stream : List ℕ → List ℕ
file_stream file = drop head_length file

-- ---- what is refused before the stream is read

-- "Each stream may be up to 24 KiB."
abbrev pub most_bytes : ℕ
most_bytes = 24576

-- "a mode above 1 or a stream over 24 KiB is 3", and so is a count above 65,536
abbrev pub over_limit : ℕ → ℕ → ℕ → Bool
over_limit mode count bytes = ltb 1 mode || ltb most_values count || ltb most_bytes bytes

-- "a file under 9 bytes 5", whatever its mode
abbrev pub file_causes : List ℕ → List Cause
file_causes file =
    5 when ltb (length file) head_length
    ∷ 3 when over_limit (file_mode file) (file_count file) (length (file_stream file))
    ∷ []

-- ---- the values of a file, or why it is refused

unfoldable pub file_values : List ℕ → Said (List ℕ)
file_values file = judge refused (file_causes file) (values_in (file_stream file) (file_count file) (file_opening file))

-- what a program reads of a file: up to one byte more than it may have, so that too many are noticed
abbrev pub as_read : List ℕ → List ℕ
as_read file = take (head_length + most_bytes + 1) file
