-- What a caller prints who judges an input first, and then prints the one line of its refusal; or the header, the line of each row in turn, and the
-- total, all but the header through one array of 80 bytes. Each part is what the contract of the call says that it answers and leaves in the array.
-- Assumes nothing.
use Rattle.std.specs.Prelude.{List, [], ◌++◌, ℕ, zero, suc, length, take}
use Rattle.models.specs.Answers.{Said, answered, refused}
use Rattle.macaque_v.specs.Read.{start_of}
use Rattle.macaque_v.specs.declared.Opening.TheVariants.{First}
use Rattle.macaque_v.specs.declared.read_run.Cursor.{Cursor}
use Rattle.listing.specs.Text.{header_text, total_text, refused_text, laid}
use Rattle.listing.specs.Listing.{stream_in}
use Rattle.listing.specs.Calls.{judge_answer, RowLine, row_answer, row_memory}

-- of a line that holds this text: as many bytes as the call answered
abbrev pub line_printed : List ℕ → List ℕ → List ℕ
line_printed text line = take (length text) (laid text line)

abbrev pub then_printed : Said RowLine → List ℕ → (Cursor → List ℕ) → List ℕ
then_printed (answered l) line rest = take l.length line ++ rest l.next
then_printed (refused f) line rest = []

-- n rows and the total, which is the place behind the last
unfoldable pub rows_printed : ℕ → List ℕ → Cursor → List ℕ → List ℕ
rows_printed zero bytes at line = line_printed (total_text at.place) line
rows_printed (suc n) bytes at line =
    then_printed (row_answer bytes at) (row_memory bytes at line) (λ next. rows_printed n bytes next (row_memory bytes at line))

abbrev pub printed_by : List ℕ → List ℕ → Said ℕ → List ℕ
printed_by bytes line (answered n) = header_text ++ rows_printed n bytes (start_of First) line
printed_by bytes line (refused f) = line_printed (refused_text f) line

unfoldable pub printed : List ℕ → List ℕ → List ℕ
printed input line = printed_by (stream_in input) line (judge_answer input)
