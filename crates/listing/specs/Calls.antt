-- What the calls answer and what they leave in the lent line. Assumes nothing.
use Rattle.std.specs.Prelude.{Bool, not, ◌&&◌, ◌||◌, List, [], ◌∷◌, ℕ, ◌+◌, ◌*◌, leb, ltb, length}
use Rattle.models.specs.Answers.{Said, answered, refused, Cause, ◌when◌, judge, keeping}
use Rattle.models.specs.Limits.{most_values}
use Rattle.stream.specs.Format.{macaque, window_in, unset, is_raw}
use Rattle.stream.specs.Calls.{fault_at}
use Rattle.stream.specs.Read as stream
use Rattle.stream.specs.Read.{Reading, done, stopped, Step, step_at}
use Rattle.macaque_v.specs.ReadRun.{state_at, ahead}
use Rattle.macaque_v.specs.declared.read_run.Cursor.{Cursor}
use Rattle.listing.specs.Text.{row_text, laid}
use Rattle.listing.specs.Rows.{listed, row_of}
use Rattle.listing.specs.Listing.{count_in, stream_in, input_causes, read_whole}
use Rattle.listing.specs.declared.Fields.{Fields}
-- the length of a row's line, and where reading stands behind it
pub use Rattle.listing.specs.declared.RowLine.{RowLine}

-- ---- judge: how many rows the listing of an input has

abbrev pub counted : ℕ → Reading Unit → Said ℕ
counted n (done vs s rest) = answered n
counted n (stopped f) = refused (fault_at f)

unfoldable pub judge_answer : List ℕ → Said ℕ
judge_answer input = judge refused (input_causes input) (counted (count_in input) (read_whole (count_in input) (stream_in input)))

-- ---- row: the next value's line, and where reading stands behind it

-- the rule for where reading stands, in a stream of so many bytes: the places that reading leads to keep it
unfoldable pub may_stand : ℕ → Cursor → Bool
may_stand room at =
    leb at.count most_values
    && (leb at.place (45 * at.count)
    && (leb at.place (8 * room)
    && (unset (window_in at.lead at.trail) || ltb (at.lead + at.trail) macaque.width)))

-- the row of the value that is read next, and where reading stands behind it
pub record FoundRow : Type 0 where
  pub row : Fields
  pub next : Cursor

abbrev pub found_by : Cursor → List Bool → Step → Said FoundRow
found_by at bs (stream.got v win used) =
    answered
    (record {
      row = row_of (is_raw listed (state_at at)) bs v win used;
      next = record { last = v; lead = win.lead; trail = win.trail; place = at.place + used; count = at.count + 1 };
    })
found_by at bs (stream.halt n) = refused (fault_at (record { no = n; value = at.count; place = at.place }))

unfoldable pub row_found : List ℕ → Cursor → Said FoundRow
row_found bytes at = found_by at (ahead bytes at) (step_at listed (state_at at) (ahead bytes at))

abbrev pub row_causes : ℕ → Cursor → List Cause
row_causes room at = 2 when not (may_stand room at) ∷ 3 when leb most_values at.count ∷ []

abbrev pub line_of : Cursor → Said FoundRow → Said RowLine
line_of at (answered r) = answered (record { length = length (row_text at.count r.row); next = r.next })
line_of at (refused f) = refused f

abbrev pub line_in : List ℕ → Cursor → Said FoundRow → List ℕ
line_in line at (answered r) = laid (row_text at.count r.row) line
line_in line at (refused f) = line

unfoldable pub row_answer : List ℕ → Cursor → Said RowLine
row_answer bytes at = judge refused (row_causes (length bytes) at) (line_of at (row_found bytes at))

unfoldable pub row_memory : List ℕ → Cursor → List ℕ → List ℕ
row_memory bytes at line = judge (keeping line) (row_causes (length bytes) at) (line_in line at (row_found bytes at))
