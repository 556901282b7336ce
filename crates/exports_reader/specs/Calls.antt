-- What the calls of the reader's C face answer and leave: the fault, and the lent memory afterwards, by what the call behind says. Assumes nothing.
use Rattle.std.specs.Prelude.{cond, List, [], ◌∷◌, ℕ, leb, ltb, length}
use Rattle.models.specs.Answers.{SaidOn, answered, Cause, ◌when◌, judge, judged_memory, itself, no_fault}
use Rattle.models.specs.declared.Fault.{Fault}
use Rattle.exports.specs.Face.{plain_fault, row_in, step_row}
use Rattle.exports_stream.specs.Calls.{opening_of}
use Rattle.reader.specs.Calls.{opened_at, Taken, end_answer}
use Rattle.reader.specs.declared.position.Position.{Position}
use Rattle.exports_reader.specs.Row.{reader_length, reader_row, position_in}

-- ---- open: a mode above 1 is 3, and a row that is too short is 4

abbrev pub open_causes : ℕ → ℕ → List Cause
open_causes mode words = 3 when ltb 1 mode ∷ 4 when ltb words reader_length ∷ []

unfoldable pub open_fault : ℕ → List ℕ → Fault
open_fault mode row = judge itself (open_causes mode (length row)) no_fault

unfoldable pub open_row : ℕ → ℕ → List ℕ → List ℕ
open_row mode opening row = judged_memory row (open_causes mode (length row)) (row_in reader_row row (answered (opened_at (opening_of mode opening))))

-- ---- next: a question to the reader that the row stands for, whose value goes into the output. The row moves exactly if the value is handed over.

abbrev pub one_value : Taken → List ℕ
one_value t = t.value ∷ []

abbrev pub moved_row : Taken → List ℕ
moved_row t = reader_row t.after

unfoldable pub next_row : List ℕ → List ℕ → SaidOn Position Taken → List ℕ
next_row row out said = cond (leb 1 (length out)) (step_row moved_row row said) row

-- ---- end

abbrev pub end_fault : List ℕ → List ℕ → Fault
end_fault bytes row = plain_fault (end_answer bytes (position_in row))
