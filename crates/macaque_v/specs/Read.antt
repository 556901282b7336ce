-- What the reading calls answer, in MacaqueV's words: of grid, reopening and rescue what the theory's calls answer and leave in lent memory, and the sum.
-- Assumes nothing.
use Rattle.std.specs.Prelude.{Bool, List, ℕ}
use Rattle.std.specs.Float.{binary32}
use Rattle.std.specs.Float.Ieee.{to_bits}
use Rattle.models.specs.Answers.{Said, Done, answered, refused, Cause, judge}
use Rattle.models.specs.Floats.{zero_f}
use Rattle.models.specs.Causes.{bound_causes, count_causes}
use Rattle.models.specs.declared.ErrorBound.{ErrorBound}
use Rattle.stream.specs.Format.{opening, opened_on, gather_from}
use Rattle.stream.specs.Calls as theory
pub use Rattle.stream.specs.Calls.{values_read, grid_causes, drawn, drawn_in}
use Rattle.macaque_v.specs.State.{gather_sum, mode_of, stream_in, is_first, opening_value}
use Rattle.macaque_v.specs.Write.{coder_of}
use Rattle.macaque_v.specs.declared.MacaqueV.{MacaqueV}
use Rattle.macaque_v.specs.declared.Opening.{Opening}
use Rattle.macaque_v.specs.declared.read_run.Cursor.{Cursor}

-- "Reading takes exactly the stream's bytes and a count"
abbrev pub values_in : List ℕ → ℕ → Opening → Said (List ℕ)
values_in bytes count o = theory.values_in (stream_in (is_first o)) (opening_value o) bytes count

-- reading stands at the start
abbrev pub start_of : Opening → Cursor
start_of o = record { last = opened_on (mode_of (is_first o)) (opening_value o); lead = opening.lead; trail = opening.trail; place = 0; count = 0 }

-- ---- grid

unfoldable pub grid_answer : List ℕ → ℕ → Opening → ℕ → Said Done
grid_answer bytes count o room = theory.grid_answer (stream_in (is_first o)) (opening_value o) bytes count room

unfoldable pub grid_memory : List ℕ → ℕ → Opening → List ℕ → List ℕ
grid_memory bytes count o out = theory.grid_memory (stream_in (is_first o)) (opening_value o) bytes count out

-- ---- sum

-- "Sum adds in f32 from the left: from the first value in with-first mode, else from 0; count 0 gives 0." A NaN is answered as 7FC00000.
abbrev pub sum_of : Bool → List ℕ → ℕ
sum_of first vs = to_bits binary32 (gather_from gather_sum (mode_of first) 0 zero_f vs)

abbrev pub summed : Bool → Said (List ℕ) → Said ℕ
summed first (answered vs) = answered (sum_of first vs)
summed first (refused n) = refused n

unfoldable pub sum_answer : List ℕ → ℕ → Opening → Said ℕ
sum_answer bytes count o = judge refused (count_causes count) (summed (is_first o) (values_in bytes count o))

-- ---- reopening

abbrev pub reopen_causes : ErrorBound → ℕ → ℕ → ℕ → ℕ → List Cause
reopen_causes b = theory.reopen_causes (bound_causes b)

unfoldable pub reopen_answer : List ℕ → ℕ → ℕ → ℕ → Opening → ErrorBound → Said MacaqueV
reopen_answer buf used count k o b = theory.reopen_answer (coder_of b (is_first o)) (opening_value o) buf used count k

unfoldable pub reopen_memory : List ℕ → ℕ → ℕ → ℕ → Opening → ErrorBound → List ℕ
reopen_memory buf used count k o b = theory.reopen_memory (coder_of b (is_first o)) (opening_value o) buf used count k

-- ---- rescue

abbrev pub rescue_causes : ErrorBound → ℕ → ℕ → ℕ → List Cause
rescue_causes b = theory.rescue_causes (bound_causes b)

unfoldable pub rescue_answer : List ℕ → ℕ → ℕ → Opening → ErrorBound → Said MacaqueV
rescue_answer buf used limit o b = theory.rescue_answer (coder_of b (is_first o)) (opening_value o) buf used limit

unfoldable pub rescue_memory : List ℕ → ℕ → ℕ → Opening → ErrorBound → List ℕ
rescue_memory buf used limit o b = theory.rescue_memory (coder_of b (is_first o)) (opening_value o) buf used limit
