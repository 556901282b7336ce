-- Reading value after value in lent bytes: where reading is, one value more, and the end. Assumes nothing.
use Rattle.std.specs.Prelude.{Bool, List, [], ℕ, ◌+◌, drop}
use Rattle.bits.specs.Bits.{bits_of}
use Rattle.models.specs.Answers.{Said, Done, answered, refused}
use Rattle.stream.specs.Format.{State, window_in, bare}
use Rattle.stream.specs.Read as stream
use Rattle.stream.specs.Read.{done, step_at, ended}
use Rattle.stream.specs.Calls.{fault_at, values_read, drawn}
use Rattle.macaque_v.specs.State.{mode_of}
use Rattle.macaque_v.specs.declared.read_run.Cursor.{Cursor}

-- ---- where reading stands

-- as a state of the theory, one that gathers nothing
abbrev pub state_at : Cursor → State Unit
state_at at = record { last = at.last; win = window_in at.lead at.trail; place = at.place; count = at.count; seen = tt }

-- the bits from there on
abbrev pub ahead : List ℕ → Cursor → List Bool
ahead bytes at = drop at.place (bits_of bytes)

-- ---- one value

-- one value more: where reading stands behind it, by the theory's step
abbrev pub moved_by : Cursor → stream.Step → Said Cursor
moved_by at (stream.got v win used) =
    answered (record { last = v; lead = win.lead; trail = win.trail; place = at.place + used; count = at.count + 1 })
moved_by at (stream.halt n) = refused (fault_at (record { no = n; value = at.count; place = at.place }))

abbrev pub next_from : Bool → List ℕ → Cursor → Said Cursor
next_from first bytes at = moved_by at (step_at (bare (mode_of first)) (state_at at) (ahead bytes at))

-- ---- what is left

-- the end is there: nothing is left, or 8
unfoldable pub end_said : List ℕ → Cursor → Said Done
end_said bytes at = drawn (values_read (ended (done [] (state_at at) (ahead bytes at))))
