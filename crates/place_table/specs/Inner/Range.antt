-- Words of inner contracts and of proofs, beside specs/Calls. Assumes nothing.
use Rattle.std.specs.Prelude.{Bool, List, ℕ, ◌+◌, ◌*◌, ◌%◌, ◌^◌, get_or}
use Rattle.bits.specs.Bits.{bits_of}
use Rattle.models.specs.Answers.{Said, Done}
use Rattle.stream.specs.Format.{window_in}
use Rattle.stream.specs.Read.{read_all}
use Rattle.places.specs.Table.{spacing, Entry, entries_for, entries_in, same_entries, matched, without}
use Rattle.places.specs.Calls.{words_each, table_in}
use Rattle.macaque_v.specs.State.{stream_in, is_first, opened}
use Rattle.macaque_v.specs.Inner.ReadRun.{read_from}
use Rattle.macaque_v.specs.declared.Opening.{Opening}
use Rattle.macaque_v.specs.declared.read_run.Cursor.{Cursor}

-- reading stands before value 64 * i, as an entry says it
abbrev pub cursor_of : ℕ → Entry → Cursor
cursor_of i e = record { last = e.last; lead = e.win.lead; trail = e.win.trail; place = e.place; count = spacing * i }

-- the entry of where reading stands
abbrev pub here_of : Cursor → Entry
here_of at = record { place = at.place; last = at.last; win = window_in at.lead at.trail }

-- the same of lent words, each cut to the bits that a cursor has for it
abbrev pub cursor_in : List ℕ → ℕ → Cursor
cursor_in words i =
    record {
      last = get_or words (words_each * i + 1) 0 % 2 ^ 32;
      lead = get_or words (words_each * i + 2) 0 % 2 ^ 32;
      trail = get_or words (words_each * i + 3) 0 % 2 ^ 32;
      place = get_or words (words_each * i) 0;
      count = spacing * i;
    }

-- what the check says of a table with as many entries as the count asks for
abbrev pub compared : List ℕ → ℕ → Opening → List ℕ → Said Done
compared bytes count o words =
    matched (same_entries (table_in words (entries_for count)) (entries_in (stream_in (is_first o)) count (opened o) (bits_of bytes)))
    (read_all (stream_in (is_first o)) count (opened o) (bits_of bytes))

-- n values behind `skipped` others, from where reading stands
abbrev pub values_behind : Bool → List ℕ → Cursor → ℕ → ℕ → Said (List ℕ)
values_behind first bytes at skipped n = without skipped (read_from first bytes at (skipped + n))
