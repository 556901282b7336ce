-- Words of inner contracts and of proofs: a writer that is opened with its entries, and the entries of what was found in the bytes. Assumes nothing.
use Rattle.std.specs.Prelude.{◌≡◌, Bool, List, ℕ, ◌≤◌, length, Result, Ok, Err}
use Rattle.bits.specs.Bits.{bits_of}
use Rattle.models.specs.Answers.{Said, answered, refused}
use Rattle.models.specs.Limits.{most_values}
use Rattle.models.specs.declared.Refusal.{Refusal}
use Rattle.stream.specs.Format.{State}
use Rattle.stream.specs.Read.{done, read_n}
use Rattle.places.specs.Table.{Entry, entries_for, entries_in}
use Rattle.places.specs.Calls.{Beside, entries_lent, laid_entries}
use Rattle.macaque_v.specs.State.{Known, stream_in, is_first, opened}
use Rattle.macaque_v.specs.declared.MacaqueV.{MacaqueV}
use Rattle.macaque_v.specs.declared.Opening.{Opening}
use Rattle.macaque_v.specs.declared.read_run.Cursor.{Cursor}
use Rattle.macaque_v.specs.declared.read_run.Tally.{Tally}

-- a writer, and how many entries its values ask for
abbrev pub beside_said : Said MacaqueV → Said (Beside MacaqueV)
beside_said (answered m) = answered (record { writer = m; entries = entries_for m.length })
beside_said (refused f) = refused f

-- the entries of the first n values of the bytes
abbrev pub own_entries : List ℕ → Opening → ℕ → List Entry
own_entries bytes o n = entries_in (stream_in (is_first o)) n (opened o) (bits_of bytes)

-- there are so many values in them
pub record ReadsFirst (bytes : List ℕ) (o : Opening) (n : ℕ) : Type 0 where
  pub values : List ℕ
  pub state : State Known
  pub rest : List Bool
  pub reads : read_n (stream_in (is_first o)) n (opened o) (bits_of bytes) ≡ done values state rest

-- what was found is there, and the words have room for its entries
abbrev pub FoundIn : List ℕ → Opening → List ℕ → Result (Cursor × Tally) Refusal → Type 0
FoundIn bytes o words (Ok (at, t)) = ReadsFirst bytes o at.count × (at.count ≤ most_values) × (entries_for at.count ≤ entries_lent (length words))
FoundIn bytes o words (Err r) = Unit

abbrev pub noted_found : List ℕ → Opening → List ℕ → Result (Cursor × Tally) Refusal → List ℕ
noted_found bytes o words (Ok (at, t)) = laid_entries words 0 (own_entries bytes o at.count)
noted_found bytes o words (Err r) = words
