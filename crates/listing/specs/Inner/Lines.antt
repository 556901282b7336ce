-- Text that is put into a line, and a row by where reading stands before and behind its value. Assumes nothing.
use Rattle.std.specs.Prelude.{◌≡◌, List, ℕ, ◌+◌, ◌-◌, length}
use Rattle.std.proofs.lemmas.List.Edits.{sets}
use Rattle.stream.specs.Format.{is_raw}
use Rattle.macaque_v.specs.ReadRun.{state_at, ahead}
use Rattle.macaque_v.specs.declared.read_run.Cursor.{Cursor}
use Rattle.listing.specs.Rows.{listed, kind_read}
use Rattle.listing.specs.declared.Fields.{Fields}

-- the text is there from the place `at` on, and r is the place behind it
pub record Put (old : List ℕ) (at : ℕ) (text new : List ℕ) (r : ℕ) : Type 0 where
  pub is : new ≡ sets old at text
  pub ends : r ≡ at + length text

abbrev pub row_between : List ℕ → Cursor → Cursor → Fields
row_between bytes at to =
    record {
      kind = kind_read (is_raw listed (state_at at)) (ahead bytes at);
      lead = to.lead;
      bits = to.place - at.place;
      value = to.last;
    }
