-- A writer that is handed in with another sum (document 02, W4), where a place table stands beside it. Assumes nothing.
use Rattle.std.specs.Prelude.{◌≡◌, List, ℕ, Float}
use Rattle.models.specs.Answers.{SaidOn, answered_on, refused_on}
use Rattle.places.specs.Calls.{Beside}
use Rattle.macaque_v.specs.Sums.{with_sum, carried}
use Rattle.macaque_v.specs.declared.MacaqueV.{MacaqueV}
use Rattle.place_table.specs.Calls.{table_write_answer, table_write_memory, table_write_table}

-- an answer with another sum: s in a writer that is handed back, t in one after a write
abbrev pub with_sums_beside : Float → Float → SaidOn MacaqueV (Beside MacaqueV) → SaidOn MacaqueV (Beside MacaqueV)
with_sums_beside s t (answered_on r) = answered_on (record { writer = with_sum t r.writer; entries = r.entries })
with_sums_beside s t (refused_on f m) = refused_on f (with_sum s m)

-- handed in with the sum s, a write with a table answers what it answers for m, with the same sums carried on, and leaves the same bytes and words
pub record CarriesTheSumBeside (m : MacaqueV) (s : Float) (xs buf words : List ℕ) (entries : ℕ) : Type 0 where
  pub answer : table_write_answer (with_sum s m) xs buf words entries ≡ with_sums_beside s (carried m s xs) (table_write_answer m xs buf words entries)
  pub memory : table_write_memory (with_sum s m) xs buf words entries ≡ table_write_memory m xs buf words entries
  pub table : table_write_table (with_sum s m) xs buf words entries ≡ table_write_table m xs buf words entries
