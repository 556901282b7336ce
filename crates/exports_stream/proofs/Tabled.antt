-- What a write with a place table on a writer's row answers, case by case. Assumes nothing.
use mathlib.Core.Path.{◌≡◌, sym, ap, ◌∙◌}
use mathlib.Core.Bool.{true, false, not}
use mathlib.Core.List.{List}
use Prim.Native.Nat.{ℕ}
use lib.ListN.{length}
use Rattle.models.specs.Answers.{answered_on, refused, stateless}
use Rattle.models.specs.Bound.{bound_allowed}
use Rattle.stream.specs.Calls.{lent_bytes}
use Rattle.places.specs.Calls.{Beside}
use Rattle.macaque_v.specs.declared.MacaqueV.{MacaqueV}
use Rattle.place_table.specs.Calls.{table_write_answer}
use Rattle.exports.specs.Face.{no_state}
use Rattle.exports.specs.Words.{bound_front}
use Rattle.exports.proofs.Rows as rows
use Rattle.exports_stream.specs.Row.{stands_for_state, spoiled_writer, writer_in}
use Rattle.exports_stream.proofs.Words.{no-state}
use Rattle.exports_stream.proofs.Faces.{spoiled-may-not, accepted-stands}

module _ (row xs buf words : List ℕ) (entries : ℕ) where
  -- a row that stands for no state is refused: with 1 where its bound is not allowed, else with 2
  pub no-state-refused : stands_for_state row ≡ false → stateless (table_write_answer (writer_in row) xs buf words entries) ≡ refused (no_state (bound_allowed (bound_front row)))
  unfolding table_write_answer
  no-state-refused h =
      ap (λ (m : MacaqueV). stateless (table_write_answer m xs buf words entries)) (sym (no-state row h))
      ∙ rows.no-state (spoiled_writer (bound_front row)) (bound_allowed (bound_front row)) _ _ _ (ap not (spoiled-may-not (bound_front row) (lent_bytes (length buf))))

  pub stands : (a : Beside MacaqueV) → table_write_answer (writer_in row) xs buf words entries ≡ answered_on a → stands_for_state row ≡ true
  stands = accepted-stands row (table_write_answer (writer_in row) xs buf words entries) _ no-state-refused
