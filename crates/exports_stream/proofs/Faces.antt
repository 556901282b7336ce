-- A row that stands for no state is refused, so that an accepted write tells that its row stands for one. Assumes nothing.
use mathlib.Core.Path.{◌≡◌, refl, sym, ap, ◌∙◌}
use mathlib.Core.Bool.{Bool, true, false, not}
use mathlib.Core.List.{List}
use Prim.Native.Nat.{ℕ, ◌*◌}
use lib.Dec.{leb}
use lib.ListN.{length}
use Rattle.models.specs.Answers.{refused, SaidOn, answered_on, stateless}
use Rattle.models.specs.Bound.{bound_allowed}
use Rattle.models.specs.declared.ErrorBound.{ErrorBound}
use Rattle.models.specs.declared.Fault.{Fault}
use Rattle.models.proofs.Judged.{not-answered}
use Rattle.models.proofs.Tests.{and-false}
use Rattle.stream.specs.Format.{macaque, keeps_rule, usable}
use Rattle.macaque_v.specs.State.{state_of}
use Rattle.macaque_v.specs.Calls.{lent_bytes, write_answer}
use Rattle.macaque_v.specs.declared.MacaqueV.{MacaqueV}
use Rattle.exports.specs.Face.{no_state}
use Rattle.exports.specs.Words.{bound_front}
use Rattle.exports.proofs.Rows as rows
use Rattle.exports_stream.specs.Row.{stands_for_state, spoiled_writer, writer_in}
use Rattle.exports_stream.proofs.Words.{no-state}

-- ---- compress_values

-- it has a place and no value
pub spoiled-may-not : (b : ErrorBound) (bytes : ℕ) → usable macaque bytes (state_of (spoiled_writer b)) ≡ false
unfolding keeps_rule
spoiled-may-not b bytes = and-false (leb (spoiled_writer b).place (8 * bytes)) _ refl

-- where a row that stands for no state is refused, an accepted call tells that the row stands for one
pub accepted-stands : {A : Type 0} (row : List ℕ) (said : SaidOn MacaqueV A) (f : Fault) → (stands_for_state row ≡ false → stateless said ≡ refused f) → (a : A) → said ≡ answered_on a
    → stands_for_state row ≡ true
accepted-stands row said f refuses a e = go (stands_for_state row) refl
  where
    go : (b : Bool) → stands_for_state row ≡ b → b ≡ true
    go true h = refl
    go false h = absurd (not-answered (sym (refuses h) ∙ ap stateless e))

module _ (row xs buf : List ℕ) where
  -- a row that stands for no state is refused: with 1 where its bound is not allowed, else with 2
  pub no-state-refused : stands_for_state row ≡ false → stateless (write_answer (writer_in row) xs buf) ≡ refused (no_state (bound_allowed (bound_front row)))
  unfolding write_answer
  no-state-refused h =
      ap (λ (m : MacaqueV). stateless (write_answer m xs buf)) (sym (no-state row h))
      ∙ rows.no-state (spoiled_writer (bound_front row)) (bound_allowed (bound_front row)) _ _ _ (ap not (spoiled-may-not (bound_front row) (lent_bytes (length buf))))

  pub stands : (n : MacaqueV) → write_answer (writer_in row) xs buf ≡ answered_on n → stands_for_state row ≡ true
  stands = accepted-stands row (write_answer (writer_in row) xs buf) _ no-state-refused
