-- `exports_reader::modelardb_reader_next` meets its contract: the row takes the reader behind the value. Assumes nothing.
use mathlib.Core.Path.{◌≡◌, sym, ap, ◌∙◌}
use mathlib.Core.List.{List}
use mathlib.Core.Logic.{inl}
use Prim.Native.Nat.{ℕ}
use native.Mathlib.Omega.{arith}
use Rattle.std.specs.Prelude.{Result}
use Rattle.models.specs.Answers.{no_fault, answered, answered_on}
use Rattle.models.specs.declared.Refusal.{Refusal}
use Rattle.reader.specs.Calls.{Taken, says_next, next_answer}
use Rattle.reader.specs.declared.position.Position.{Position}
use Rattle.exports.specs.Face.{row_in}
use Rattle.exports.proofs.Rows.{step-said}
use Rattle.exports_reader.specs.Row.{reader_length, reader_row, position_in}
use Rattle.exports_reader.proofs.Faces.{next-answered, stands, has_words, put-reader}
use Rattle.exports_reader.proofs.modelardb_reader_next.Goals as goal
use Rattle.exports_reader.proofs.modelardb_reader_next.Goals.{After-put_words}

module _ (c : After-put_words) where
  abbrev row : List ℕ
  row = c.args.reader.now

  abbrev taken : Taken
  taken = record { value = c.in-Ok.value; after = c.step_from-step.result.after }

  -- what the call behind says, of the reader that the row stands for
  said : next_answer c.args.bytes.now (position_in row) ≡ answered_on taken
  said =
      sym (c.step_from-step.ensures ∙ ap (next_answer c.args.bytes.now) c.position_in.ensures)
      ∙ ap (λ (x : Result ℕ Refusal). says_next x taken.after) c.in-Ok.is

  put : (c.put_words.result ≡ no_fault) × (c.put_words.new.row ≡ row_in reader_row row (answered taken.after))
  put =
      step-said {S = Position} reader_length reader_row row (answered_on taken.after) (inl (has_words row (stands c.args.bytes.now row taken said)))
      (put-reader row taken.after _ c.position_words.ensures c.put_words.ensures.fault c.put_words.ensures.row)

pub returns-else-out-lt1-clause-fault : goal.returns-else-out-lt1-clause-fault
returns-else-out-lt1-clause-fault c =
    let p = (goal.at.returns-else-out-lt1-clause-fault c).After-put_words in
    (put p).0 ∙ (next-answered c.args.reader.now c.args.out.now _ (taken p) (said p) (omega arith)).0

pub returns-else-out-lt1-clause-row : goal.returns-else-out-lt1-clause-row
returns-else-out-lt1-clause-row c =
    let p = (goal.at.returns-else-out-lt1-clause-row c).After-put_words in
    (put p).1 ∙ (next-answered c.args.reader.now c.args.out.now _ (taken p) (said p) (omega arith)).1
