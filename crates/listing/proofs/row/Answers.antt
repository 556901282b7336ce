-- `listing::row` meets its contract. Assumes nothing.
use mathlib.Core.Path.{◌≡◌, sym, ap, ◌∙◌, subst}
use mathlib.Core.Bool.{true, false}
use mathlib.Core.List.{List}
use Prim.Native.Nat.{ℕ}
use native.Mathlib.Omega.{arith}
use borrow.Author.Tests.{le-leb, lt-leb}
use lib.ListN.{length}
use Rattle.std.specs.Prelude.{Result}
use Rattle.std.proofs.lemmas.Result.{err_from_is_err_and}
use Rattle.models.specs.Answers.{answered, judge}
use Rattle.models.specs.Limits.{most_values}
use Rattle.models.specs.declared.Refusal.{Refusal}
use Rattle.macaque_v.specs.Inner.ReadRun.{NextSays}
use Rattle.macaque_v.specs.declared.read_run.Cursor.{Cursor}
use Rattle.listing.specs.Text.{row_text, laid}
use Rattle.listing.specs.Calls.{may_stand, row_found, line_of, line_in, row_answer, row_memory}
use Rattle.listing.specs.declared.Fields.{Fields}
use Rattle.listing.proofs.Finding.{stands, found, unfound}
use Rattle.listing.proofs.row.Goals as goal
use Rattle.listing.proofs.row.Goals.{After-next, Else-at-ge-MOST_VALUES}

-- reading may stand there, and goes on
module _ (c : Else-at-ge-MOST_VALUES) where
  abbrev bytes : List ℕ
  bytes = c.args.stream.now

  abbrev at : Cursor
  at = c.args.at

  allowed : may_stand (length bytes) at ≡ true
  allowed = sym c.may_stand.ensures ∙ c.if-not-may_stand.false

  answers : row_answer bytes at ≡ line_of at (row_found bytes at)
  unfolding row_answer judge
  answers = rw (allowed, lt-leb most_values at.count (omega arith))

  leaves : (line : List ℕ) → row_memory bytes at line ≡ line_in line at (row_found bytes at)
  unfolding row_memory judge
  leaves line = rw (allowed, lt-leb most_values at.count (omega arith))

-- what the reading step says
module _ (c : After-next) where
  told : (r : Result Cursor Refusal) → c.next.result ≡ r → NextSays true c.args.stream.now c.args.at r
  told r e = subst (NextSays true c.args.stream.now c.args.at) e c.next.ensures

pub returns-then-not-may_stand : goal.returns-then-not-may_stand
unfolding row_answer row_memory judge
returns-then-not-may_stand c =
    let a = c.args in
    let e : may_stand (length a.stream.now) a.at ≡ false = sym c.may_stand.ensures ∙ c.if-not-may_stand.true in
    record { answer = rw e; text = rw e }

pub returns-then-at-ge-MOST_VALUES : goal.returns-then-at-ge-MOST_VALUES
unfolding row_answer row_memory judge
returns-then-at-ge-MOST_VALUES c =
    let a = c.args in
    let e : may_stand (length a.stream.now) a.at ≡ true = sym c.may_stand.ensures ∙ c.if-not-may_stand.false in
    let full = le-leb most_values a.at.count (omega arith) in
    record { answer = rw (e, full); text = rw (e, full) }

pub invariant_of-from : goal.invariant_of-from
invariant_of-from c =
    record { readable = stands c.args.stream.now c.args.at (allowed (goal.at.invariant_of-from c).Else-at-ge-MOST_VALUES) (omega arith) }

pub next-requires : goal.next-requires
next-requires c = omega arith

pub row_between-requires : goal.row_between-requires
row_between-requires c =
    let a = c.args in
    (found a.stream.now a.at _ (told (goal.at.row_between-requires c).After-next _ c.in_ok-next.was).0).0

pub returns-in_err-next : goal.returns-in_err-next
returns-in_err-next c =
    let a = c.args in
    let e = (goal.at.returns-in_err-next c).Else-at-ge-MOST_VALUES in
    let f = unfound a.stream.now a.at c.in_err-next.field-0.0 (told (goal.at.returns-in_err-next c).After-next _ c.in_err-next.was) in
    let p = err_from_is_err_and c.from_residual.result c.from_residual.ensures.1 in
    record { answer = rw (p.1, p.2) (sym (answers e ∙ ap (line_of a.at) f)); text = sym (leaves e _ ∙ ap (line_in _ a.at) f) }

pub returns : goal.returns
returns c =
    let a = c.args in
    let e = (goal.at.returns c).Else-at-ge-MOST_VALUES in
    let next = c.in_ok-next.next in
    let f = (found a.stream.now a.at next (told (goal.at.returns c).After-next _ c.in_ok-next.was).0).1 in
    let is = c.row_between.ensures in
    let l = c.row-length.ensures in
    record {
      answer =
          ap (λ (k : ℕ). answered (record { length = k; next = next })) (l.length ∙ ap (λ (r : Fields). length (row_text a.at.count r)) is)
          ∙ sym (answers e ∙ ap (line_of a.at) f);
      text =
          l.text
          ∙ ap (λ (r : Fields). laid (row_text a.at.count r) a.line.now) is
          ∙ sym (leaves e a.line.now ∙ ap (line_in a.line.now a.at) f);
    }
