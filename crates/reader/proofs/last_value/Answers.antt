-- `reader::last_value` meets its contract: it goes through the stream to its end, and reading stands at the last value. Assumes nothing.
use mathlib.Core.Path.{◌≡◌, sym, ap, ◌∙◌, subst}
use Prim.Native.Nat.{ℕ}
use native.Mathlib.Omega.{arith}
use borrow.Author.Tests.{lt-ltb, le-ltb}
use Rattle.std.proofs.lemmas.Result.{err_from_is_err_and}
use Rattle.models.specs.Answers.{answered, judge}
use Rattle.models.specs.Limits.{most_values}
use Rattle.macaque_v.specs.State.{is_first}
use Rattle.macaque_v.specs.Inner.ReadRun.{WholeSays, Reads}
use Rattle.macaque_v.specs.Read.{values_in, start_of}
use Rattle.macaque_v.specs.declared.read_run.Aim.TheVariants as OfAim
use Rattle.macaque_v.proofs.ReadingAll.{values-right, values-wrong}
use Rattle.reader.specs.Run.{last_of, last_answer}
use Rattle.reader.proofs.Last.{last-of-none, last-of-some}
use Rattle.reader.proofs.last_value.Goals as goal
use Rattle.reader.proofs.last_value.Goals.{After-go_to_end, Else-count-gt-MOST_VALUES}

-- what going through the stream says, from its start
told : (c : After-go_to_end)
    → WholeSays (is_first c.args.opening) c.args.stream.now (start_of c.args.opening) c.args.count OfAim.Nothing c.go_to_end.result
told c = rw (c.open.ensures.0, c.open.ensures.1, c.open.ensures.2) at c.go_to_end.ensures

-- not too many values
few : (c : Else-count-gt-MOST_VALUES)
    → last_answer c.args.stream.now c.args.count c.args.opening
    ≡ last_of 0 (values_in c.args.stream.now c.args.count c.args.opening)
unfolding last_answer judge
few c = rw (le-ltb most_values c.args.count c.if-count-gt-MOST_VALUES.false)

pub returns-then-count-gt-MOST_VALUES : goal.returns-then-count-gt-MOST_VALUES
unfolding last_answer judge
returns-then-count-gt-MOST_VALUES c = rw (lt-ltb most_values c.args.count c.if-count-gt-MOST_VALUES.true)

pub go_to_end-requires : goal.go_to_end-requires
go_to_end-requires c = rw c.open.ensures.2 (omega arith)

pub returns-then-count-eq0 : goal.returns-then-count-eq0
returns-then-count-eq0 c =
    let a = c.args in
    let first = is_first a.opening in
    let to = c.in_ok-to.to in
    let says = subst (WholeSays first a.stream.now (start_of a.opening) a.count OfAim.Nothing) c.in_ok-to.was (told (goal.at.returns-then-count-eq0 c).After-go_to_end) in
    let whole = few (goal.at.returns-then-count-eq0 c).Else-count-gt-MOST_VALUES ∙ ap (last_of 0) (values-right a.stream.now a.opening says.0.reads says.1) in
    let none = subst (λ (n : ℕ). Reads first a.stream.now (start_of a.opening) n says.0.values to) c.if-count-eq0.true says.0.reads in
    sym (whole ∙ ap answered (last-of-none first a.stream.now (start_of a.opening) to says.0.values none))

pub returns-in_err-to : goal.returns-in_err-to
returns-in_err-to c =
    let a = c.args in
    let says = subst (WholeSays (is_first a.opening) a.stream.now (start_of a.opening) a.count OfAim.Nothing) c.in_err-to.was (told (goal.at.returns-in_err-to c).After-go_to_end) in
    let p = err_from_is_err_and c.from_residual.result c.from_residual.ensures.1 in
    rw (p.1, p.2) (sym (few (goal.at.returns-in_err-to c).Else-count-gt-MOST_VALUES ∙ ap (last_of 0) (values-wrong a.stream.now a.opening a.count c.in_err-to.field-0.0 says)))

pub returns : goal.returns
returns c =
    let a = c.args in
    let first = is_first a.opening in
    let to = c.in_ok-to.to in
    let says = subst (WholeSays first a.stream.now (start_of a.opening) a.count OfAim.Nothing) c.in_ok-to.was (told (goal.at.returns c).After-go_to_end) in
    let whole = few (goal.at.returns c).Else-count-gt-MOST_VALUES ∙ ap (last_of 0) (values-right a.stream.now a.opening says.0.reads says.1) in
    sym (whole ∙ ap answered (last-of-some first a.stream.now (start_of a.opening) to a.count says.0.values (omega (arith, c.if-count-eq0.false)) says.0.reads))
