-- `macaque_v::read::sum` meets its contract. Assumes nothing.
use mathlib.Core.Path.{◌≡◌, sym, ap, ◌∙◌, subst}
use native.Mathlib.Omega.{arith}
use borrow.Author.Tests.{lt-ltb, le-ltb}
use lib.Ieee.{binary32, to_bits}
use Rattle.models.specs.Answers.{answered, judge}
use Rattle.models.specs.Limits.{most_values}
use Rattle.macaque_v.specs.State.{is_first}
use Rattle.macaque_v.specs.Inner.ReadRun.{WholeSays}
use Rattle.macaque_v.specs.Read.{values_in, start_of, summed, sum_answer}
use Rattle.macaque_v.specs.declared.read_run.Aim.TheVariants as OfAim
use Rattle.macaque_v.specs.declared.read_run.Tally.{Tally}
use Rattle.macaque_v.proofs.Passing.{passed-on}
use Rattle.macaque_v.proofs.ReadingAll.{values-right, values-wrong}
use Rattle.macaque_v.proofs.read.sum.Goals as goal
use Rattle.macaque_v.proofs.read.sum.Goals.{After-go_to_end, Else-count-gt-MOST_VALUES}

-- what going through the stream says, from its start
told : (c : After-go_to_end)
    → WholeSays (is_first c.args.opening) c.args.bytes.now
    (start_of c.args.opening) c.args.count OfAim.Sum c.go_to_end.result
told c = rw (c.open.ensures.0, c.open.ensures.1, c.open.ensures.2) at c.go_to_end.ensures

-- not too many values
few : (c : Else-count-gt-MOST_VALUES)
    → sum_answer c.args.bytes.now c.args.count c.args.opening
    ≡ summed (is_first c.args.opening) (values_in c.args.bytes.now c.args.count c.args.opening)
unfolding sum_answer judge
few c = rw (le-ltb most_values c.args.count c.if-count-gt-MOST_VALUES.false)

pub returns-then-count-gt-MOST_VALUES : goal.returns-then-count-gt-MOST_VALUES
unfolding sum_answer judge
returns-then-count-gt-MOST_VALUES c = rw (lt-ltb most_values c.args.count c.if-count-gt-MOST_VALUES.true)

pub go_to_end-requires : goal.go_to_end-requires
go_to_end-requires c = rw c.open.ensures.2 (omega arith)

pub returns-in_err-tally : goal.returns-in_err-tally
returns-in_err-tally c =
    let a = c.args in
    let says = subst (WholeSays (is_first a.opening) a.bytes.now (start_of a.opening) a.count OfAim.Sum) c.in_err-tally.was (told (goal.at.returns-in_err-tally c).After-go_to_end) in
    rw (passed-on c.from_residual.result c.from_residual.ensures.1)
    (sym (few (goal.at.returns-in_err-tally c).Else-count-gt-MOST_VALUES ∙ ap (summed (is_first a.opening)) (values-wrong a.bytes.now a.opening a.count c.in_err-tally.field-0.0 says)))

pub returns : goal.returns
returns c =
    let a = c.args in
    let says = subst (WholeSays (is_first a.opening) a.bytes.now (start_of a.opening) a.count OfAim.Sum) c.in_ok-tally.was (told (goal.at.returns c).After-go_to_end) in
    ap answered (c.bits_of_f32.ensures ∙ ap (λ (t : Tally). to_bits binary32 t.sum) says.0.tally)
    ∙ sym (few (goal.at.returns c).Else-count-gt-MOST_VALUES ∙ ap (summed (is_first a.opening)) (values-right a.bytes.now a.opening says.0.reads says.1))
