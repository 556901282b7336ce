-- `numbers::wider` meets its contract: past the test it is no NaN, and the wider format holds it. Assumes nothing.
use mathlib.Core.Path.{sym, ◌∙◌, subst}
use lib.Dec.{T}
use lib.Ieee.{binary64}
use Rattle.numbers.proofs.Nans.{differs, equals_itself, widens, zero_by_zero}
use Rattle.numbers.proofs.wider.Goals as goal

pub float_to_float-result : goal.float_to_float-result
float_to_float-result c =
    let x = c.args.x in
    widens x (subst T (sym c.well_formed.0.1) tt) (equals_itself x c.if-x.false)

pub returns-then-x : goal.returns-then-x
returns-then-x c = zero_by_zero binary64 ∙ sym (differs c.args.x c.if-x.true)
