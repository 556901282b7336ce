-- `models::deviation` meets its contract, variant by variant.
-- Assumes nothing.
use lib.Ieee as Ieee
use Rattle.models.specs.Bound.{deviation}
use Rattle.models.proofs.Laws.{abs-as}
use borrow.Author.Rules.{rules}
use Rattle.models.proofs.deviation.Goals as goal

pub returns-in-Relative : goal.returns-in-Relative
unfolding deviation Ieee.of_bits
returns-in-Relative c = rw (c.in-Relative.is, c.abs.ensures.value, abs-as, c.widen-in-Relative.ensures)
