-- `models::is_near` meets its contract, variant by variant.
-- Assumes nothing.
use lib.Ieee as Ieee
use Rattle.models.specs.Bound.{near_in}
use Rattle.models.proofs.Laws.{size-at-most, percent-at-most}
use Rattle.models.proofs.is_near.Goals as goal

pub returns-in-Absolute : goal.returns-in-Absolute
unfolding near_in
returns-in-Absolute c = rw (c.in-Absolute.is, c.wider.ensures, c.size_f64.ensures) (size-at-most _ _)

pub returns-in-Relative : goal.returns-in-Relative
unfolding near_in Ieee.of_bits
returns-in-Relative c = rw (c.in-Relative.is, c.wider-in-Relative.ensures, c.size_f64-in-Relative.ensures) (percent-at-most _ _ _)
