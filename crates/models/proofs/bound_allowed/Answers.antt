-- `models::bound_allowed` meets its contract, variant by variant.
-- Assumes nothing.
use lib.Ieee as Ieee
use Rattle.models.specs.Bound.{bound_allowed}
use Rattle.models.proofs.Laws.{finite-as}
use Rattle.models.proofs.bound_allowed.Goals as goal

pub returns-in-Absolute : goal.returns-in-Absolute
unfolding bound_allowed Ieee.of_bits
returns-in-Absolute c = rw (c.in-Absolute.is, c.is_finite.ensures.value, finite-as)

pub returns-in-Relative : goal.returns-in-Relative
unfolding bound_allowed Ieee.of_bits
returns-in-Relative c = rw c.in-Relative.is
