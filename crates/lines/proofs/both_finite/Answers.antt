-- `lines::both_finite` meets its contract. Assumes nothing.
use Rattle.models.proofs.Laws.{finite-as}
use Rattle.lines.proofs.both_finite.Goals as goal

pub returns : goal.returns
returns c = rw (c.is_finite.ensures.value, c.is_finite-2.ensures.value, finite-as c.args.a, finite-as c.args.b)
