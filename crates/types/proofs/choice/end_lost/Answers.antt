-- `choice::end_lost` meets its contract. Assumes nothing.
use Rattle.models.proofs.Laws.{finite-as}
use Rattle.types.specs.Choice.{end_lost}
use Rattle.types.proofs.choice.end_lost.Goals as goal

pub returns : goal.returns
unfolding end_lost
returns c = rw (c.is_finite-2.ensures.value, c.is_finite.ensures.value, finite-as c.value_of_f32-last.result, finite-as c.value_of_f32-first.result, c.value_of_f32-last.ensures, c.value_of_f32-first.ensures)
