-- `macaque_v::MacaqueV::new` meets its contract. Assumes nothing.
use lib.Ieee.{of_bits}
use Rattle.models.specs.Answers.{judge}
use Rattle.macaque_v.specs.Calls.{new_answer}
use Rattle.macaque_v.proofs.MacaqueV.new.Goals as goal

pub returns-then-not-bound_allowed : goal.returns-then-not-bound_allowed
unfolding judge new_answer
returns-then-not-bound_allowed c = rw (← c.bound_allowed.ensures, c.if-not-bound_allowed.true)

pub returns : goal.returns
unfolding judge new_answer of_bits
returns c = rw (← c.bound_allowed.ensures, c.if-not-bound_allowed.false, c.first_last.ensures, c.is_first.ensures)
