-- `parameters::pmc_mean_in` meets its contract. Assumes nothing.
use borrow.Author.Rules.{rules}
use mathlib.Core.Path.{sym}
use Rattle.parameters.proofs.Read.{value_read}
use Rattle.parameters.proofs.pmc_mean_in.Goals as goal

pub returns-in-Value : goal.returns-in-Value
returns-in-Value c = rw (c.in-Value.is, c.plain-in-Value.ensures) (sym (value_read _ _ _ (search rules)))
