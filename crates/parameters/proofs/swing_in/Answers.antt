-- `parameters::swing_in` meets its contract. Assumes nothing.
use borrow.Author.Rules.{rules}
use mathlib.Core.Path.{sym, ◌∙◌}
use Rattle.parameters.proofs.Read.{both_read}
use Rattle.parameters.proofs.swing_in.Goals as goal

pub returns-in-Both : goal.returns-in-Both
returns-in-Both c = rw c.in-Both.is (c.ends-in-Both.ensures ∙ sym (both_read _ _ _ _ (search rules) (search rules)))
