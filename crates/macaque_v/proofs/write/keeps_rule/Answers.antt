-- `macaque_v::write::keeps_rule` meets its contract: the tests are those of the rule. Assumes nothing.
use Rattle.stream.specs.Format.{keeps_rule}
use Rattle.macaque_v.proofs.write.keeps_rule.Goals as goal

pub returns : goal.returns
unfolding keeps_rule
returns c = rw c.may_have.ensures
