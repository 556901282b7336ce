-- `macaque_v::write::kept_of` meets its contract. Assumes nothing.
use mathlib.Core.Path.{sym, ap, ◌∙◌}
use mathlib.Core.Bool.{Bool}
use Rattle.stream.specs.Write.{kept_one}
use Rattle.coding.specs.Keep.{keep_rule}
use Rattle.macaque_v.proofs.write.kept_of.Goals as goal

pub returns : goal.returns
returns c =
    let a = c.args in
    c.kept.ensures ∙ sym (ap (λ (raw : Bool). kept_one (keep_rule a.error_bound) raw a.last a.value) c.if-raw.false)
