-- `macaque_v::MacaqueV::pen` meets its contract. Assumes nothing.
use mathlib.Core.Path.{ap, ap₂, ◌∙◌}
use mathlib.Core.Bool.{Bool}
use lib.Ieee.{Float}
use Rattle.macaque_v.specs.Inner.Total.{added_to}
use Rattle.macaque_v.specs.declared.MacaqueV.{MacaqueV}
use Rattle.macaque_v.specs.declared.span.Span.{Span}
use Rattle.macaque_v.specs.declared.write.Pen.{Pen}
use Rattle.macaque_v.proofs.Stepping.{raw-is}
use Rattle.macaque_v.proofs.MacaqueV.pen.Goals as goal

abbrev pen_with : MacaqueV → Span → Float → Pen
pen_with m s x =
    record { last = m.last_value; lead = m.last_leading_zero_bits; trail = m.last_trailing_zero_bits; place = m.place; span = s; sum = x }

pub returns : goal.returns
returns c =
    let a = c.args in
    let sum = c.begun-2.ensures ∙ ap (λ (raw : Bool). added_to raw a.self.sum) (raw-is a.self.with_first a.self.length) in
    ap₂ (pen_with a.self) c.begun.ensures sum
