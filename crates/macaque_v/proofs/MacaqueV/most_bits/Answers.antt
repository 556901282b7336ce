-- `macaque_v::MacaqueV::most_bits` meets its contract. Assumes nothing.
use mathlib.Core.Path.{ap, ◌∙◌}
use mathlib.Core.Bool.{Bool}
use borrow.Author.Tests.{lt-ltb, le-ltb}
use Rattle.models.specs.Answers.{answered, judge}
use Rattle.models.specs.Limits.{most_values}
use Rattle.stream.specs.Format.{macaque}
use Rattle.stream.specs.Size.{most_bits}
use Rattle.macaque_v.specs.Size.{most_bits_answer}
use Rattle.macaque_v.proofs.MacaqueV.most_bits.Goals as goal

pub returns-then-count-gt-MOST_VALUES : goal.returns-then-count-gt-MOST_VALUES
unfolding most_bits_answer judge
returns-then-count-gt-MOST_VALUES c = rw (lt-ltb most_values c.args.count c.if-count-gt-MOST_VALUES.true)

pub returns : goal.returns
unfolding most_bits_answer judge
returns c =
    let a = c.args in
    rw (le-ltb most_values a.count c.if-count-gt-MOST_VALUES.false) (ap answered (c.most_of.ensures.0 ∙ ap (λ (raw : Bool). most_bits macaque raw a.count) c.is_first.ensures))
