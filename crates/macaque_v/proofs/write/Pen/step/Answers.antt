-- `macaque_v::write::Pen::step` meets its contract. Assumes nothing.
use mathlib.Core.Path.{refl}
use Rattle.macaque_v.proofs.write.Pen.step.Goals as goal

pub returns : goal.returns
returns c =
    record {
      kept = c.kept_of-kept.ensures;
      code = c.coded-code.ensures;
      place = refl;
      span = c.joined.ensures;
      sum = c.joined-2.ensures;
    }
