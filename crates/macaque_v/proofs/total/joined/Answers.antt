-- `macaque_v::total::joined` meets its contract. Assumes nothing.
use mathlib.Core.Path.{ap}
use lib.Ieee.{binary32, add}
use Rattle.macaque_v.proofs.total.joined.Goals as goal

pub returns : goal.returns
returns c = ap (add binary32 c.args.sum) c.value_of_f32.ensures
