-- `macaque_v::write::may_have` meets its contract: at 32 bits one test does. Assumes nothing.
use mathlib.Core.Path.{sym, ap}
use mathlib.Core.Bool.{Bool, ◌&&◌, ◌||◌}
use native.Mathlib.Omega.{arith}
use lib.Dec.{leb}
use Rattle.stream.specs.Format.{macaque, window_in, is_opening}
use Rattle.stream.proofs.Rule.{one-test}
use Rattle.macaque_v.proofs.write.may_have.Goals as goal

pub returns : goal.returns
returns c =
    let a = c.args in
    let win = window_in a.lead a.trail in
    ap (λ (b : Bool). is_opening win || (leb 1 a.count && b)) (sym (one-test macaque (omega arith) win))
