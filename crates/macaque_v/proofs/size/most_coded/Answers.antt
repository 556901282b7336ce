-- `macaque_v::size::most_coded` meets its contract. Assumes nothing.
use mathlib.Core.Path.{◌≡◌}
use native.Mathlib.Omega.{arith}
use Rattle.stream.proofs.Promises.{without-a-first-value}
use Rattle.macaque_v.proofs.size.most_coded.Goals as goal

pub returns : goal.returns
returns c =
    let n = c.args.n in
    let some : ¬ (n ≡ 0) = c.if-n-eq0.false in
    (omega (arith, without-a-first-value n (omega arith)), omega arith)
