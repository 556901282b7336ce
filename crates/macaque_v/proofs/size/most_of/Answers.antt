-- `macaque_v::size::most_of` meets its contract. Assumes nothing.
use mathlib.Core.Path.{◌≡◌, sym, ap, ◌∙◌}
use mathlib.Core.Bool.{Bool}
use Prim.Native.Nat.{ℕ, ◌+◌}
use native.Mathlib.Omega.{arith}
use Rattle.stream.specs.Format.{macaque}
use Rattle.stream.specs.Size.{most_bits}
use Rattle.stream.proofs.Promises.{no-values-no-bits}
use Rattle.macaque_v.proofs.Sizes.{most-first}
use Rattle.macaque_v.proofs.size.most_of.Goals as goal

pub returns-then-n-eq0 : goal.returns-then-n-eq0
returns-then-n-eq0 c =
    let a = c.args in
    (sym (ap (most_bits macaque a.raw) c.if-n-eq0.true ∙ no-values-no-bits a.raw), omega arith)

pub returns-then-raw : goal.returns-then-raw
returns-then-raw c =
    let a = c.args in
    let some : ¬ (a.n ≡ 0) = c.if-n-eq0.false in (
      ap (λ (k : ℕ). 32 + k) c.most_coded.ensures.0 ∙ sym (most-first a.n (omega arith)) ∙ ap (λ (raw : Bool). most_bits macaque raw a.n) (sym c.if-raw.true),
      omega (arith, c.most_coded.ensures.1),
    )
