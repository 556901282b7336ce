-- `parameters::value_at` meets its contract. Assumes nothing.
use mathlib.Core.Path.{sym, ◌∙◌}
use Prim.Native.Nat.{◌+◌}
use native.Mathlib.Omega.{arith}
use Rattle.parameters.proofs.Bytes.{four-at, four-back}
use Rattle.parameters.proofs.value_at.Goals as goal

pub returns : goal.returns
returns c =
    let bytes = c.args.values.now in
    let at = c.args.at in
    let h = c.type_inv.values in
    four-back _ _ _ _ _ (omega (arith, c.from_le_bytes.ensures)) (h at).fits (h (at + 1)).fits (h (at + 2)).fits (h (at + 3)).fits ∙ sym (four-at bytes at c.requires)
