-- `coding::code::with_header` meets its contract: the header and the low bits do not meet. Assumes nothing.
use Prim.Native.Nat.{◌+◌, ◌*◌}
use native.Mathlib.Omega.{arith}
use Rattle.coding.proofs.Coding.{header_is}
use Rattle.coding.proofs.code.with_header.Goals as goal

pub returns : goal.returns
returns c =
    let a = c.args in
    header_is (6144 + a.lead * 64 + a.meaningful) a.lead a.meaningful a.low c.requires.0 c.requires.1 c.requires.2 (omega arith)
