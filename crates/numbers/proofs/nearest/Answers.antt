-- `numbers::nearest` meets its contract. Assumes nothing.
use Prim.Native.Nat.{◌^◌}
use native.Mathlib.Omega.{arith}
use native.Mathlib.Nat.{div-le_self}
use lib.Pow.{pow_mono}
use Rattle.numbers.proofs.Shifts.{rest_le, closest-none, shift-down, shift-up, shift-tie}
use borrow.Author.Rules.{rules}
use Rattle.numbers.proofs.nearest.Goals as goal

pub returns-then-d-gt63 : goal.returns-then-d-gt63
returns-then-d-gt63 c = closest-none c.args.m (2 ^ c.args.d) (omega (arith, pow_mono c.if-d-gt63.true))
