-- `bits::taken`: a shift and a mask. Assumes nothing.
use Prim.Native.Nat.{◌/◌, ◌^◌}
use lib.Pow.{pow_pos}
use Rattle.bits.proofs.Words.{one_shl, masked}
use Rattle.bits.proofs.taken.Goals as goal

pub returns : goal.returns
returns c = masked (c.args.x / 2 ^ c.args.m) c.args.n c.requires.1
