-- `coding::decode::in_place` meets its contract: what stands below the window is masked off. Assumes nothing.
use Prim.Native.Nat.{◌+◌, ◌-◌, ◌*◌, ◌/◌, ◌%◌, ◌^◌}
use native.Mathlib.Omega.{arith}
use lib.Bits.{and_le_l}
use lib.Pow.{pow_pos}
use Rattle.coding.proofs.Decoding.{one_up, shifted_fits, in-place-is}
use Rattle.coding.proofs.decode.in_place.Goals as goal

pub overflow_cast-x-2 : goal.overflow_cast-x-2
overflow_cast-x-2 c = record { fits = shifted_fits c.args.word c.args.lead c.args.trail (omega arith) (omega arith) }

pub overflow_sub-result : goal.overflow_sub-result
overflow_sub-result c = omega (arith, one_up c.args.trail (omega arith), pow_pos c.args.trail)

pub overflow_sub-result-2 : goal.overflow_sub-result-2
overflow_sub-result-2 c = and_le_l (c.args.word / 2 ^ (31 + c.args.lead)) ((1 * 2 ^ c.args.trail) % 2 ^ 32 - 1)

pub returns : goal.returns
returns c = in-place-is c.args.word c.args.lead c.args.trail (omega arith) (omega arith)
