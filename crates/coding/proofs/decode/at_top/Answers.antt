-- `coding::decode::at_top` meets its contract: the leading zeros of the exclusive or with 1010.. are two for each repeat. Assumes nothing.
use native.Mathlib.Omega.{arith}
use lib.Bits.{bit_xor}
use lib.Count.{leading_le}
use Rattle.coding.proofs.Repeats.{at_top}
use Rattle.coding.proofs.decode.at_top.Goals as goal

pub overflow_cast-k : goal.overflow_cast-k
overflow_cast-k c = omega (arith, leading_le 64 (bit_xor c.args.word 0xAAAA_AAAA_AAAA_AAAA))

pub returns : goal.returns
returns c = record { bits = at_top c.args.word c.min.result (omega arith) (omega arith); most = omega arith }
