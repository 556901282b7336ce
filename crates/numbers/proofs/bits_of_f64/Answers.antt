-- `numbers::bits_of_f64` meets its contract. Assumes nothing.
use lib.Ieee.{binary64}
use Rattle.numbers.proofs.Nans.{equals_itself, pattern-of-nan}
use Rattle.numbers.proofs.bits_of_f64.Goals as goal

pub float_to_bits-result : goal.float_to_bits-result
float_to_bits-result c = equals_itself c.args.x c.if-x.false

pub returns-then-x : goal.returns-then-x
returns-then-x c = pattern-of-nan binary64 c.args.x c.if-x.true
