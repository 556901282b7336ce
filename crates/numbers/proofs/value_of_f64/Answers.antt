-- `numbers::value_of_f64` meets its contract. Assumes nothing.
use mathlib.Core.Path.{refl}
use lib.Ieee.{binary64}
use Rattle.numbers.proofs.Nans.{masked-nan, masked-number}
use Rattle.numbers.proofs.value_of_f64.Goals as goal

pub float_from_bits-result : goal.float_from_bits-result
float_from_bits-result c = masked-number binary64 63 c.args.bits refl c.if-bits-gt9218868437227405312.false

pub returns-then-bits-gt9218868437227405312 : goal.returns-then-bits-gt9218868437227405312
returns-then-bits-gt9218868437227405312 c = masked-nan binary64 63 c.args.bits refl c.if-bits-gt9218868437227405312.true
