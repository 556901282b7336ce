-- `numbers::value_of_f32` meets its contract. Assumes nothing.
use mathlib.Core.Path.{refl}
use lib.Ieee.{binary32}
use Rattle.numbers.proofs.Nans.{masked-nan, masked-number}
use Rattle.numbers.proofs.value_of_f32.Goals as goal

pub float_from_bits-result : goal.float_from_bits-result
float_from_bits-result c = masked-number binary32 31 c.args.bits refl c.if-bits-gt2139095040.false

pub returns-then-bits-gt2139095040 : goal.returns-then-bits-gt2139095040
returns-then-bits-gt2139095040 c = masked-nan binary32 31 c.args.bits refl c.if-bits-gt2139095040.true
