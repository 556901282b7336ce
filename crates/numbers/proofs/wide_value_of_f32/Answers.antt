-- `numbers::wide_value_of_f32` meets its contract. Assumes nothing.
use mathlib.Core.Path.{refl, sym, ◌∙◌, subst}
use mathlib.Core.Bool.{Bool, not}
use lib.Dec.{T}
use lib.Ieee.{binary32, binary64, of_bits}
use lib.Ieee.Bits.{nan_bits_is, of_bits-fits}
use Rattle.numbers.proofs.Nans.{widens, masked-nan, masked-number, zero_by_zero}
use Rattle.numbers.proofs.wide_value_of_f32.Goals as goal

pub float_from_bits-result : goal.float_from_bits-result
float_from_bits-result c = masked-number binary32 31 c.args.bits refl c.if-bits-gt2139095040.false

pub float_to_float-result : goal.float_to_float-result
float_to_float-result c =
    let b = c.args.bits in
    widens (of_bits binary32 b) (of_bits-fits binary32 b) (subst (λ (t : Bool). T (not t)) (nan_bits_is binary32 b) (masked-number binary32 31 b refl c.if-bits-gt2139095040.false))

pub returns-then-bits-gt2139095040 : goal.returns-then-bits-gt2139095040
returns-then-bits-gt2139095040 c = zero_by_zero binary64 ∙ sym (zero_by_zero binary32) ∙ masked-nan binary32 31 c.args.bits refl c.if-bits-gt2139095040.true
