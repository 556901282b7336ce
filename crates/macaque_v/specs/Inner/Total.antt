-- Words of inner contracts and of proofs: a sum as it is held while values are added. Assumes nothing.
use Rattle.std.specs.Prelude.{Bool, true, false, pos, Float}
use Rattle.std.specs.Float.{fin}

abbrev pub minus_zero : Float
minus_zero = fin true 0 (pos 0)

-- what the next value is added to: the sum, or −0 before a raw value, which begins it (−0 and a value give the value: proofs/Adding)
abbrev pub added_to : Bool → Float → Float
added_to true s = minus_zero
added_to false s = s
