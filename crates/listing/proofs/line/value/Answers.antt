-- `listing::line::value` meets its contract. Assumes nothing.
use Prim.Native.Nat.{◌+◌}
use native.Mathlib.Omega.{arith}
use Rattle.listing.specs.Text.{hexadecimal}
use Rattle.listing.proofs.Putting.{put_byte, length_digits}
use Rattle.listing.proofs.line.value.Goals as goal

pub returns : goal.returns
returns c =
    let a = c.args in record { put = put_byte (hexadecimal a.value) a.end (a.at + 9) c.digits.ensures (omega (arith, length_digits 16 8 a.value)) (omega arith); most = omega arith }
