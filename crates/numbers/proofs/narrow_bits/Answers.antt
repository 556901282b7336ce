-- `numbers::narrow_bits` meets its contract. Assumes nothing.
use mathlib.Core.Path.{ap, ap₂, ◌∙◌}
use Prim.Native.Nat.{ℕ, ◌+◌, ◌*◌, ◌/◌, ◌^◌}
use native.Mathlib.Omega.{arith}
use lib.Bits.{bit_and, and_mask, and_le_r}
use Rattle.numbers.specs.Inner.Patterns.{digits, place}
use Rattle.numbers.proofs.Read.{digits_lt}
use Rattle.numbers.proofs.Convert.{narrow, narrow-is}
use Rattle.numbers.proofs.narrow_bits.Goals as goal

pub returns : goal.returns
returns c =
    let b = c.args.b in
    let mask = and_mask b 63 in
    ap (λ (k : ℕ). b / 2 ^ 63 * 2 ^ 31 + k)
    (c.narrow_size.ensures ∙ ap₂ narrow (c.digits_of.ensures ∙ ap (digits 52) mask) (c.place_of.ensures ∙ ap (place 52) mask))
    ∙ narrow-is b c.ranges.b.fits c.requires
