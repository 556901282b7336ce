-- `numbers::widen_bits` meets its contract. Assumes nothing.
use mathlib.Core.Path.{sym, ap, ap₂, ◌∙◌, subst}
use Prim.Native.Nat.{ℕ, ◌+◌, ◌*◌, ◌/◌, ◌^◌, ◌≤◌, ◌<◌}
use native.Mathlib.Omega.{arith}
use lib.Bits.{bit_and, and_mask, and_le_r}
use lib.Arith.{lt_of_le-ne}
use lib.Ieee.{binary32}
use Rattle.numbers.specs.Inner.Patterns.{digits, place, encoded}
use Rattle.numbers.proofs.Read.{digits_lt, no_nan}
use Rattle.numbers.proofs.Convert.{widened, widened-inf}
use Rattle.numbers.proofs.widen_bits.Goals as goal
use Rattle.numbers.proofs.widen_bits.Goals.{Else-mag-eq2139095040}

-- past the test for the infinity, the pattern without its sign is below it
under : (c : Else-mag-eq2139095040) → bit_and c.args.b 2147483647 < 0x7f80_0000
under c = lt_of_le-ne (subst (λ (k : ℕ). k ≤ 0x7f80_0000) (sym (and_mask c.args.b 31)) (no_nan binary32 c.args.b c.requires)) c.if-mag-eq2139095040.false

pub widen_size-requires : goal.widen_size-requires
widen_size-requires c = (omega (arith, digits_lt 23 (bit_and c.args.b 2147483647)), omega (arith, under (goal.at.widen_size-requires c).Else-mag-eq2139095040))

pub returns-then-mag-eq2139095040 : goal.returns-then-mag-eq2139095040
returns-then-mag-eq2139095040 c = widened-inf c.args.b c.ranges.b.fits (sym (and_mask c.args.b 31) ∙ c.if-mag-eq2139095040.true)

pub returns-else-mag-eq2139095040 : goal.returns-else-mag-eq2139095040
returns-else-mag-eq2139095040 c =
    let b = c.args.b in
    let mask = and_mask b 31 in
    ap (λ (k : ℕ). b / 2 ^ 31 * 2 ^ 63 + k)
    (c.widen_size.ensures.0
    ∙ ap₂ (λ (m x : ℕ). encoded 53 (m * 2 ^ (x + 925))) (c.digits_of.ensures ∙ ap (digits 23) mask) (c.place_of.ensures ∙ ap (place 23) mask))
    ∙ widened b c.ranges.b.fits (subst (λ (k : ℕ). k < 0x7f80_0000) mask (under (goal.at.returns-else-mag-eq2139095040 c).Else-mag-eq2139095040))
