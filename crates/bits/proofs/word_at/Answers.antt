-- `bits::word_at`: the shift drops the bits before the place. Assumes nothing.
use Prim.Native.Nat.{ℕ, ◌+◌, ◌*◌, ◌/◌, ◌%◌, ◌^◌, ◌-◌}
use mathlib.Core.Path.{◌≡◌, sym, ap, ◌∙◌}
use native.Mathlib.Omega.{arith}
use lib.Pow.{low}
use Rattle.bits.specs.Bits.{field_at, bits_of}
use Rattle.bits.proofs.Fields.{field_at-add, field_at-lt}
use Rattle.bits.proofs.Bytes.{length-bits_of}
use Rattle.bits.proofs.Words.{shl-low}
use Rattle.bits.proofs.word_at.Goals as goal

pub returns : goal.returns
returns c =
    let a = c.args in
    let bits = bits_of a.bytes.now in
    let skew = a.place % 8 in
    let start = 8 * (a.place / 8) in
    let rest = 64 - skew in
    let all : skew + rest ≡ 64 = omega arith in
    let here : start + skew ≡ a.place = omega arith in
    shl-low c.eight.result rest skew (omega arith)
    ∙ ap (λ (x : ℕ). x % 2 ^ rest * 2 ^ skew)
    (c.eight.ensures
    ∙ ap (λ (k : ℕ). field_at start k bits) (sym all)
    ∙ field_at-add bits start skew rest (omega (arith, length-bits_of a.bytes.now)))
    ∙ ap (λ (x : ℕ). x * 2 ^ skew) (low (field_at start skew bits) rest (field_at-lt (start + skew) rest bits))
    ∙ ap (λ (k : ℕ). field_at k rest bits * 2 ^ skew) here
