-- `bits::get`: no bits, byte by byte, or a part of one word. Assumes nothing.
use Prim.Native.Nat.{ℕ, ◌+◌, ◌*◌, ◌/◌, ◌%◌, ◌^◌, ◌-◌}
use mathlib.Core.Path.{◌≡◌, sym, ap, ◌∙◌}
use native.Mathlib.Omega.{arith}
use Rattle.bits.specs.Bits.{value, field_at, bits_of}
use Rattle.bits.proofs.Fields.{field_at-part}
use Rattle.bits.proofs.Bytes.{length-bits_of}
use Rattle.bits.proofs.Words.{shl-shr-word}
use Rattle.bits.proofs.get.Goals as goal

pub returns-then-width-eq0 : goal.returns-then-width-eq0
unfolding value
returns-then-width-eq0 c =
    let a = c.args in
    let none : a.width ≡ 0 = omega arith in
    rw none

pub returns : goal.returns
returns c =
    let a = c.args in
    let from = c.word_with-from.result in
    let skew = 8 * (a.place / 8 - from) + a.place % 8 in
    let m = 64 - (skew + a.width) in
    let all : skew + (a.width + m) ≡ 64 = omega arith in
    let here : 8 * from + skew ≡ a.place = omega arith in
    shl-shr-word c.eight.result skew a.width m all
    ∙ ap (λ (x : ℕ). x / 2 ^ m % 2 ^ a.width) (c.eight.ensures ∙ ap (λ (k : ℕ). field_at (8 * from) k (bits_of a.bytes.now)) (sym all))
    ∙ field_at-part (bits_of a.bytes.now) (8 * from) skew a.width m (omega (arith, length-bits_of a.bytes.now))
    ∙ ap (λ (k : ℕ). field_at k a.width (bits_of a.bytes.now)) here
