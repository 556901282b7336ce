-- `coding::decode::look` meets its contract: eight bytes have more than 45 bits from the place on. Assumes nothing.
use mathlib.Core.Path.{◌≡◌, ap, ◌∙◌}
use Prim.Native.Nat.{ℕ, ◌-◌, ◌*◌, ◌%◌, ◌^◌}
use native.Mathlib.Omega.{arith}
use Rattle.bits.specs.Bits.{field_at, bits_of}
use Rattle.coding.proofs.Words.{ahead-of-more}
use Rattle.coding.proofs.decode.look.Goals as goal

pub returns : goal.returns
returns c =
    let a = c.args in
    let n = 64 - a.place % 8 in
    let up : a.place % 8 ≡ 64 - n = omega arith in
    ahead-of-more a.bytes.now a.place n (omega arith) (omega arith) c.word_at.result
    (c.word_at.ensures ∙ ap (λ (k : ℕ). field_at a.place n (bits_of a.bytes.now) * 2 ^ k) up) (omega arith)
