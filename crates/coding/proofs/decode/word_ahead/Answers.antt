-- `coding::decode::word_ahead` meets its contract: eight bytes have 57 bits or more from the place on. Assumes nothing.
use mathlib.Core.Path.{◌≡◌, ap, ◌∙◌}
use Prim.Native.Nat.{ℕ, ◌-◌, ◌*◌, ◌%◌, ◌^◌}
use native.Mathlib.Omega.{arith}
use Rattle.bits.specs.Bits.{field_at, bits_of}
use Rattle.coding.proofs.Repeats.{word-ahead, no-word-ahead}
use Rattle.coding.proofs.decode.word_ahead.Goals as goal

pub returns-then-bytes-place-lt8 : goal.returns-then-bytes-place-lt8
returns-then-bytes-place-lt8 c = no-word-ahead c.args.bytes.now c.args.place (omega arith)

pub returns : goal.returns
returns c =
    let a = c.args in
    let n = 64 - a.place % 8 in
    let up : a.place % 8 ≡ 64 - n = omega arith in
    word-ahead a.bytes.now a.place n (omega arith) (omega arith) (omega arith) c.word_at.result
    (c.word_at.ensures ∙ ap (λ (k : ℕ). field_at a.place n (bits_of a.bytes.now) * 2 ^ k) up)
