use Prim.Native.Nat.{ℕ, ◌+◌, ◌*◌, ◌/◌, ◌%◌, ◌^◌, ◌-◌}
use mathlib.Core.Path.{◌≡◌, refl, sym, ap, ◌∙◌}
use native.Mathlib.Omega.{arith}
use lib.ListN.{set, length-set}
use lib.Pow.{shr-shr}
use Rattle.bits.specs.Bits.{field, bits_of, laid}
use Rattle.bits.proofs.Chunks.{put_byte}
use Rattle.bits.proofs.put_word.Goals as goal

pub loop-k-preserved : goal.loop-k-preserved
loop-k-preserved c =
    let a = c.args in
    let l = c.loop-k.bytes in
    let inv = c.loop-k.invariant in
    let k = c.loop-k.k in
    let i = a.base + k in
    let v = a.word / 2 ^ (64 - 8 * (k + 1)) in
    let next : 8 * (k + 1) ≡ 8 * k + 8 = omega arith in
    let over : 56 - 8 * k ≡ 64 - 8 * (k + 1) = omega arith in
    let back : (64 - 8 * (k + 1)) + 8 ≡ 64 - 8 * k = omega arith in
    let before : bits_of l ≡ laid (bits_of a.bytes.now) (8 * a.base) (field (8 * k) (v / 2 ^ 8)) =
    inv.1 ∙ ap (λ (x : ℕ). laid (bits_of a.bytes.now) (8 * a.base) (field (8 * k) x))
    (ap (λ (x : ℕ). a.word / 2 ^ x) (sym back) ∙ sym (shr-shr a.word (64 - 8 * (k + 1)) 8)) in (
      length-set l i c.byte_of.result ∙ inv.0,
      ap (λ (x : ℕ). bits_of (set l i x)) (c.byte_of.ensures ∙ ap (λ (x : ℕ). a.word / 2 ^ x % 2 ^ 8) over)
          ∙ put_byte a.bytes.now l i (8 * a.base) (8 * k) v inv.0 (omega arith) (omega arith) before
          ∙ ap (λ (x : ℕ). laid (bits_of a.bytes.now) (8 * a.base) (field x v)) (sym next),
    )
