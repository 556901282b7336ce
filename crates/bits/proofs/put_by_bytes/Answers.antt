use Prim.Native.Nat.{ℕ, ◌+◌, ◌*◌, ◌/◌, ◌%◌, ◌^◌, ◌-◌}
use mathlib.Core.Path.{◌≡◌, refl, sym, ap, ◌∙◌}
use native.Mathlib.Omega.{arith}
use native.Mathlib.Nat.{sub-add-eq, div-one}
use lib.ListN.{get_or, set, length-set}
use lib.Pow.{shr-shr}
use Rattle.bits.specs.Bits.{field, bits_of, laid}
use Rattle.bits.proofs.Chunks.{put-more}
use Rattle.bits.proofs.Words.{mod-is-lt}
use Rattle.bits.proofs.put_by_bytes.Goals as goal

pub loop-done-preserved : goal.loop-done-preserved
loop-done-preserved c =
    let a = c.args in
    let l = c.loop-done.bytes in
    let inv = c.loop-done.invariant in
    let done = c.loop-done.done in
    let n = c.chunk-n.result in
    let off = (a.place % 8 + done) % 8 in
    let i = a.place / 8 + (a.place % 8 + done) / 8 in
    let m = 8 - off - n in
    let back : (a.width - (done + n)) + n ≡ a.width - done = omega arith in
    let v = a.value / 2 ^ (a.width - (done + n)) in
    let part : c.taken-part.result ≡ v % 2 ^ n =
    c.taken-part.ensures ∙ ap (λ (k : ℕ). a.value / 2 ^ k % 2 ^ n) (sym (sub-add-eq a.width done n)) in
    let before : bits_of l ≡ laid (bits_of a.bytes.now) a.place (field done (v / 2 ^ n)) =
    inv.2 ∙ ap (λ (k : ℕ). laid (bits_of a.bytes.now) a.place (field done k))
    (ap (λ (k : ℕ). a.value / 2 ^ k) (sym back) ∙ sym (shr-shr a.value (a.width - (done + n)) n)) in (
      omega arith,
      length-set l i c.merged.result ∙ inv.1,
      ap (λ (x : ℕ). bits_of (set l i x)) (c.merged.ensures ∙ ap (λ (t : ℕ). get_or l i 0 / 2 ^ (n + m) * 2 ^ (n + m) + t * 2 ^ m) part)
          ∙ put-more a.bytes.now l i a.place done v inv.1 (omega arith) off n m (omega arith) (omega arith) (omega arith) before,
    )
