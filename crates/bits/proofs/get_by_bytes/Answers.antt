use Prim.Native.Nat.{ℕ, ◌+◌, ◌*◌, ◌/◌, ◌%◌, ◌^◌, ◌<◌, ◌-◌}
use mathlib.Core.Path.{◌≡◌, refl, sym, ap, ap₂, ◌∙◌}
use native.Mathlib.Omega.{arith}
use Rattle.bits.specs.Bits.{value, field_at, bits_of}
use Rattle.bits.proofs.Fields.{field_at-lt}
use Rattle.bits.proofs.Chunks.{got-more}
use Rattle.bits.proofs.Words.{shl-fits, mod-is-lt}
use Rattle.bits.proofs.get_by_bytes.Goals as goal

pub joined-v-requires : goal.joined-v-requires
joined-v-requires c =
    let a = c.args in
    let v = c.loop-done.v in
    let done = c.loop-done.done in
    let n = c.chunk-n.result in
    let small : v < 2 ^ done = rw c.loop-done.invariant.1 (field_at-lt a.place done (bits_of a.bytes.now)) in
    (omega arith, shl-fits v done n small (omega arith), mod-is-lt _ _ n c.taken.ensures)

pub loop-done-preserved : goal.loop-done-preserved
loop-done-preserved c =
    let a = c.args in
    let done = c.loop-done.done in
    let n = c.chunk-n.result in
    let off = (a.place % 8 + done) % 8 in
    let i = a.place / 8 + (a.place % 8 + done) / 8 in (
      omega arith,
      c.joined-v.ensures
          ∙ ap₂ (λ (x y : ℕ). x * 2 ^ n + y) c.loop-done.invariant.1 c.taken.ensures
          ∙ sym (got-more a.bytes.now i off n (8 - off - n) a.place done (omega arith) (omega arith) (omega arith)),
    )
