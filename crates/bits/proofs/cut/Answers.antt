-- `bits::cut`: the byte that the place cuts gets zeros below it; a place that cuts none changes nothing. Assumes nothing.
use Prim.Native.Nat.{ℕ, ◌+◌, ◌*◌, ◌/◌, ◌%◌, ◌-◌}
use mathlib.Core.Path.{◌≡◌, sym, ap, ap₂, ◌∙◌}
use mathlib.Core.List.{[]}
use native.Mathlib.Omega.{arith}
use lib.ListN.{set}
use Rattle.bits.specs.Bits.{field, bits_of, write, up, cut_at}
use Rattle.bits.proofs.Below.{below_set}
use Rattle.bits.proofs.InBytes.{cut_in-is, cut_in-whole}
use Rattle.bits.proofs.Chunks.{byte-write}
use Rattle.bits.proofs.cut.Goals as goal

pub returns-then-off-ne0 : goal.returns-then-off-ne0
unfolding field cut_at
returns-then-off-ne0 c =
    let a = c.args in
    let l = a.bytes.now in
    let i = a.place / 8 in
    let off = a.place % 8 in
    let here : 8 * i + off ≡ a.place = omega arith in
    let stop : 8 * i + 8 ≡ up a.place = omega arith in
    cut_in-is l _ a.place (below_set 8 l i c.merged.result (omega arith) (λ n. (c.slice_known-then-off-ne0-1.given n).fits))
    (ap (λ (x : ℕ). bits_of (set l i x)) c.merged.ensures
    ∙ byte-write l i off 0 (8 - off) (omega arith) (omega arith) 0 (omega arith)
    ∙ ap₂ (λ (x y : ℕ). write (bits_of l) x [] y) here stop)

pub returns-else-off-ne0 : goal.returns-else-off-ne0
returns-else-off-ne0 c =
    let a = c.args in
    sym (cut_in-whole a.bytes.now a.place (omega arith) (omega arith) (λ n. (c.slice_known-1.given n).fits))
