-- `bits::put`: no bits, byte by byte, or the bytes of one word; the buffer's elements are bytes, so its bits say what it is. Assumes nothing.
use Prim.Native.Nat.{ℕ, ◌+◌, ◌*◌, ◌/◌, ◌%◌, ◌^◌, ◌-◌}
use mathlib.Core.Path.{◌≡◌, sym, ap, ◌∙◌}
use native.Mathlib.Omega.{arith}
use Rattle.bits.specs.Bits.{field, bits_of, laid}
use Rattle.bits.proofs.InBytes.{laid_in-nothing, laid_in-is}
use Rattle.bits.proofs.Chunks.{word-laid}
use Rattle.bits.proofs.put.Goals as goal

pub returns-then-width-eq0 : goal.returns-then-width-eq0
unfolding field
returns-then-width-eq0 c =
    let a = c.args in
    let none : a.width ≡ 0 = omega arith in
    rw none (sym (laid_in-nothing a.bytes.now a.place (λ n. (c.slice_known-1.given n).fits)))

pub returns-then-end-gt64 : goal.returns-then-end-gt64
returns-then-end-gt64 c = laid_in-is _ _ _ _ (λ n. (c.slice_known-then-end-gt64-1.given n).fits) c.put_by_bytes.ensures

pub returns : goal.returns
returns c =
    let a = c.args in
    let l = a.bytes.now in
    let i = a.place / 8 in
    let s = a.place % 8 in
    let n = (s + a.width + 7) / 8 in
    let z = 8 * n - (s + a.width) in
    let r = 64 - 8 * n in
    let here : 8 * i + s ≡ a.place = omega arith in
    laid_in-is l _ a.place (field a.width a.value) (λ n. (c.slice_known-3-1.given n).fits)
    (c.put_word.ensures
    ∙ ap (λ (x : ℕ). laid (bits_of l) (8 * i) (field (8 * n) (x / 2 ^ (64 - 8 * n)))) c.aligned-word.ensures
    ∙ word-laid l i s a.width a.value z r n (omega arith) (omega arith) (omega arith) (omega arith) (omega arith) (omega arith) (omega arith)
    ∙ ap (λ (x : ℕ). laid (bits_of l) x (field a.width a.value)) here)
