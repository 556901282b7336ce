-- `bits::append`: the word holds the bits, or is full and laid. Assumes nothing.
use Prim.Native.Nat.{ℕ, ◌+◌, ◌-◌, ◌^◌, ◌<◌}
use mathlib.Core.Path.{◌≡◌, sym, subst}
use native.Mathlib.Omega.{arith}
use Rattle.bits.proofs.Waiting.{held_more, full-laid}
use Rattle.bits.proofs.Words.{shl-fits}
use lib.Pow.{shr_lt}
use Rattle.bits.proofs.append.Goals as goal

pub joined-requires : goal.joined-requires
joined-requires c =
    let a = c.args in
    let pre = c.requires in
    (omega arith, shl-fits a.p.word a.p.held a.width pre.0.small (omega arith), pre.3)

pub returns-then-width-room : goal.returns-then-width-room
returns-then-width-room c =
    let a = c.args in
    let pre = c.requires in
    held_more a.bytes.now a.p a.width a.value c.joined.result pre.0.small pre.3 (omega arith) c.joined.ensures

pub joined-full-requires : goal.joined-full-requires
joined-full-requires c =
    let a = c.args in
    let pre = c.requires in
    let all : 64 - a.p.held + (a.width - (64 - a.p.held)) ≡ a.width = omega arith in
    (omega arith, shl-fits a.p.word a.p.held (64 - a.p.held) pre.0.small (omega arith), shr_lt (64 - a.p.held) (a.width - (64 - a.p.held)) (subst (λ (x : ℕ). a.value < 2 ^ x) (sym all) pre.3))

pub returns : goal.returns
returns c =
    let a = c.args in
    let pre = c.requires in
    full-laid a.bytes.now _ a.p a.width a.value c.taken.result c.joined-full.result pre.0.fewer pre.3 pre.1 (omega arith) pre.2
    c.joined-full.ensures c.put_word.ensures c.taken.ensures
