-- `coding::decode::look_at_end` meets its contract: there are 45 bits, or it takes all of them. Assumes nothing.
use mathlib.Core.Path.{refl}
use Prim.Native.Nat.{◌-◌, ◌*◌, ◌/◌, ◌%◌, ◌^◌}
use native.Mathlib.Omega.{arith}
use lib.ListN.{length}
use Rattle.bits.specs.Bits.{value}
use Rattle.coding.proofs.Words.{ahead-of-more, ahead-of-all, moved_up}
use Rattle.coding.proofs.decode.look_at_end.Goals as goal

pub returns-then-rest-eq0 : goal.returns-then-rest-eq0
unfolding value
returns-then-rest-eq0 c =
    let a = c.args in
    ahead-of-all a.bytes.now a.place 0 (omega arith) (omega arith) 0 refl (omega arith) (omega arith)

pub returns-then-rest-gt45 : goal.returns-then-rest-gt45
returns-then-rest-gt45 c =
    let a = c.args in
    let up = moved_up a.bytes.now a.place 45 (omega arith) (omega arith) c.get.result c.get.ensures in
    ahead-of-more a.bytes.now a.place 45 (omega arith) (omega arith) ((c.get.result * 2 ^ 19) % 2 ^ 64) up (omega arith)

pub returns : goal.returns
returns c =
    let a = c.args in
    let n = 8 * (length a.bytes.now - a.place / 8) - a.place % 8 in
    let up = moved_up a.bytes.now a.place n (omega arith) (omega arith) c.get-2.result c.get-2.ensures in
    ahead-of-all a.bytes.now a.place n (omega arith) (omega arith) ((c.get-2.result * 2 ^ (64 - n)) % 2 ^ 64) up (omega arith) (omega arith)
