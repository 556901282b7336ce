-- `macaque_v::MacaqueV::has_room` meets its contract: the values take no more than the most that they can. Assumes nothing.
use mathlib.Core.Path.{◌≡◌, sym, ap, ◌∙◌}
use mathlib.Core.Bool.{Bool}
use Prim.Native.Nat.{◌+◌, ◌*◌}
use native.Mathlib.Omega.{arith}
use borrow.Author.Tests.{le-leb}
use lib.ListN.{length}
use Rattle.stream.specs.Format.{macaque, raw_next}
use Rattle.stream.specs.Size.{most_bits}
use Rattle.macaque_v.specs.State.{mode_of}
use Rattle.macaque_v.specs.Write.{wrote_by}
use Rattle.macaque_v.proofs.Stepping.{raw-is}
use Rattle.macaque_v.proofs.Room.{a-write-is-no-larger}
use Rattle.macaque_v.proofs.MacaqueV.has_room.Goals as goal

pub returns-then-self-most_of : goal.returns-then-self-most_of
returns-then-self-most_of c =
    let a = c.args in
    let m = a.self in
    let xs = a.values.now in
    let most : c.most_of.result ≡ most_bits macaque (raw_next (mode_of m.with_first) m.length) (length xs) =
    c.most_of.ensures.0 ∙ ap (λ (raw : Bool). most_bits macaque raw (length xs)) (raw-is m.with_first m.length) in
    le-leb (m.place + c.most_of.result) (8 * a.bytes) (omega arith) ∙ sym (le-leb (wrote_by m xs).place (8 * a.bytes) (omega (arith, most, a-write-is-no-larger m xs)))

pub returns-else-self-most_of : goal.returns-else-self-most_of
returns-else-self-most_of c = rw c.place_after.ensures
