-- `macaque_v::read_run::Source::go_on` meets its contract. Assumes nothing.
use Prim.Native.Nat.{◌-◌, ◌/◌, ◌<◌}
use native.Mathlib.Omega.{arith}
use lib.Dec.{ltb}
use lib.ListN.{length}
use borrow.Author.Tests.{ltb-true}
use Rattle.models.proofs.Tests.{and_right}
use Rattle.macaque_v.proofs.read_run.Source.go_on.Goals as goal

pub last_repeats-requires : goal.last_repeats-requires
last_repeats-requires c =
    let s = c in
    let ahead = length s.args.self.bytes.now - s.args.self.at.place / 8 in
    let near : ahead < 8 = ltb-true ahead 8 (and_right s.args.same (ltb ahead 8) c.if-same-self.true) in
    (omega arith, omega arith, omega arith, omega arith, omega (arith, near))
