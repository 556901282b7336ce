-- `bits::opened`: what the byte has before the place, or nothing where the place is the end. Assumes nothing.
use mathlib.Core.Path.{refl}
use native.Mathlib.Omega.{arith}
use Prim.Native.Nat.{◌/◌}
use Rattle.bits.proofs.Waiting.{opens, opens-at-end}
use Rattle.bits.proofs.opened.Goals as goal

pub returns-then-bytes-at : goal.returns-then-bytes-at
returns-then-bytes-at c =
    let a = c.args in
    record { waiting = λ h. opens-at-end a.bytes.now a.place (omega arith) h; same = refl }

pub returns : goal.returns
returns c =
    let a = c.args in
    record { waiting = λ h. opens a.bytes.now a.place c.upper.result (omega arith) c.upper.ensures (c.slice_known-2-1.given (a.place / 8)).fits; same = refl }
