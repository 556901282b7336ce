-- `bits::put_by_bytes`. The invariant: the high bits of the value that are done are laid at the place. Assumes nothing.
use Prim.Native.Nat.{◌/◌, ◌^◌, ◌≤◌, ◌-◌}
use mathlib.Core.Path.{◌≡◌}
use lib.ListN.{length}
use Rattle.bits.specs.Bits.{field, bits_of, laid}
use Rattle.bits.proofs.put_by_bytes.Given as goal

abbrev pub invariant-loop-done : goal.invariant-loop-done
invariant-loop-done l = (l.done ≤ l.width) × (length l.bytes ≡ length l.initial.bytes) × (bits_of l.bytes ≡ laid (bits_of l.initial.bytes) l.place (field l.done (l.value / 2 ^ (l.width - l.done))))

abbrev pub decreases-loop-done : goal.decreases-loop-done
decreases-loop-done l = l.width - l.done
