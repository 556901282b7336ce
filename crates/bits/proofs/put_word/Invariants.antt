-- `bits::put_word`. The invariant: the first k bytes of the word are laid at the place. Assumes nothing.
use Prim.Native.Nat.{◌*◌, ◌/◌, ◌^◌, ◌-◌}
use mathlib.Core.Path.{◌≡◌}
use lib.ListN.{length}
use Rattle.bits.specs.Bits.{field, bits_of, laid}
use Rattle.bits.proofs.put_word.Given as goal

abbrev pub invariant-loop-k : goal.invariant-loop-k
invariant-loop-k l = (length l.bytes ≡ length l.initial.bytes) × (bits_of l.bytes ≡ laid (bits_of l.initial.bytes) (8 * l.base) (field (8 * l.k) (l.word / 2 ^ (64 - 8 * l.k))))
