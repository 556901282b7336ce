-- `macaque_v::span::is_number` meets its contract: a pattern without its sign is a NaN's exactly above the infinity's. Assumes nothing.
use mathlib.Core.Path.{◌≡◌, refl, sym, ap, ◌∙◌}
use mathlib.Core.Bool.{Bool, true, false, not}
use Prim.Native.Nat.{ℕ, ◌%◌, ◌^◌}
use lib.Dec.{leb, ltb}
use lib.Bits.{bit_and, and_mask}
use lib.Ieee.{binary32}
use lib.Ieee.Bits.{nan_bits_is, nan_bits_above}
use borrow.Author.Tests.{ltb-true, ltb-false, le-leb, lt-leb}
use Rattle.macaque_v.specs.Inner.Span.{is_number}
use Rattle.macaque_v.proofs.span.is_number.Goals as goal

not-above : (a b : ℕ) → leb a b ≡ not (ltb b a)
not-above a b = go (ltb b a) refl
  where
    go : (q : Bool) → ltb b a ≡ q → leb a b ≡ not q
    go true e = lt-leb a b (ltb-true b a e)
    go false e = le-leb a b (ltb-false b a e)

number_is : (bits : ℕ) → leb (bit_and bits 0x7fff_ffff) 0x7f80_0000 ≡ is_number bits
unfolding is_number
number_is bits =
    ap (λ (n : ℕ). leb n 0x7f80_0000) (and_mask bits 31)
    ∙ not-above (bits % 2 ^ 31) 0x7f80_0000
    ∙ ap not (sym (nan_bits_above binary32 bits) ∙ nan_bits_is binary32 bits)

pub returns : goal.returns
returns c = number_is c.args.bits
