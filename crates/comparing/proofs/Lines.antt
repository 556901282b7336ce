-- How long a line is: no more than 80 bytes. Assumes nothing.
use mathlib.Core.List.{List, ◌++◌}
use Prim.Native.Nat.{ℕ, ◌≤◌}
use native.Mathlib.Omega.{arith}
use Rattle.std.specs.Prelude.{Option, Some, None}
use lib.Dec.{lit≤}
use lib.ListN.{length, length-append}
use Rattle.models.specs.declared.Fault.{Fault}
use Rattle.listing.specs.Text.{decimal, field, last_field, refused_text}
use Rattle.listing.proofs.Putting.{length_digits, length-field, length_last, decimal-most, last-most, refused-most}
use Rattle.comparing.specs.Text.{entry_text, difference_text, differ_word, differ_text, side_word, side_text}
use Rattle.comparing.specs.declared.Side.{Side}
use Rattle.comparing.specs.declared.Side.TheVariants.{Left, Right}
use Rattle.comparing.specs.declared.Difference.{Difference}

entry-most : (e : Option ℕ) → length (entry_text e) ≤ 8
entry-most (Some v) = omega (arith, length_digits 16 8 v)
entry-most None = lit≤ tt

pub difference-most : (d : Difference) → length (difference_text d) ≤ 80
unfolding difference_text
difference-most d =
    let t1 : List ℕ = field (decimal d.index) in
    let t2 : List ℕ = field (entry_text d.left) in
    let t3 : List ℕ = last_field (entry_text d.right) in
    omega (
      arith,
      length-append (t1 ++ t2) t3,
      length-append t1 t2,
      length-field (decimal d.index),
      decimal-most d.index,
      length-field (entry_text d.left),
      entry-most d.left,
      length_last (entry_text d.right),
      entry-most d.right,
    )

pub differ-most : (n : ℕ) → length (differ_text n) ≤ 80
unfolding differ_text
differ-most n = omega (arith, last-most (field differ_word) n 7 (lit≤ tt))

side-word-most : (s : Side) → length (field (side_word s)) ≤ 6
side-word-most Left = lit≤ tt
side-word-most Right = lit≤ tt

pub side-most : (s : Side) (f : Fault) → length (side_text s f) ≤ 80
unfolding side_text
side-most s f = omega (arith, length-append (field (side_word s)) (refused_text f), side-word-most s, refused-most f)
