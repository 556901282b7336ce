-- A stream's bytes with their count. Assumes nothing.
use mathlib.Core.Path.{◌≡◌, refl, ◌∙◌}
use mathlib.Core.Bool.{Bool, true, false}
use mathlib.Core.List.{List, [], ◌∷◌}
use Prim.Native.Nat.{ℕ, ◌≤◌}
use lib.Dec.{eqb}
use lib.ListN.{length, take, length-append}
use lib.Seq.{length-take-le}
use Rattle.segments.specs.Segment.{counted_bytes}
use Rattle.segments.specs.Inner.Aside.{counted_length}

-- the bytes in use, with their count
pub length_counted : (bytes : List ℕ) (used count : ℕ) → used ≤ length bytes → length (counted_bytes (take used bytes) count) ≡ counted_length used count
unfolding counted_bytes
length_counted bytes used count h = go (eqb count 0) refl
  where
    go : (t : Bool) → eqb count 0 ≡ t → length (counted_bytes (take used bytes) count) ≡ counted_length used count
    go true e = rw e
    go false e = rw e (length-append (take used bytes) (count ∷ []) ∙ rw (length-take-le used bytes h))
