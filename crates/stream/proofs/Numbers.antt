-- "to read the next value (or 5 to 7 ..)": by what numbers one value is refused. Assumes nothing.
use mathlib.Core.Bool.{Bool, true, false, ◌||◌}
use mathlib.Core.List.{List}
use mathlib.Core.Option.{Option, none, some}
use Prim.Native.Nat.{ℕ, ◌+◌, ◌≤◌}
use native.Mathlib.Omega.{arith}
use lib.Dec.{eqb, leb, ltb}
use lib.ListN.{length}
use Rattle.bits.specs.Bits.{field_at}
use Rattle.models.proofs.Tests.{by-test}
use Rattle.stream.specs.Format.{Format, Kind, same, keep, new, Window, unset}
use Rattle.stream.specs.Read.{Step, got, halt, need, read_raw, read_word, meaningful, count_of, window_read, read_header, read_body, read_one}

abbrev pub FiveToSeven : Step → Type 0
FiveToSeven (got v win used) = Unit {0}
FiveToSeven (halt n) = (5 ≤ n) × (n ≤ 7)

five : FiveToSeven (halt 5)
five = (omega arith, omega arith)

needing : (n : ℕ) (bs : List Bool) (q : Step) → FiveToSeven q → FiveToSeven (need n bs q)
needing n bs q h = by-test FiveToSeven (leb n (length bs)) q (halt 5) (λ e. h) (λ e. five)

-- the header said `a` leading zeros and m meaningful bits
header : (F : Format) (l a m h : ℕ) (bs : List Bool) → FiveToSeven (read_header F l a m h bs)
header F l a m h bs =
    by-test FiveToSeven (eqb m 0 || ltb F.width (a + m)) (halt 7) (meaningful F l (window_read F a m) h m bs) (λ e. (omega arith, omega arith)) (λ e. needing _ bs _ tt)

body : (F : Format) (win : Window) (l : ℕ) (bs : List Bool) (k : Option Kind) → FiveToSeven (read_body F win l bs k)
unfolding read_body
body F win l bs none = five
body F win l bs (some same) = tt
body F win l bs (some keep) = by-test FiveToSeven (unset win) (halt 6) _ (λ e. (omega arith, omega arith)) (λ e. needing _ bs _ tt)
body F win l bs (some new) =
    let h : ℕ = length F.new_word in
    needing _ bs _ (header F l (field_at h F.lead_bits bs) (count_of F (field_at (h + F.lead_bits) F.count_bits bs)) (h + F.lead_bits + F.count_bits) bs)

pub one-value-is-refused-with-5-to-7 : (F : Format) (raw : Bool) (win : Window) (l : ℕ) (bs : List Bool) → FiveToSeven (read_one F raw win l bs)
unfolding read_one read_raw
one-value-is-refused-with-5-to-7 F true win l bs = needing F.width bs _ tt
one-value-is-refused-with-5-to-7 F false win l bs = body F win l bs (read_word F bs)
