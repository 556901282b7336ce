-- `listing::line::digits` meets its contract. The invariant: what is left to put completes the digits. Assumes nothing.
use mathlib.Core.Path.{◌≡◌}
use lib.Seq.{sets}
use Rattle.listing.specs.Text.{digits_of}
use Rattle.listing.proofs.line.digits.Given as goal

abbrev pub invariant-loop-i : goal.invariant-loop-i
invariant-loop-i l = sets l.line l.at (digits_of l.base l.i l.rest) ≡ sets l.initial.line l.at (digits_of l.base l.k l.n)
