-- `listing::line::digit` meets its contract. Assumes nothing.
use native.Mathlib.Omega.{arith}
use borrow.Author.Tests.{lt-ltb, le-ltb}
use Rattle.listing.specs.Text.{digit_text}
use Rattle.listing.proofs.line.digit.Goals as goal

pub returns-in-0-to-9 : goal.returns-in-0-to-9
unfolding digit_text
returns-in-0-to-9 c = rw (lt-ltb c.args.d 10 (omega arith))

pub returns-in_default : goal.returns-in_default
unfolding digit_text
returns-in_default c = rw (le-ltb c.args.d 10 (omega arith)) (omega arith)
