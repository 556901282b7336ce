-- `numbers::length` meets its contract. Assumes nothing.
use native.Mathlib.Omega.{arith}
use lib.Count.{leading_le}
use Rattle.numbers.proofs.Shifts.{leading-size}
use Rattle.numbers.proofs.length.Goals as goal

pub returns : goal.returns
returns c = leading-size 64 c.args.m c.ranges.m.fits
