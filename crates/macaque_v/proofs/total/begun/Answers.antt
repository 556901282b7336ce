-- `macaque_v::total::begun` meets its contract. Assumes nothing.
use mathlib.Core.Path.{sym, ap}
use mathlib.Core.Bool.{Bool}
use lib.Ieee.{neg, of_bits}
use Rattle.macaque_v.specs.Inner.Total.{added_to}
use Rattle.macaque_v.proofs.total.begun.Goals as goal

pub returns-then-raw : goal.returns-then-raw
unfolding neg of_bits
returns-then-raw c = sym (ap (λ (raw : Bool). added_to raw c.args.sum) c.if-raw.true)
