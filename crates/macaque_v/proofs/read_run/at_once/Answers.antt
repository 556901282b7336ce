-- `macaque_v::read_run::at_once` meets its contract: the first of some repeats are repeats too. Assumes nothing.
use native.Mathlib.Omega.{arith}
use Rattle.coding.proofs.Repeats.{fewer-at-top, none_at_top}
use Rattle.macaque_v.proofs.read_run.at_once.Goals as goal

pub returns-then-room-lt28 : goal.returns-then-room-lt28
returns-then-room-lt28 c = record { top = none_at_top c.args.word; wanted = omega arith; free = λ some. absurd (omega arith) }

pub returns : goal.returns
returns c =
    let a = c.args in
    record { top = fewer-at-top a.word c.at_top.result c.min.result c.at_top.ensures (omega arith); wanted = omega arith; free = λ some. omega arith }
