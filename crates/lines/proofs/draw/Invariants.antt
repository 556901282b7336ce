-- `lines::draw` meets its contract: what is left to store, from i on. Assumes nothing.
use mathlib.Core.Path.{◌≡◌}
use lib.ListN.{drop}
use lib.Seq.{sets}
use mathlib.Core.List.{map}
use Rattle.lines.specs.Values.{line_drawn_at}
use Rattle.lines.proofs.draw.Given as goal

abbrev pub invariant-loop-i : goal.invariant-loop-i
invariant-loop-i l = sets l.out l.i (map (line_drawn_at l.line) (drop l.i l.ts)) ≡ sets l.initial.out 0 (map (line_drawn_at l.line) l.ts)
