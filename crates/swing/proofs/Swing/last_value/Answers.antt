-- `Swing::last_value` meets its contract. Assumes nothing.
use mir.Syntax.{w64}
use mir.ValLaws.{to_z-of_z}
use Rattle.models.specs.Floats.{min_f, max_f}
use Rattle.swing.specs.Model.{last_value}
use Rattle.lines.proofs.Exact.{time-fits}
use Rattle.swing.proofs.Swing.last_value.Goals as goal

pub returns : goal.returns
unfolding last_value min_f max_f
returns c =
    let s = c.args.self in
    rw (c.span.ensures, c.greater-slope.ensures, c.lesser-under.ensures, c.sums-sums.ensures, to_z-of_z w64 s.start_time (time-fits _ c.requires.start), to_z-of_z w64 s.end_time (time-fits _ c.requires.end))
