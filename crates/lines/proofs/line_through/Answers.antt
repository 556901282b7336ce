-- `lines::line_through` meets its contract: the time is exact in f64. Assumes nothing.
use mir.Syntax.{w64}
use mir.ValLaws.{to_z-of_z}
use Rattle.lines.proofs.Exact.{time-whole, time-fits}
use Rattle.lines.proofs.line_through.Goals as goal

pub int_to_float-start : goal.int_to_float-start
int_to_float-start c =
    let t = c.args.a.time in
    rw (to_z-of_z w64 t (time-fits t c.requires.a_allowed)) (time-whole t c.requires.a_allowed)
