-- `lines::value_at` meets its contract: the time is exact in f64. Assumes nothing.
use mir.Syntax.{w64}
use mir.ValLaws.{to_z-of_z}
use Rattle.lines.proofs.Exact.{time-whole}
use Rattle.lines.proofs.value_at.Goals as goal

pub int_to_float-result : goal.int_to_float-result
int_to_float-result c = rw (to_z-of_z w64 c.args.t c.ranges.t) (time-whole c.args.t c.requires)
