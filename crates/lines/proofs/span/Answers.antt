-- `lines::span` meets its contract: the difference is exact. The machine reads the times, and their difference, back from their bits. Assumes nothing.
use mir.Syntax.{w64}
use mir.ValLaws.{to_z-of_z}
use Rattle.lines.proofs.Exact.{span-whole, whole-fits}
use Rattle.lines.proofs.span.Goals as goal

pub overflow_sub-result : goal.overflow_sub-result
overflow_sub-result c =
    let a = c.args.start in
    let b = c.args.end in
    rw (to_z-of_z w64 a c.ranges.start, to_z-of_z w64 b c.ranges.end) (whole-fits _ (span-whole a b c.requires.start_allowed c.requires.end_allowed))

pub int_to_float-result : goal.int_to_float-result
int_to_float-result c =
    let a = c.args.start in
    let b = c.args.end in
    let w = span-whole a b c.requires.start_allowed c.requires.end_allowed in
    rw (to_z-of_z w64 a c.ranges.start, to_z-of_z w64 b c.ranges.end, to_z-of_z w64 _ (whole-fits _ w)) w

pub returns : goal.returns
returns c =
    let a = c.args.start in
    let b = c.args.end in
    let w = span-whole a b c.requires.start_allowed c.requires.end_allowed in
    rw (to_z-of_z w64 a c.ranges.start, to_z-of_z w64 b c.ranges.end, to_z-of_z w64 _ (whole-fits _ w))
