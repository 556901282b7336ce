-- `lines::average_sum` meets its contract. Assumes nothing.
use lib.Ieee as Ieee
use mir.Syntax.{w64}
use mir.ValLaws.{to_z-of_z}
use Rattle.lines.specs.Values.{average_sum}
use Rattle.lines.proofs.Exact.{time-fits}
use Rattle.lines.proofs.Ordered.{start-in-time, end-in-time}
use Rattle.lines.proofs.average_sum.Goals as goal

pub line_through-l-requires : goal.line_through-l-requires
line_through-l-requires c = record { a_allowed = start-in-time _ _ c.requires.times; b_allowed = end-in-time _ _ c.requires.times }

pub value_at-first-requires : goal.value_at-first-requires
value_at-first-requires c =
    let a = c.args.a in
    let ok = start-in-time a _ c.requires.times in
    rw (to_z-of_z w64 a.time (time-fits _ ok)) ok

pub value_at-last-requires : goal.value_at-last-requires
value_at-last-requires c =
    let b = c.args.b in
    let ok = end-in-time _ b c.requires.times in
    rw (to_z-of_z w64 b.time (time-fits _ ok)) ok

pub returns : goal.returns
unfolding average_sum Ieee.of_bits
returns c =
    let a = c.args.a in
    let b = c.args.b in
    let za = to_z-of_z w64 a.time (time-fits _ (start-in-time a b c.requires.times)) in
    let zb = to_z-of_z w64 b.time (time-fits _ (end-in-time a b c.requires.times)) in
    rw (c.answered.ensures, c.value_at-first.ensures, c.value_at-last.ensures, c.line_through-l.ensures, za, zb)
