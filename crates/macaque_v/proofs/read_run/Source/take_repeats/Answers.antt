-- `macaque_v::read_run::Source::take_repeats` meets its contract: each repeat is the last value again, two bits on. Assumes nothing.
use mathlib.Core.Path.{sym, subst}
use native.Mathlib.Omega.{arith}
use Rattle.macaque_v.specs.Inner.ReadRun.{ReadsOn}
use Rattle.macaque_v.proofs.Repeating.{reached-none, on-repeats}
use Rattle.macaque_v.proofs.read_run.Source.take_repeats.Goals as goal

pub returns-then-k-eq0 : goal.returns-then-k-eq0
returns-then-k-eq0 c =
    let s = c in
    let a = s.args in
    (reached-none a.self.first a.self.bytes.now a.self.at a.i a.n a.out.now s.args.self.readable (omega arith)).on

pub spread-requires : goal.spread-requires
spread-requires c = omega (arith, c.requires.4 (omega arith))

pub returns : goal.returns
returns c =
    let s = c in
    let a = s.args in
    let new = c.spread.new.out in
    subst (ReadsOn a.self.first a.self.bytes.now a.self.at a.i a.n a.out.now new) (sym c.further.ensures)
    (on-repeats a.self.first a.self.bytes.now a.self.at a.i a.n a.out.now new s.args.self.readable (omega arith) (s.requires.4 (omega arith)) a.k (omega arith) s.requires.3
    c.spread.ensures)
