-- `macaque_v::read_run::Source::judge_end` meets its contract. Assumes nothing.
use mathlib.Core.Path.{sym, ap, ◌∙◌}
use native.Mathlib.Omega.{arith}
use Rattle.macaque_v.specs.Inner.ReadRun.{says_behind}
use Rattle.macaque_v.proofs.ReadingEnd.{ended-right, ended-wrong}
use Rattle.macaque_v.proofs.read_run.Source.judge_end.Goals as goal

pub left_behind-requires : goal.left_behind-requires
left_behind-requires c = (c.args.self.readable.within, omega (arith, c.args.self.readable.near, c.requires))

pub returns-in-None : goal.returns-in-None
returns-in-None c =
    let a = c.args in
    ended-right a.self.bytes.now a.self.at (sym (ap says_behind c.in-None.is) ∙ c.left_behind.ensures)

pub returns-in-Some : goal.returns-in-Some
returns-in-Some c =
    let a = c.args in
    ended-wrong a.self.bytes.now a.self.at _ (sym (ap says_behind c.in-Some.is) ∙ c.left_behind.ensures)
