-- `macaque_v::read_run::Source::judge_behind` meets its contract. Assumes nothing.
use mathlib.Core.Path.{sym, ap, ◌∙◌}
use mathlib.Core.Bool.{Bool}
use Rattle.macaque_v.specs.Inner.Read.{end_where}
use Rattle.macaque_v.proofs.read_run.Source.judge_behind.Goals as goal

pub returns-then-whole : goal.returns-then-whole
returns-then-whole c =
    let a = c.args in
    c.judge_end.ensures ∙ ap (λ (b : Bool). end_where b a.self.bytes.now a.self.at) (sym c.if-whole.true)

pub returns : goal.returns
returns c =
    let a = c.args in
    ap (λ (b : Bool). end_where b a.self.bytes.now a.self.at) (sym c.if-whole.false)
