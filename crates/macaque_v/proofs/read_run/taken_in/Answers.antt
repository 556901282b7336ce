-- `macaque_v::read_run::taken_in` meets its contract, by what is aimed at. Assumes nothing.
use mathlib.Core.Path.{sym, ap, ◌∙◌}
use Rattle.macaque_v.specs.State.{mode_of}
use Rattle.macaque_v.specs.Inner.ReadRun.{with_sum, tallied}
use Rattle.macaque_v.specs.declared.read_run.Aim.{Aim}
use Rattle.macaque_v.proofs.read_run.taken_in.Goals as goal

pub returns-in-Sum : goal.returns-in-Sum
returns-in-Sum c =
    let a = c.args in
    ap (with_sum a.tally) c.added.ensures ∙ sym (ap (λ (aim : Aim). tallied aim (mode_of a.first) a.count a.tally a.values.now) c.in-Sum.is)

pub returns-in-All : goal.returns-in-All
returns-in-All c =
    let a = c.args in
    c.all_taken_in.ensures ∙ sym (ap (λ (aim : Aim). tallied aim (mode_of a.first) a.count a.tally a.values.now) c.in-All.is)
