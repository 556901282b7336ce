-- `coding::keep::kept` meets its contract, bound by bound. Assumes nothing.
use mathlib.Core.Path.{sym, ap, ◌∙◌}
use Rattle.models.specs.declared.ErrorBound.{ErrorBound}
use Rattle.coding.specs.Keep.{keep_rule}
use Rattle.coding.proofs.keep.kept.Goals as goal

pub returns-in-Lossless : goal.returns-in-Lossless
unfolding keep_rule
returns-in-Lossless c =
    let a = c.args in
    sym (ap (λ (b : ErrorBound). keep_rule b a.last a.value) c.in-Lossless.is)

pub returns-in-Absolute : goal.returns-in-Absolute
unfolding keep_rule
returns-in-Absolute c =
    let a = c.args in
    c.lossy.ensures ∙ sym (ap (λ (b : ErrorBound). keep_rule b a.last a.value) c.in-Absolute.is)

pub returns-in-Relative : goal.returns-in-Relative
unfolding keep_rule
returns-in-Relative c =
    let a = c.args in
    c.lossy-in-Relative.ensures ∙ sym (ap (λ (b : ErrorBound). keep_rule b a.last a.value) c.in-Relative.is)
