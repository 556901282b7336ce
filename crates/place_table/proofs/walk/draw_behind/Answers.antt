-- `place_table::walk::draw_behind` meets its contract. Assumes nothing.
use mathlib.Core.Path.{sym, ap, ◌∙◌}
use mathlib.Core.Bool.{false}
use Rattle.stream.specs.Calls.{drawn, drawn_in}
use Rattle.macaque_v.specs.Inner.Read.{values_from}
use Rattle.macaque_v.proofs.Drawing.{drawn-from-start}
use Rattle.macaque_v.proofs.Passing.{passed-on}
use Rattle.place_table.proofs.Ranging.{behind-wrong, behind-right}
use Rattle.place_table.proofs.walk.draw_behind.Goals as goal

pub returns-in_err-to : goal.returns-in_err-to
returns-in_err-to c =
    let a = c.args in
    let f = a.from in
    let wrong = behind-wrong f.first f.bytes.now f.at a.skipped a.n c.in_err-to.field-0.0 f.readable c.in_err-to.ensures in
    record { answer = rw (passed-on c.from_residual.result c.from_residual.ensures.1) (sym (ap drawn wrong)); values = sym (ap (drawn_in a.out.now) wrong) }

pub behind-requires : goal.behind-requires
behind-requires c = c.in_ok-to.ensures.0.readable

pub returns : goal.returns
returns c =
    let a = c.args in
    let d = c.draw.ensures in
    let f = a.from in
    let b = c.behind.ensures in
    let right = behind-right f.first f.bytes.now f.at a.skipped a.n c.in_ok-to.ensures.0 in
    record { answer = (rw (b.0, b.1, b.2) at d.answer) ∙ sym (ap drawn right); values = (rw (b.0, b.1, b.2) at d.values) ∙ drawn-from-start a.out.now (values_from false f.first f.bytes.now c.in_ok-to.to a.n) ∙ sym (ap (drawn_in a.out.now) right) }
