-- `segment_grid::draw::draw` meets its contract. Assumes nothing.
use mathlib.Core.Path.{◌≡◌, sym, ap, subst, ◌∙◌}
use mathlib.Core.List.{◌++◌}
use Prim.Native.Nat.{ℕ, ◌-◌, ◌≤◌}
use native.Mathlib.Omega.{arith}
use borrow.Rule.Slice.PartMut.{put_mid}
use lib.ListN.{length, take, drop}
use lib.Seq.{length-take-le}
use Rattle.std.proofs.lemmas.Result.{err_from_is_err_and}
use Rattle.models.specs.Answers.{answered}
use Rattle.models.specs.Refusals.{fault_of}
use Rattle.models.specs.Calls.{said_by}
use Rattle.macaque_v.specs.Read.{drawn, drawn_in}
use Rattle.parameters.specs.Forms.{Ends}
use Rattle.segment_grid.specs.Segment.{residuals_in, model_values, owned_times}
use Rattle.segment_grid.specs.Calls.{behind}
use Rattle.segment_grid.proofs.Owned.{in_order_take, length-model}
use Rattle.segment_grid.proofs.Placed.{still-long, when-drawn, when-stopped}
use Rattle.segment_grid.proofs.draw.draw.Goals as goal

pub draw_model-requires : goal.draw_model-requires
draw_model-requires c =
    let a = c.args in
    let ts = a.timestamps.now in
    let out = a.out.now in
    let p = c.requires in
    let n = c.owned-owned.result in
    let is = c.owned-owned.ensures in
    let le : n ≤ length out = omega (arith, p.2, is) in
    let len : length (take n ts) ≡ n = length-take-le n ts (omega (arith, is)) in
    (in_order_take n ts p.3, omega (arith, len, is, p.1), omega (arith, len, still-long n out le c.draw_residuals.new.out))

pub returns-in_err-draw_residuals : goal.returns-in_err-draw_residuals
returns-in_err-draw_residuals c =
    let a = c.args in
    let ts = a.timestamps.now in
    let out = a.out.now in
    let p = c.requires in
    let n = c.owned-owned.result in
    let is = c.owned-owned.ensures in
    let le : n ≤ length out = omega (arith, p.2, is) in
    let q = residuals_in a.residuals.now a.last in
    let res = c.draw_residuals in
    let e = err_from_is_err_and c.from_residual.result c.from_residual.ensures.1 in
    let both = when-stopped n out le q (fault_of c.in_err-draw_residuals.field-0.0) (sym (ap said_by c.in_err-draw_residuals.was) ∙ res.ensures.answer) (model_values a.model (owned_times ts a.residuals.now) (a.first, a.last)) res.new.out res.ensures.output in
    record { answer = rw (e.1, e.2) both.0; output = both.1 }

pub returns : goal.returns
returns c =
    let a = c.args in
    let ts = a.timestamps.now in
    let out = a.out.now in
    let ends : Ends = (a.first, a.last) in
    let p = c.requires in
    let n = c.owned-owned.result in
    let is = c.owned-owned.ensures in
    let le : n ≤ length out = omega (arith, p.2, is) in
    let q = residuals_in a.residuals.now a.last in
    let res = c.draw_residuals in
    let len : length (take n ts) ≡ n = length-take-le n ts (omega (arith, is)) in
    let ms = model_values a.model (take n ts) ends in
    let part = res.new.out in
    let w = when-drawn n out le q (sym (ap said_by c.in_ok-draw_residuals.was) ∙ res.ensures.answer) ms part (length-model a.model (take n ts) ends ∙ len) res.ensures.output in
    record {
      answer = subst (λ (k : ℕ). answered tt ≡ drawn (behind (model_values a.model (take k ts) ends) q)) is w.0;
      output = c.draw_model.ensures ∙ ap (λ (j : ℕ). ms ++ drop j (put_mid n (length out - n) out part)) len ∙ w.1 ∙ ap (λ (k : ℕ). drawn_in out (behind (model_values a.model (take k ts) ends) q)) is;
    }
