-- `macaque_v::read_run::Source::draw` meets its contract: a block is read, what stands behind it is found, and it is copied. Assumes nothing.
use mathlib.Core.Path.{◌≡◌, sym, ap, ◌∙◌}
use Prim.Native.Nat.{◌+◌, ◌-◌}
use native.Mathlib.Omega.{arith}
use lib.ListN.{length, take}
use Rattle.models.specs.Calls.{said_by}
use Rattle.models.specs.Refusals.{fault_of}
use Rattle.macaque_v.specs.Read.{drawn}
use Rattle.macaque_v.specs.Inner.Read.{values_from, drawn_at, Right}
use Rattle.macaque_v.proofs.Passing.{passed-on}
use Rattle.macaque_v.proofs.Drawing.{wrong-where, from_wrong, from-early, from-right, from_then, drawn-behind, refused-behind, right-rest, right-none, right-says, right-copied}
use Rattle.macaque_v.proofs.read_run.Source.+draw.Goals as goal
use Rattle.macaque_v.proofs.read_run.Source.+draw.Goals.{then-k-n+in_ok-draw, else-k-n+in_ok-judge_behind}

pub behind-requires : goal.behind-requires
behind-requires t c = c.in_ok-to.ensures.0.readable

pub returns-in_err-draw : goal.returns-in_err-draw
returns-in_err-draw t c =
    let a = c.args in
    let k = c.min-k.result in
    let us = take k c.fill.new.out in
    let rest = values_from a.whole a.self.first a.self.bytes.now c.in_ok-to.to (a.n - k) in
    let all = from_then a.whole a.self.first a.self.bytes.now a.self.at c.in_ok-to.ensures.0 a.n (omega arith) in
    let b = c.behind.ensures in
    let says = ap said_by (sym c.in_err-draw.was) ∙ (rw (b.0, b.1, b.2) at c.draw.ensures.answer) in
    record {
      answer = rw (passed-on c.from_residual-in_err-draw.result c.from_residual-in_err-draw.ensures.1) (says ∙ sym (ap drawn all ∙ drawn-behind us rest));
      values =
          (rw (b.0, b.1, b.2) at c.draw.ensures.values)
          ∙ refused-behind us a.i (a.i + k) a.out.now (fault_of c.in_err-draw.field-0.0) rest says
          ∙ sym (ap (drawn_at a.i a.out.now) all);
    }

pub returns-in_err-judge_behind : goal.returns-in_err-judge_behind
returns-in_err-judge_behind t c =
    let a = c.args in
    let k = c.min-k.result in
    let e : k ≡ a.n = omega arith in
    let r = c.in_err-judge_behind in
    let b = c.behind-else-k-n.ensures in
    let stops = wrong-where c.in_ok-to.ensures.0 a.whole (ap said_by (sym r.was) ∙ (rw (b.0, b.2) at c.judge_behind.ensures)) in
    let wrong = ap (values_from a.whole a.self.first a.self.bytes.now a.self.at) (sym e) ∙ from_wrong a.whole a.self.first a.self.bytes.now a.self.at k r.field-0.0 stops in
    record { answer = rw (passed-on c.from_residual-in_err-judge_behind.result c.from_residual-in_err-judge_behind.ensures.1) (sym (ap drawn wrong)); values = sym (ap (drawn_at a.i a.out.now) wrong) }

pub returns-in_err-to : goal.returns-in_err-to
returns-in_err-to t c =
    let a = c.args in
    let wrong =
    from-early a.whole a.self.first a.self.bytes.now a.self.at a.n c.min-k.result c.in_err-to.field-0.0 c.args.self.readable (omega arith) c.in_err-to.ensures in
    record { answer = rw (passed-on c.from_residual.result c.from_residual.ensures.1) (sym (ap drawn wrong)); values = sym (ap (drawn_at a.i a.out.now) wrong) }

-- nothing stands behind the block, or the rest was drawn
pub returns : goal.returns
returns t c =
    let a = c.args in
    let k = c.min-k.result in
    let us = take k c.fill.new.out in
    let to = c.in_ok-to.to in
    let R = c.in_ok-to.ensures.0 in
    let q : Right us (values_from a.whole a.self.first a.self.bytes.now a.self.at a.n) (a.i + k) a.out.now c.if-k-n.out =
    elim c.if-k-n.branch [
      | then-k-n+in_ok-draw w ↦
          let all = from_then a.whole a.self.first a.self.bytes.now a.self.at R a.n (omega arith) in
          let b = w.behind.ensures in
          right-rest us (a.i + k) a.out.now c.if-k-n.out (values_from a.whole a.self.first a.self.bytes.now to (a.n - k)) all
          (ap said_by (sym w.in_ok-draw.was) ∙ (rw (b.0, b.1, b.2) at w.draw.ensures.answer)) (w.out-is ∙ (rw (b.0, b.1, b.2) at w.draw.ensures.values))
          (ap length w.out-is ∙ w.draw.auto.out)
      | else-k-n+in_ok-judge_behind w ↦
          let e : k ≡ a.n = omega arith in
          let b = w.behind-else-k-n.ensures in
          right-none us (a.i + k) a.out.now c.if-k-n.out
          (ap (values_from a.whole a.self.first a.self.bytes.now a.self.at) (sym e)
          ∙ from-right a.whole a.self.first a.self.bytes.now a.self.at R (sym (rw (b.0, b.2) at w.judge_behind.ensures) ∙ ap said_by w.in_ok-judge_behind.was))
          w.out-is
    ] in
    record {
      answer = right-says us (a.i + k) a.out.now c.if-k-n.out q;
      values = c.copy.ensures ∙ right-copied us a.i k a.out.now q R.long (omega (arith, c.requires.1, c.min-k.ensures));
    }
