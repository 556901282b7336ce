-- `segments::write` meets its contract: what it judges first, and the residuals' stream, which is made aside. Assumes nothing.
use mathlib.Core.Path.{◌≡◌, refl, sym, ap, ◌∙◌}
use mathlib.Core.Bool.{false, ◌||◌}
use mathlib.Core.List.{List}
use Prim.Native.Nat.{ℕ, ◌*◌, ◌^◌, ◌≤◌, ◌<◌}
use native.Mathlib.Omega.{arith}
use borrow.Author.Tests.{ltb-false, le-ltb}
use lib.Dec.{ltb}
use lib.ListN.{length, replicate, length-replicate}
use Rattle.models.specs.Answers.{answered, answered_on, NoneHolds}
use Rattle.models.specs.Calls.{said_by, said_on}
use Rattle.models.specs.declared.ErrorBound.{ErrorBound}
use Rattle.models.proofs.Tests.{neither, not-of}
use Rattle.models.proofs.Judged.{accepted as allowed, not-answered-on}
use Rattle.parameters.proofs.ReadBack.{plain-small}
use Rattle.macaque_v.specs.State.{writer_of}
use Rattle.macaque_v.specs.Calls as stream
use Rattle.macaque_v.specs.Calls.{new_answer}
use Rattle.macaque_v.specs.declared.MacaqueV.{MacaqueV}
use Rattle.macaque_v.specs.declared.Opening.TheVariants.{On}
use Rattle.segments.specs.Segment.{most_residuals, last_of, last_given, residuals_on}
use Rattle.segments.specs.Calls.{Stored, stored_of, handed_answer, handed_values, handed_residuals, write_causes, write_answer, values_after, residuals_after}
use Rattle.segments.specs.Inner.Aside.{stored_by}
use Rattle.segments.proofs.Aside.{opened-allowed, written-aside, aside-count, aside-long, aside-place, aside-stored}
use Rattle.segments.proofs.write.Goals as goal
use Rattle.segments.proofs.write.Goals.{After-new, In_ok-writer}

-- the bytes aside, before the write
abbrev aside : List ℕ
aside = replicate 1403 0

-- the write, and what it tells
module _ (b : ErrorBound) (m : MacaqueV) (model first last_value : ℕ) (xs : List ℕ) (opened : new_answer b (On (last_of model first last_value)) ≡ answered m) (within : (ltb 1 model || ltb most_residuals (length xs)) ≡ false) (room : 1403 ≤ length aside) where
  abbrev last : ℕ
  last = last_of model first last_value

  few : length xs ≤ most_residuals
  few = ltb-false most_residuals (length xs) (neither (ltb 1 model) (ltb most_residuals (length xs)) within).1

  small : last < 2 ^ 32
  unfolding last_of
  small = plain-small (last_given model first last_value)

  accepted : stream.write_answer m xs aside ≡ answered_on (writer_of b false (residuals_on b last xs))
  accepted = written-aside b last small xs few m opened aside room

  -- where it was written
  module _ (n : MacaqueV) (wrote : stream.write_answer m xs aside ≡ answered_on n) where
    placed : n.place ≤ 8 * length (stream.write_memory m xs aside)
    placed = aside-place b last small xs few m opened aside room n wrote

    counted : n.length ≡ length xs
    counted = aside-count b last small xs few m opened aside room n wrote

    long : length (stream.write_memory m xs aside) ≡ length aside
    long = aside-long b last small xs few m opened aside room n wrote

    same-stored : stored_by model first last_value n (stream.write_memory m xs aside) ≡ stored_of model first last_value b xs
    same-stored = aside-stored b last small xs few m opened aside room n wrote model first last_value refl

-- what the fresh writer's answer says
opens : (c : In_ok-writer) → new_answer c.args.error_bound (On (last_of c.args.model c.args.first_value c.args.last_value)) ≡ answered c.in_ok-writer.writer
opens c = sym (c.new.ensures ∙ rw c.last_value.ensures) ∙ ap said_by c.in_ok-writer.was

-- no cause of limits holds
within : (model : ℕ) (xs : List ℕ) → model ≤ 1 → length xs ≤ most_residuals → (ltb 1 model || ltb most_residuals (length xs)) ≡ false
within model xs h few = rw (le-ltb 1 model h, le-ltb most_residuals (length xs) few)

pub hand_out-requires : goal.hand_out-requires
hand_out-requires c =
    let a = c.args in
    let opened = opens (goal.at.hand_out-requires c).In_ok-writer in
    let m = c.in_ok-writer.writer in
    let free = within a.model a.residuals.now (omega arith) (omega arith) in
    let room : 1403 ≤ length aside = rw length-replicate (omega arith) in
    let n = c.in-Ok.after in
    let wrote : stream.write_answer m a.residuals.now aside ≡ answered_on n = sym c.compress_values.ensures.answer ∙ ap said_on c.in-Ok.is in
    rw c.compress_values.ensures.bytes
    record {
      in_stream = placed a.error_bound m a.model a.first_value a.last_value a.residuals.now opened free room n wrote;
      few = omega (arith, counted a.error_bound m a.model a.first_value a.last_value a.residuals.now opened free room n wrote, few a.error_bound m a.model a.first_value a.last_value a.residuals.now opened free room);
      short = omega (arith, long a.error_bound m a.model a.first_value a.last_value a.residuals.now opened free room n wrote);
    }

pub returns-in-Err : goal.returns-in-Err
returns-in-Err c =
    let a = c.args in
    let room : 1403 ≤ length aside = rw length-replicate (omega arith) in
    absurd (not-answered-on (sym (ap said_on c.in-Err.is) ∙ c.compress_values.ensures.answer ∙ accepted a.error_bound c.in_ok-writer.writer a.model a.first_value a.last_value a.residuals.now (opens (goal.at.returns-in-Err c).In_ok-writer) (within a.model a.residuals.now (omega arith) (omega arith)) room))

pub returns-in-Ok : goal.returns-in-Ok
unfolding write_answer values_after residuals_after
returns-in-Ok c =
    let a = c.args in
    let v = a.values_out.now in
    let r = a.residuals_out.now in
    let opened = opens (goal.at.returns-in-Ok c).In_ok-writer in
    let m = c.in_ok-writer.writer in
    let free = within a.model a.residuals.now (omega arith) (omega arith) in
    let room : 1403 ≤ length aside = rw length-replicate (omega arith) in
    let n = c.in-Ok.after in
    let wrote : stream.write_answer m a.residuals.now aside ≡ answered_on n = sym c.compress_values.ensures.answer ∙ ap said_on c.in-Ok.is in
    let none : NoneHolds (write_causes a.model a.error_bound a.residuals.now) = (not-of (opened-allowed _ _ _ opened), (free, tt)) in
    let same = ap (stored_by a.model a.first_value a.last_value n) c.compress_values.ensures.bytes ∙ same-stored a.error_bound m a.model a.first_value a.last_value a.residuals.now opened free room n wrote in
    record {
      answer = c.hand_out.ensures.answer ∙ ap (λ (w : Stored). handed_answer w v r) same ∙ allowed _ _ _ none;
      values = c.hand_out.ensures.values ∙ ap (λ (w : Stored). handed_values w v r) same ∙ allowed _ _ _ none;
      bytes = c.hand_out.ensures.bytes ∙ ap (λ (w : Stored). handed_residuals w v r) same ∙ allowed _ _ _ none;
    }
