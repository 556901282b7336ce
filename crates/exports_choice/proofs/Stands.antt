-- A row that a call on a builder left stands for the builder that the call handed out, whatever words it held before: so the next call on the row goes on
-- where the last one ended, and the row after any list of steps stands for the builder after these steps. Assumes nothing.
use mathlib.Core.Path.{◌≡◌, refl}
use mathlib.Core.Bool.{true}
use mathlib.Core.List.{List, foldl}
use Prim.Native.Nat.{ℕ, ◌≤◌}
use borrow.Author.Tests.{not-false}
use lib.Dec.{T, ltb}
use lib.ListN.{length, drop}
use lib.Ieee.{Float, binary32, fits}
use lib.Ieee.Bits.{of_bits-fits}
use mir.Syntax.{w64}
use mir.Val.{SFits}
use Rattle.models.specs.declared.Stepped.{Stepped}
use Rattle.models.specs.Answers.{NoneHolds}
use Rattle.models.specs.Bound.{bound_allowed, BoundHeld}
use Rattle.models.specs.declared.ErrorBound.{ErrorBound}
use Rattle.models.proofs.Tests.{and_left, by-test}
use Rattle.lines.specs.Times.{time_allowed}
use Rattle.lines.specs.Line.{point_of}
use Rattle.lines.specs.declared.Point.{Point}
use Rattle.lines.proofs.Exact.{time-fits}
use Rattle.swing.specs.Run.{Given}
use Rattle.types.specs.Builder.{fresh, time_fits, with_pmc, with_swing, update_pmc, update_swing, updated, answered_by}
use Rattle.types.specs.Calls.{new_answer, update_causes, update_answer}
use Rattle.types.specs.Run.{next, run}
use Rattle.types.specs.declared.ModelBuilder.{ModelBuilder}
use Rattle.exports.specs.Face.{bound_of, row_after}
use Rattle.exports.specs.Words.{bound_front}
use Rattle.exports.proofs.Back.{bound-of-held, bound-front-held}
use Rattle.exports.proofs.Stands.{StateRow, new-stands, step-stands, rows-stand}
use Rattle.exports_fit.specs.Row.{pmc_length, pmc_row, pmc_in, swing_row}
use Rattle.exports_fit.proofs.Back.{PmcHeld, SwingHeld}
use Rattle.exports_fit.proofs.Held.{pmc-fresh, no-pmc-held, pmc-in, pmc-tried, swing-fresh, no-swing-held, swing-in, swing-tried}
use Rattle.exports_choice.specs.Row.{builder_length, builder_row, unusable, flags, later_bound, no_builder, read_builder, builder_in, builder_step, builder_after}
use Rattle.exports_choice.proofs.Back.{builder-back}

-- ---- the fields of a builder's models are of their formats
abbrev pub BuilderHeld : ModelBuilder → Type 0
BuilderHeld b = PmcHeld b.pmc_mean × SwingHeld b.swing

pub builder-fresh : (b : ErrorBound) → BoundHeld b → BuilderHeld (fresh b)
unfolding fresh
builder-fresh b h = (pmc-fresh b h, swing-fresh b h)

pub builder-in : (row : List ℕ) → BuilderHeld (builder_in row)
unfolding builder_in
builder-in row =
    let p = pmc-in row in
    let lost : PmcHeld (unusable (pmc_in row)) = record { bound = p.bound; least = p.least; greatest = p.greatest; sum = p.sum } in
    by-test BuilderHeld (ltb (length row) builder_length) (no_builder row) (read_builder row)
    (λ short. (no-pmc-held (bound_front row) (bound-front-held row), no-swing-held (later_bound row) (bound-front-held (drop pmc_length row))))
    (λ long. (by-test PmcHeld (flags row) (pmc_in row) (unusable (pmc_in row)) (λ h. p) (λ h. lost), swing-in (drop pmc_length row)))

pmc-part : (b : ModelBuilder) (v : Float) → BuilderHeld b → T (fits binary32 v) → BuilderHeld (update_pmc b v)
unfolding update_pmc with_pmc
pmc-part b v h ok = by-test BuilderHeld b.pmc_mean_could_fit_all _ b (λ live. (pmc-tried b.pmc_mean v h.0 ok, h.1)) (λ failed. h)

swing-part : (b : ModelBuilder) (p : Point) → BuilderHeld b → SFits w64 p.time → T (fits binary32 p.value) → BuilderHeld (update_swing b p)
unfolding update_swing with_swing
swing-part b p h time ok = by-test BuilderHeld b.swing_could_fit_all _ b (λ live. (h.0, swing-tried b.swing p h.1 time ok)) (λ failed. h)

pub builder-updated : (b : ModelBuilder) (g : Given) → BuilderHeld b → NoneHolds (update_causes b g.time) → BuilderHeld (updated b (point_of g.time g.bits))
unfolding updated time_fits
builder-updated b g h none =
    let p = point_of g.time g.bits in
    let v = of_bits-fits binary32 g.bits in
    let time = time-fits g.time (and_left (time_allowed g.time) _ (not-false _ none.1.1.1.0)) in
    swing-part (update_pmc b p.value) p (pmc-part b p.value h v) time v

-- ---- the laws
pub builder-long : (t : Stepped ModelBuilder) → length (builder_step t) ≡ builder_length
unfolding builder_row pmc_row swing_row
builder-long t = refl

abbrev pub builder_state_row : StateRow ModelBuilder
builder_state_row =
    record {
      size = builder_length;
      words = builder_step;
      read = builder_in;
      Formed = BuilderHeld;
      long = builder-long;
      back = λ t rest ok. builder-back t.state rest ok.0 ok.1;
      formed = builder-in;
    }

pub builder-new-stands : (kind bound : ℕ) (row : List ℕ) → bound_allowed (bound_of kind bound) ≡ true → builder_length ≤ length row
    → builder_in (row_after builder_length builder_row row (new_answer (bound_of kind bound))) ≡ fresh (bound_of kind bound)
unfolding new_answer
builder-new-stands kind bound row allowed room =
    let b = bound_of kind bound in
    new-stands builder_state_row row room b (fresh b) allowed (builder-fresh b (bound-of-held kind bound))

abbrev builder_tried : ModelBuilder → Given → Stepped ModelBuilder
builder_tried b g = answered_by (updated b (point_of g.time g.bits))

pub builder-step-stands : (row : List ℕ) (g : Given) → builder_in (builder_after row g) ≡ next (builder_in row) g
unfolding update_answer
builder-step-stands = step-stands builder_state_row (λ b g. update_causes b g.time) builder_tried builder-updated

-- the row after a list of steps
pub builder-rows-stand : (row : List ℕ) (given : List Given) → builder_in (foldl builder_after row given) ≡ run (builder_in row) given
unfolding update_answer
builder-rows-stand = rows-stand builder_state_row (λ b g. update_causes b g.time) builder_tried builder-updated
