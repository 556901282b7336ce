-- A segment that was written reads back. `write_answer`, `values_after` and `residuals_after` are what the contract of `segments::write` says that it answers
-- and leaves in its two outputs. Assumes nothing.
use mathlib.Core.Path.{◌≡◌, refl, sym, ap, ap₂, ◌∙◌, subst}
use mathlib.Core.List.{List, ◌++◌, append_assoc}
use Prim.Native.Nat.{ℕ, zero, suc, ◌-◌, ◌^◌, ◌<◌, ◌≤◌}
use native.Mathlib.Omega.{arith}
use borrow.Author.Tests.{ltb-false, not-false}
use lib.Dec.{ltb}
use lib.IntN.{ℤ}
use lib.ListN.{length, take, drop}
use lib.Seq.{take_at, drop_at, length-take-le}
use Rattle.bits.specs.Bits.{Below}
use Rattle.models.specs.Answers.{answered, judged_memory, verdict, keeping, NoneHolds}
use Rattle.models.specs.Floats.{plain_bits}
use Rattle.models.specs.declared.ErrorBound.{ErrorBound}
use Rattle.models.proofs.Judged.{answered-only, same_answer}
use Rattle.models.proofs.Tests.{neither}
use Rattle.models.proofs.Judged as judging
use Rattle.macaque_v.specs.declared.Opening.TheVariants.{On}
use Rattle.macaque_v.specs.Made.{kept_of}
use Rattle.macaque_v.specs.Kept.{KeptWithin}
use Rattle.macaque_v.proofs.Kept.{all_pass}
use Rattle.parameters.specs.Forms.{Ends}
use Rattle.parameters.proofs.ReadBack.{plain-small, pmc-mean-reads-back, swing-reads-back}
use Rattle.segments.specs.Segment.{most_residuals, last_given, last_of, form_of, counted_bytes}
use Rattle.segments.specs.Calls.{Stored, stored_of, front, handed_answer, handed_values, handed_residuals, write_causes, write_answer, values_after, residuals_after, too_short}
use Rattle.segments.specs.declared.Segment.{Segment}
use Rattle.segment_grid.specs.Segment.{both_ends, ends_in, model_values, HoldsResiduals}
use Rattle.segment_grid.specs.Calls.{grid_causes, grid_answer, grid_memory}
use Rattle.segment_grid.proofs.Promises as reading
use Rattle.segment_grid.proofs.Owned.{length-model}

module _ (model first last : ℕ) (b : ErrorBound) (xs values_out residuals_out : List ℕ) (s : Segment)
    (h : write_answer model first last b xs values_out residuals_out ≡ answered s) where
  abbrev what : Stored
  what = stored_of model first last b xs

  -- an answer tells that no cause held
  told : NoneHolds (write_causes model b xs) × (handed_answer what values_out residuals_out ≡ answered s)
  unfolding write_answer
  told = answered-only (write_causes model b xs) (handed_answer what values_out residuals_out) s h

  room : NoneHolds (too_short what values_out residuals_out) × (answered what.segment ≡ answered s)
  unfolding handed_answer
  room = answered-only (too_short what values_out residuals_out) (answered what.segment) s told.1

  pub stored-segment : what.segment ≡ s
  stored-segment = same_answer room.1

  -- an accepted write's bytes are at the front of an output
  front-stored : (bytes out : List ℕ) (n : ℕ) → n ≡ length bytes
      → take n (judged_memory out (write_causes model b xs) (judged_memory out (too_short what values_out residuals_out) (front bytes out))) ≡ bytes
  front-stored bytes out n long =
      ap₂ (λ (k : ℕ) (all : List ℕ). take k all) long
      (sym (judging.accepted (keeping out) _ (write_causes model b xs) told.0) ∙ sym (judging.accepted (keeping out) _ (too_short what values_out residuals_out) room.0))
      ∙ take_at bytes (drop (length bytes) out) (length bytes) refl

  -- the bytes in use of the first output are the parameters', those of the second the residuals'
  pub values-stored : take s.values_length (values_after model first last b xs values_out residuals_out) ≡ what.values
  unfolding values_after handed_values stored_of
  values-stored = front-stored what.values values_out s.values_length (sym (ap (λ (t : Segment). t.values_length) stored-segment))

  pub residuals-stored : take s.residuals_length (residuals_after model first last b xs values_out residuals_out) ≡ what.residuals
  unfolding residuals_after handed_residuals stored_of
  residuals-stored = front-stored what.residuals residuals_out s.residuals_length (sym (ap (λ (t : Segment). t.residuals_length) stored-segment))

  -- the model is one of the two
  one_of_two : model ≤ 1
  one_of_two = ltb-false 1 model (neither (ltb 1 model) (ltb most_residuals (length xs)) told.0.1.0).0

  -- its parameters as they are answered: PMC-Mean's value is both
  abbrev parameters : Ends
  parameters = (plain_bits first, last_of model first last)

  -- "parameters read back bit for bit", against the segment's own minimum and maximum
  pub parameters-read-back : ends_in model s.min_value s.max_value what.values ≡ answered parameters
  unfolding ends_in stored_of form_of last_of
  parameters-read-back =
      ap (λ (t : Segment). ends_in model t.min_value t.max_value what.values) (sym stored-segment) ∙ by-model model one_of_two refl
    where
      by-model : (n : ℕ) → n ≤ 1 → n ≡ model → ends_in model what.segment.min_value what.segment.max_value what.values ≡ answered parameters
      by-model zero l e = rw (← e) (ap both_ends (pmc-mean-reads-back first _ _))
      by-model (suc zero) l e = rw (← e) (swing-reads-back first last _ _)
      by-model (suc (suc n)) l e = absurd (omega arith)

  small-last : last_of model first last < 2 ^ 32
  unfolding last_of
  small-last = plain-small (last_given model first last)

  stored-residuals : HoldsResiduals b (last_of model first last) xs what.residuals
  unfolding stored_of counted_bytes
  stored-residuals = reading.holds-residuals b (last_of model first last) xs

  -- read from the bytes in use of the two outputs, with the segment's minimum and maximum: where no cause refuses the reading, the drawn values at the
  -- model's timestamps, then the kept residuals bit for bit
  pub a-written-segment-reads-back : Below 32 xs → (ts : List ℤ) (out : List ℕ)
      → let ends = ends_in model s.min_value s.max_value (take s.values_length (values_after model first last b xs values_out residuals_out)) in
      let bytes = take s.residuals_length (residuals_after model first last b xs values_out residuals_out) in
      verdict (grid_causes model ts ends bytes (length out)) ≡ answered tt
      → (grid_answer model ts ends bytes (length out) ≡ answered tt)
      × (grid_memory model ts ends bytes out ≡ model_values model (take (length ts - length xs) ts) parameters ++ kept_of b (On (last_of model first last)) xs ++ drop (length ts) out)
  a-written-segment-reads-back small ts out free =
      reading.a-segment-reads-back b model ts (plain_bits first) (last_of model first last) xs
      (take s.residuals_length (residuals_after model first last b xs values_out residuals_out)) out
      (subst (HoldsResiduals b (last_of model first last) xs) (sym residuals-stored) stored-residuals) small small-last
      (ends_in model s.min_value s.max_value (take s.values_length (values_after model first last b xs values_out residuals_out)))
      (ap (ends_in model s.min_value s.max_value) values-stored ∙ parameters-read-back) free

  -- and each of these residuals passes the within test against its input
  pub residuals-kept-within : Below 32 xs → (ts : List ℤ) (out : List ℕ)
      → let ends = ends_in model s.min_value s.max_value (take s.values_length (values_after model first last b xs values_out residuals_out)) in
      let bytes = take s.residuals_length (residuals_after model first last b xs values_out residuals_out) in
      verdict (grid_causes model ts ends bytes (length out)) ≡ answered tt
      → KeptWithin b xs (take (length xs) (drop (length ts - length xs) (grid_memory model ts ends bytes out)))
  residuals-kept-within small ts out free =
      let ms : List ℕ = model_values model (take (length ts - length xs) ts) parameters in
      let vs : List ℕ = kept_of b (On (last_of model first last)) xs in
      let all : KeptWithin b xs vs = all_pass b (not-false _ told.0.0) _ _ _ xs in
      let many : length ms ≡ length ts - length xs = length-model model (take (length ts - length xs) ts) parameters ∙ length-take-le (length ts - length xs) ts (omega arith) in
      subst (KeptWithin b xs)
      (sym (ap (λ (z : List ℕ). take (length xs) (drop (length ts - length xs) z)) ((a-written-segment-reads-back small ts out free).1 ∙ append_assoc ms vs (drop (length ts) out))
      ∙ ap (take (length xs)) (drop_at ms (vs ++ drop (length ts) out) (length ts - length xs) many)
      ∙ take_at vs (drop (length ts) out) (length xs) all.as_many))
      all
