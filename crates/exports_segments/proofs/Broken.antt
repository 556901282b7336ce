-- What refuses a segment's residual stream comes back through the C face as it was said: number, value and place, both counted in that stream. And the
-- output is as it was. Assumes nothing.
use mathlib.Core.Path.{◌≡◌, ap}
use mathlib.Core.Bool.{Bool}
use mathlib.Core.List.{List}
use Prim.Native.Nat.{ℕ, ◌≤◌}
use lib.IntN.{ℤ}
use lib.ListN.{length}
use Rattle.models.specs.Answers.{answered, refused, verdict}
use Rattle.models.specs.declared.Fault.{Fault}
use Rattle.macaque_v.specs.Read.{values_in}
use Rattle.macaque_v.specs.declared.Opening.TheVariants.{On}
use Rattle.segment_grid.specs.Segment.{count_in, stream_bytes, ends_in, given}
use Rattle.segment_grid.specs.Calls.{grid_causes, sum_causes}
use Rattle.segment_grid.proofs.Promises as call
use Rattle.exports.specs.Face.{plain_fault, one_word}
use Rattle.exports.proofs.Rows.{refused-with-room}
use Rattle.exports_segments.specs.Calls.{grid_fault, grid_out, sum_fault, sum_out}

module _ (model : ℕ) (ts : List ℤ) (min max : ℕ) (values residuals out : List ℕ) (f : Fault)
    (e : values_in (stream_bytes residuals) (count_in residuals) (On (given (ends_in model min max values)).1) ≡ refused f) where
  pub grid-says-where : verdict (grid_causes model ts (ends_in model min max values) residuals (length out)) ≡ answered tt
      → (grid_fault model ts min max values residuals out ≡ f) × (grid_out model ts min max values residuals out ≡ out)
  unfolding grid_fault grid_out
  grid-says-where free =
      let g = call.grid-says-where model ts (ends_in model min max values) residuals out f free e in
      (ap plain_fault g.0, g.1)

  -- in either form, where the output has one place
  pub sum-says-where : (way : Bool) → verdict (sum_causes model ts (ends_in model min max values) residuals) ≡ answered tt → 1 ≤ length out
      → (sum_fault way model ts min max values residuals out ≡ f) × (sum_out way model ts min max values residuals out ≡ out)
  unfolding sum_fault sum_out
  sum-says-where way free room = refused-with-room one_word 1 out _ f (call.sum-says-where model ts (ends_in model min max values) residuals free way f e) room
