-- The residuals' stream, made aside from a fresh writer in 1,403 bytes: 255 values have room there, whatever they are, so the write is accepted, and what it
-- leaves is what a segment stores. Assumes nothing.
use mathlib.Core.Path.{◌≡◌, sym, ap, ap₂, ◌∙◌}
use mathlib.Core.Bool.{true, false}
use mathlib.Core.List.{List}
use Prim.Native.Nat.{ℕ, ◌*◌, ◌^◌, ◌≤◌, ◌<◌}
use native.Mathlib.Nat.{zero-add}
use native.Mathlib.Omega.{arith}
use borrow.Author.Tests.{not-false}
use lib.ListN.{length, take}
use Rattle.bits.specs.Bits.{whole_bytes}
use Rattle.bits.proofs.InBytes.{length-laid_in}
use Rattle.models.specs.Answers.{answered, answered_on, NoneHolds}
use Rattle.models.specs.Bound.{bound_allowed}
use Rattle.models.specs.declared.ErrorBound.{ErrorBound}
use Rattle.models.proofs.Judged.{told, same-answer-on}
use Rattle.stream.specs.Write.{kept}
use Rattle.stream.proofs.Calls.{wrote_on}
use Rattle.stream.proofs.Writing.{count-after, length-kept}
use Rattle.coding.specs.Keep.{keep_rule}
use Rattle.macaque_v.specs.State.{stream_in, state_of, writer_of, opened}
use Rattle.models.specs.Causes.{bound_causes}
use Rattle.macaque_v.specs.Write.{coder_by}
use Rattle.macaque_v.specs.Inner.Write.{written_by}
use Rattle.macaque_v.specs.Calls.{new_answer, write_answer, write_memory}
use Rattle.macaque_v.specs.declared.MacaqueV.{MacaqueV}
use Rattle.macaque_v.specs.declared.Opening.TheVariants.{On}
use Rattle.macaque_v.proofs.Promises.{a-fresh-writer, a-write-goes-on}
use Rattle.macaque_v.proofs.Room.{a-write-has-room}
use Rattle.macaque_v.proofs.Accepting.{coder-good}
use Rattle.macaque_v.proofs.Writing.{written-place}
use Rattle.segments.specs.Segment.{most_residuals, last_of, residuals_on, counted_bytes, residual_bytes}
use Rattle.segments.specs.Calls.{stored, stored_of}
use Rattle.segments.specs.Inner.Aside.{stored_by}

-- what the answer to a fresh writer tells of its bound
module _ (b : ErrorBound) (last : ℕ) where
  new_told : (m : MacaqueV) → new_answer b (On last) ≡ answered m → NoneHolds (bound_causes b) × (m ≡ writer_of b false (opened (On last)))
  unfolding new_answer
  new_told m h = told (bound_causes b) (writer_of b false (opened (On last))) m (sym h)

  pub opened-allowed : (m : MacaqueV) → new_answer b (On last) ≡ answered m → bound_allowed b ≡ true
  opened-allowed m h = not-false (bound_allowed b) (new_told m h).0.0

-- an accepted write leaves a buffer as long as it was
length-written : (m : MacaqueV) (xs buf : List ℕ) (n : MacaqueV) → write_answer m xs buf ≡ answered_on n → length (write_memory m xs buf) ≡ length buf
unfolding write_answer write_memory
length-written m xs buf n h =
    let w = wrote_on (coder_by m) (coder-good m.error_bound m.with_first) (state_of m) xs buf n h in
    ap length w.2 ∙ length-laid_in buf m.place (written_by m xs) (omega (arith, written-place m xs, w.1))

module _ (b : ErrorBound) (last : ℕ) (small : last < 2 ^ 32) (xs : List ℕ) (few : length xs ≤ most_residuals) where
  residuals-count : (residuals_on b last xs).count ≡ length xs
  residuals-count =
      let vs : List ℕ = kept (keep_rule b) (stream_in false) (opened (On last)) xs in
      count-after (stream_in false) (opened (On last)) vs ∙ zero-add (length vs) ∙ length-kept (stream_in false) (keep_rule b) (opened (On last)) xs

  module _ (m : MacaqueV) (opens : new_answer b (On last) ≡ answered m) (buf : List ℕ) (room : 1403 ≤ length buf) where
    pub written-aside : write_answer m xs buf ≡ answered_on (writer_of b false (residuals_on b last xs))
    written-aside =
        a-write-has-room (a-fresh-writer b (On last) buf m opens) small (opened-allowed b last m opens) (λ i. omega arith) most_residuals (omega arith) room xs (omega (arith, few))

    module _ (n : MacaqueV) (h : write_answer m xs buf ≡ answered_on n) where
      same_writer : n ≡ writer_of b false (residuals_on b last xs)
      same_writer = same-answer-on (sym h ∙ written-aside)

      pub aside-count : n.length ≡ length xs
      aside-count = ap (λ (w : MacaqueV). w.length) same_writer ∙ residuals-count

      pub aside-long : length (write_memory m xs buf) ≡ length buf
      aside-long = length-written m xs buf n h

      pub aside-place : n.place ≤ 8 * length (write_memory m xs buf)
      unfolding write_answer
      aside-place =
          let w = wrote_on (coder_by m) (coder-good m.error_bound m.with_first) (state_of m) xs buf n h in
          omega (arith, ap (λ (v : MacaqueV). v.place) w.0, w.1, length-written m xs buf n h)

      aside-bytes : counted_bytes (take (whole_bytes n.place) (write_memory m xs buf)) n.length ≡ residual_bytes b last xs
      aside-bytes =
          let M = a-write-goes-on (a-fresh-writer b (On last) buf m opens) xs n h in
          ap₂ counted_bytes M.bytes aside-count

      pub aside-stored : (model first given : ℕ) → last ≡ last_of model first given
          → stored_by model first given n (write_memory m xs buf) ≡ stored_of model first given b xs
      unfolding stored_by stored_of
      aside-stored model first given e =
          ap₂ (stored model first given) (ap state_of same_writer) aside-bytes
          ∙ ap (λ (l : ℕ). stored model first given (residuals_on b l xs) (residual_bytes b l xs)) e
