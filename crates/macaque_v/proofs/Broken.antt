-- Every call that reads a stream passes on what refuses it: the number, the value and the place that reading a count of it answers; and a refused call
-- leaves what it was lent. Assumes nothing.
use mathlib.Core.Path.{◌≡◌, refl, sym, ap, ◌∙◌}
use mathlib.Core.List.{List}
use Prim.Native.Nat.{ℕ, ◌≤◌}
use borrow.Author.Tests.{le-ltb}
use lib.ListN.{length, take}
use Rattle.models.specs.Answers.{refused, keeping, judge, NoneHolds}
use Rattle.models.specs.Limits.{most_values}
use Rattle.models.specs.declared.ErrorBound.{ErrorBound}
use Rattle.models.specs.declared.Fault.{Fault}
use Rattle.models.proofs.Judged.{accepted, not-answered}
use Rattle.stream.specs.Read.{Reading, done, stopped, read_n, read_all, state_read, checked, Reopened, reopen, buffer_after}
use Rattle.stream.specs.Calls.{Coder, resumed}
use Rattle.bits.specs.Bits.{bits_of}
use Rattle.macaque_v.specs.State.{stream_in, is_first, opened}
use Rattle.macaque_v.specs.Write.{coder_of}
use Rattle.macaque_v.specs.Read.{values_read, values_in, drawn, drawn_in, grid_answer, grid_memory, summed, sum_answer, reopen_causes, reopen_answer, reopen_memory}
use Rattle.macaque_v.specs.declared.Opening.{Opening}

-- "The whole stream is checked first": one that is refused is not reopened, and its buffer stays
unopened-by : {A W : Type 0} (C : Coder A W) (q : Reading A) (r : Reopened A) (f : Fault) (buf : List ℕ) → values_read q ≡ refused f
    → (resumed C (checked q r) ≡ refused f) × (buffer_after (checked q r) buf ≡ buf)
unopened-by C (done vs t rest) r f buf e = absurd (not-answered (sym e))
unopened-by C (stopped s) r f buf e = (cc, refl)

module _ (n : ℕ) (o : Opening) (f : Fault) where
  module _ (bytes : List ℕ) (few : n ≤ most_values) (e : values_in bytes n o ≡ refused f) where
    pub grid-says-where : (out : List ℕ) → n ≤ length out → (grid_answer bytes n o (length out) ≡ refused f) × (grid_memory bytes n o out ≡ out)
    unfolding grid_answer grid_memory judge
    grid-says-where out room = rw (le-ltb most_values n few, le-ltb (length out) n room) (ap drawn e, ap (drawn_in out) e)

    pub sum-says-where : sum_answer bytes n o ≡ refused f
    unfolding sum_answer judge
    sum-says-where = rw (le-ltb most_values n few) (ap (summed (is_first o)) e)

  -- reopening at any k, where the bytes in use are refused and no cause of its own holds
  pub reopening-says-where : (b : ErrorBound) (buf : List ℕ) (used k : ℕ) → NoneHolds (reopen_causes b (length buf) used n k) → values_in (take used buf) n o ≡ refused f
      → (reopen_answer buf used n k o b ≡ refused f) × (reopen_memory buf used n k o b ≡ buf)
  unfolding reopen_answer reopen_memory reopen
  reopening-says-where b buf used k free e =
      let causes = reopen_causes b (length buf) used n k in
      let u = unopened-by (coder_of b (is_first o)) (read_all (stream_in (is_first o)) n (opened o) (bits_of (take used buf))) (state_read (read_n (stream_in (is_first o)) k (opened o) (bits_of (take used buf)))) f buf e in
      (sym (accepted refused _ causes free) ∙ u.0, sym (accepted (keeping buf) _ causes free) ∙ u.1)
