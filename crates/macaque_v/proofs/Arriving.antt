-- What going through a stream found, as a writer that is opened there; and how it finds the values that arrived whole. Assumes nothing.
use mathlib.Core.Path.{◌≡◌, sym, ap, ◌∙◌}
use mathlib.Core.Bool.{Bool}
use mathlib.Core.List.{List}
use Prim.Native.Nat.{ℕ, ◌+◌, ◌≤◌, ◌<◌}
use native.Mathlib.Omega.{arith}
use Rattle.std.specs.Prelude.{Result, Ok, Err}
use lib.ListN.{length, take}
use lib.Seq.{length-take-le}
use Rattle.bits.specs.Bits.{bits_of}
use Rattle.models.specs.Answers.{refused}
use Rattle.models.specs.Refusals.{fault_of}
use Rattle.models.specs.declared.ErrorBound.{ErrorBound}
use Rattle.models.specs.declared.Fault.{Fault}
use Rattle.models.specs.declared.Refusal.{Refusal}
use Rattle.stream.specs.Read.{read_n, Reopened, reopened, state_read, buffer_after}
use Rattle.stream.proofs.Rescue.{whole-full, told_below, whole-damaged, whole_before, never-refused-before}
use Rattle.macaque_v.specs.State.{Known, stream_in, is_first, opened}
use Rattle.macaque_v.specs.Read.{start_of}
use Rattle.macaque_v.specs.Inner.ReadRun.{read_from, StopsBy, known_in, Walked, WalkSays}
use Rattle.macaque_v.specs.Inner.Read.{rescuing, resumed, state_with, Unopened, OpensAs, EndsIn, opened_behind, cut_behind}
use Rattle.macaque_v.specs.declared.Opening.{Opening}
use Rattle.macaque_v.specs.declared.read_run.Cursor.{Cursor}
use Rattle.macaque_v.specs.declared.read_run.Aim.TheVariants as OfAim
use Rattle.macaque_v.specs.declared.read_run.Tally.{Tally}
use Rattle.macaque_v.proofs.ReadingAll.{read_known, stops-known}

-- ---- a writer that is opened behind what was found

pub opened-as : (b : ErrorBound) (first : Bool) (q : Reopened Known) (bytes buf : List ℕ) (w : Result (Cursor × Tally) Refusal) → OpensAs q bytes w
    → (opened_behind b first w ≡ resumed b first q) × (cut_behind w buf ≡ buffer_after q buf)
opened-as b first q bytes buf (Ok (at, t)) h = (sym (ap (resumed b first) h.0), sym (ap (λ (z : Reopened Known). buffer_after z buf) h.0))
opened-as b first q bytes buf (Err r) u =
    (sym (ap (resumed b first) u.opens ∙ ap refused u.numbered), sym (ap (λ (z : Reopened Known). buffer_after z buf) u.opens))

pub ends-in : (q : Reopened Known) (buf : List ℕ) (used : ℕ) (w : Result (Cursor × Tally) Refusal) → used ≤ length buf → OpensAs q (take used buf) w → EndsIn buf w
ends-in q buf used (Ok (at, t)) fits h = omega (arith, h.1, length-take-le used buf fits)
ends-in q buf used (Err r) fits h = tt

-- ---- the values that arrived whole

module _ (bytes : List ℕ) (o : Opening) (limit : ℕ) where
  -- as many as the limit
  pub all-arrived : {to : Cursor} {t : Tally} → Walked (is_first o) bytes (start_of o) limit OfAim.All to t → OpensAs (rescuing bytes limit o) bytes (Ok (to, t))
  all-arrived {to} {t} W = (
    ap state_read (whole-full (stream_in (is_first o)) limit (opened o) (bits_of bytes) W.values _ _ (read_known bytes o W.reads))
        ∙ ap (λ (z : Tally). reopened (state_with to (known_in z))) (sym W.tally),
    W.reads.readable.within,
  )

  -- fewer: the refusal says why
  module _ (r : Refusal) (s : StopsBy (read_from (is_first o) bytes (start_of o) limit) r) where
    known : StopsBy (read_n (stream_in (is_first o)) limit (opened o) (bits_of bytes)) r
    known = stops-known bytes o limit s

    before : (k : ℕ) → k ≡ (fault_of r).value → 0 + k ≡ known.fault.value
    before k e = let is : known.fault.value ≡ (fault_of r).value = ap (λ (f : Fault). f.value) known.numbered in omega arith

    -- it names a value below the limit
    pub few-there : (fault_of r).value < limit
    few-there =
        let is : known.fault.value ≡ (fault_of r).value = ap (λ (f : Fault). f.value) known.numbered in
        omega (arith, told_below (stream_in (is_first o)) limit (opened o) (bits_of bytes) known.fault known.stops)

    -- damage
    pub damage-there : ¬ ((fault_of r).number ≡ 5) → Unopened (rescuing bytes limit o) r
    damage-there other =
        record {
          fault = known.fault;
          opens =
              ap state_read (whole-damaged (stream_in (is_first o)) limit (opened o) (bits_of bytes) known.fault known.stops
              (λ h. other (sym (ap (λ (f : Fault). f.number) known.numbered) ∙ h)));
          numbered = known.numbered;
        }

    -- a cut: and so many values stand before it
    pub cut-there : (fault_of r).number ≡ 5 → (k : ℕ) → k ≡ (fault_of r).value → (w : Result (Cursor × Tally) Refusal) → WalkSays (is_first o) bytes (start_of o) k OfAim.All w
        → OpensAs (rescuing bytes limit o) bytes w
    cut-there five k e (Ok (to, t)) W = (
      ap state_read (whole_before (stream_in (is_first o)) limit (opened o) (bits_of bytes) known.fault known.stops k (before k e) (ap (λ (f : Fault). f.number) known.numbered ∙ five)
          W.values _ _ (read_known bytes o W.reads))
          ∙ ap (λ (z : Tally). reopened (state_with to (known_in z))) (sym W.tally),
      W.reads.readable.within,
    )
    cut-there five k e (Err q) Q =
        let other = stops-known bytes o k Q in
        absurd (never-refused-before (stream_in (is_first o)) limit (opened o) (bits_of bytes) known.fault known.stops k (before k e) other.fault other.stops)
