-- The running sum (document 02, W4) where a place table stands beside the stream: the same promises as of the plain calls. Assumes nothing.
use mathlib.Core.Path.{◌≡◌, refl, sym, ap, ap₂, ◌∙◌, subst}
use mathlib.Core.Bool.{Bool, true, false, not, ◌||◌}
use mathlib.Core.List.{List, [], ◌∷◌, ◌++◌}
use Prim.Native.Nat.{ℕ, ◌+◌, ◌*◌, ◌^◌, ◌<◌}
use lib.Dec.{leb, ltb}
use lib.ListN.{length}
use lib.Ieee.{Float}
use Rattle.bits.specs.Bits.{Below, laid_in}
use Rattle.models.specs.Answers.{answered, answered_on, Cause, ◌when◌, judge, judged_on, judged_memory}
use Rattle.models.specs.declared.ErrorBound.{ErrorBound}
use Rattle.stream.specs.Format.{Stream, State}
use Rattle.stream.specs.Write.{next}
use Rattle.stream.specs.Calls as stream
use Rattle.stream.specs.Calls.{lent_bytes}
use Rattle.places.specs.Table.{Entry, noted, entries, entries_for}
use Rattle.places.specs.Calls.{Beside, entries_lent, table_causes, laid_entries}
use Rattle.macaque_v.specs.State.{Known, ends_in, state_of, opening_value}
use Rattle.macaque_v.specs.Write.{stream_by, coder_by, writer_at, wrote_by}
use Rattle.macaque_v.specs.Sums.{OfItsBytes, SumsAsTheCall, with_sum, carried}
use Rattle.macaque_v.specs.declared.MacaqueV.{MacaqueV}
use Rattle.macaque_v.specs.declared.Opening.{Opening}
use Rattle.macaque_v.proofs.Sums as plain
use Rattle.macaque_v.proofs.Sums.{knowing, wrote-with-sum, written-with-sum}
use Rattle.place_table.specs.Calls.{table_write_causes, table_write_answer, table_write_memory, table_write_table, table_reopen_answer, table_reopen_memory}
use Rattle.place_table.specs.Sums.{with_sums_beside, CarriesTheSumBeside}
use Rattle.place_table.proofs.Promises.{a-write-with-a-table-is-the-plain-one, reopening-with-a-table-is-the-plain-one}

-- "Each reopening .. keeps it equal to what the sum call would answer on the used bytes"; and the writer is one of its bytes
pub a-reopened-sum : (b : ErrorBound) (o : Opening) → opening_value o < 2 ^ 32 → (buf : List ℕ) (used n k words in_use : ℕ) (r : Beside MacaqueV)
    → table_reopen_answer buf used n k o b words in_use ≡ answered r
    → OfItsBytes o (table_reopen_memory buf used n k o b words in_use) r.writer × SumsAsTheCall o (table_reopen_memory buf used n k o b words in_use) r.writer
a-reopened-sum b o hl buf used n k words in_use r h =
    let w = reopening-with-a-table-is-the-plain-one b o buf used n k words in_use hl r h in
    subst (λ (z : List ℕ). OfItsBytes o z r.writer × SumsAsTheCall o z r.writer) (sym w.bytes)
    ((plain.a-reopened-writer-is-of-its-bytes b o hl buf used n k r.writer w.plain).own, plain.a-reopened-sum b o hl buf used n k r.writer w.plain)

-- "each write on a state whose last value, window, place, length and sum are those of its bytes" does; and the writer stays one of its bytes
pub a-sum-goes-on : {o : Opening} {buf : List ℕ} {m : MacaqueV} → OfItsBytes o buf m → opening_value o < 2 ^ 32 → Below 8 buf → (ys : List ℕ) → Below 32 ys → (words : List ℕ) (in_use : ℕ)
    (r : Beside MacaqueV) → table_write_answer m ys buf words in_use ≡ answered_on r
    → OfItsBytes o (table_write_memory m ys buf words in_use) r.writer × SumsAsTheCall o (table_write_memory m ys buf words in_use) r.writer
a-sum-goes-on {o} {buf} {m} I hl small ys by words in_use r h =
    let w = a-write-with-a-table-is-the-plain-one m ys buf words in_use r h in
    subst (λ (z : List ℕ). OfItsBytes o z r.writer × SumsAsTheCall o z r.writer) (sym w.bytes)
    ((plain.a-write-stays-of-its-bytes I hl small ys by r.writer w.plain).0, plain.a-sum-goes-on I hl small ys by r.writer w.plain)

-- ---- "a wrong sum passed in is not refused; it is carried on by the same additions"

entries-knowing : {A : Type 0} (S : Stream A) (a : A) (s : State A) (vs : List ℕ) → entries S (knowing S a s) vs ≡ entries S s vs
unfolding entries
entries-knowing S a s [] = refl
entries-knowing S a s (v ∷ vs) = ap (λ (es : List Entry). noted S s ++ es) (entries-knowing S (next S (knowing S a s) v).seen (next S s v) vs)

judged-sums : (s t : Float) (m : MacaqueV) (r : Beside MacaqueV) (causes : List Cause)
    → judged_on (with_sum s m) causes (record { writer = with_sum t r.writer; entries = r.entries }) ≡ with_sums_beside s t (judged_on m causes r)
unfolding judge
judged-sums s t m r [] = refl
judged-sums s t m r (k when true ∷ causes) = refl
judged-sums s t m r (k when false ∷ causes) = judged-sums s t m r causes

module _ (m : MacaqueV) (s : Float) (xs buf words : List ℕ) (in_use : ℕ) where
  abbrev causes_to : ℕ → List Cause
  causes_to p =
      stream.start_causes (coder_by m) (state_of m) (length xs) (lent_bytes (length buf))
      ++ (table_causes (length words) in_use m.length
      ++ (4 when (ltb (entries_lent (length words)) (entries_for (m.length + length xs)) || not (leb p (8 * lent_bytes (length buf)))) ∷ []))

  abbrev causes : List Cause
  causes = table_write_causes m xs (lent_bytes (length buf)) (length words) in_use

  same-causes : table_write_causes (with_sum s m) xs (lent_bytes (length buf)) (length words) in_use ≡ causes
  same-causes = ap (λ (t : State Known). causes_to t.place) (wrote-with-sum m s xs)

  pub the-sum-is-carried : CarriesTheSumBeside m s xs buf words in_use
  unfolding table_write_answer table_write_memory table_write_table
  the-sum-is-carried =
      record {
        answer =
            ap₂ (λ (cs : List Cause) (t : State Known). judged_on (with_sum s m) cs (record { writer = writer_at m t; entries = entries_for (m.length + length xs) })) same-causes (wrote-with-sum m s xs)
            ∙ judged-sums s (carried m s xs) m (record { writer = writer_at m (wrote_by m xs); entries = entries_for (m.length + length xs) }) causes;
        memory = ap₂ (λ (cs : List Cause) (bits : List Bool). judged_memory buf cs (laid_in buf m.place bits)) same-causes (written-with-sum m s xs);
        table = ap₂ (λ (cs : List Cause) (es : List Entry). judged_memory words cs (laid_entries words in_use es)) same-causes (entries-knowing (stream_by m) (ends_in (state_of m), s) (state_of m) _);
      }
