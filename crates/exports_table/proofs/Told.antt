-- No refusal of these calls has the number 0, so a fault of number 0 tells that the call behind accepted. And what a reading tells of its stream. Assumes nothing.
use mathlib.Core.Path.{◌≡◌, refl, subst}
use mathlib.Core.Bool.{Bool, true, false}
use mathlib.Core.List.{List}
use mathlib.Core.Option.{Option, none, some}
use Prim.Native.Nat.{ℕ}
use native.Mathlib.Omega.{arith}
use lib.Dec.{eqb}
use lib.ListN.{length}
use Rattle.models.specs.Answers.{Said, Done, answered, refused, SaidOn, answered_on, refusing, stateless}
use Rattle.models.specs.declared.Fault.{Fault}
use Rattle.models.proofs.Judged.{not-refused, same-fault}
use Rattle.models.proofs.Tests.{by-test}
use Rattle.stream.specs.Format.{Stream, State}
use Rattle.stream.specs.Read.{StreamRefusal, Reading, done, stopped, leftover, ended_by, ended, read_n, read_all}
use Rattle.stream.specs.Calls.{lent_bytes, fault_at, values_read}
use Rattle.places.specs.Table.{Entry, entries_for, entries_in, same_entries, matched, no_match, check_table}
use Rattle.places.specs.Calls.{Beside, table_in, check_causes}
use Rattle.stream.proofs.Reopen.{ended-inv}
use Rattle.places.proofs.Any.{ReadsIn, reads_in}
use Rattle.macaque_v.specs.State.{stream_in, is_first, opened}
use Rattle.macaque_v.specs.declared.MacaqueV.{MacaqueV}
use Rattle.macaque_v.specs.declared.Opening.{Opening}
use Rattle.bits.specs.Bits.{bits_of}
use Rattle.place_table.specs.Calls.{table_write_causes, table_write_answer, check_answer}
use Rattle.exports.specs.Face.{plain_fault}
use Rattle.exports.proofs.Numbers.{judged-so}

-- ---- writing

abbrev Written : SaidOn MacaqueV (Beside MacaqueV) → Type 0
Written q = (plain_fault (stateless q)).number ≡ 0 → (r : Beside MacaqueV) × (q ≡ answered_on r)

pub a-write-told : (m : MacaqueV) (xs buf words : List ℕ) (entries : ℕ) → Written (table_write_answer m xs buf words entries)
unfolding table_write_answer
a-write-told m xs buf words entries =
    judged-so Written (refusing m) (λ n pos z. absurd (omega (arith, pos, z))) (table_write_causes m xs (lent_bytes (length buf)) (length words) entries)
    (omega arith, (omega arith, (omega arith, (omega arith, (omega arith, (omega arith, tt)))))) _ (λ z. (_, refl))

-- ---- the check

abbrev Checked : Said Done → Type 0
Checked q = (plain_fault q).number ≡ 0 → q ≡ answered tt

no-match-told : Checked no_match
no-match-told z = absurd (omega (arith, z))

by_end : {A : Type 0} (same : Bool) (vs : List ℕ) (t : State A) (rest : List Bool) (p : Option ℕ) → Checked (matched same (ended_by vs t rest p))
by_end true vs t rest none z = refl
by_end false vs t rest none z = no-match-told z
by_end same vs t rest (some p) z = absurd (omega (arith, z))

by-reading : {A : Type 0} (same : Bool) (m n : ℕ) (q : Reading A) → ReadsIn m n q → Checked (matched same (ended q))
unfolding ended
by-reading same m n (done vs t r) h z = by_end same vs t r (leftover t.place r) z
by-reading same m n (stopped f) h z = absurd (omega (arith, z, h.low))

by-table : {A : Type 0} (S : Stream A) (n : ℕ) (s : State A) (bs : List Bool) (table : List Entry) → Checked (check_table S n s bs table)
unfolding check_table
by-table S n s bs table =
    by-test Checked (eqb (length table) (entries_for n)) (matched (same_entries table (entries_in S n s bs)) (read_all S n s bs)) no_match
    (λ e. by-reading (same_entries table (entries_in S n s bs)) s.count n (read_n S n s bs) (reads_in S n s bs)) (λ e. no-match-told)

pub a-check-told : (bytes : List ℕ) (count : ℕ) (o : Opening) (words : List ℕ) (entries : ℕ) → Checked (check_answer bytes count o words entries)
unfolding check_answer
a-check-told bytes count o words entries =
    judged-so Checked refused (λ n pos z. absurd (omega (arith, pos, z))) (check_causes count (length words) entries) (omega arith, (omega arith, (omega arith, tt))) _
    (by-table (stream_in (is_first o)) count (opened o) (bits_of bytes) (table_in words entries))

-- ---- a stream that is read has as many values as it was read for
pub as-many-values : {A : Type 0} (S : Stream A) (n : ℕ) (s : State A) (bs : List Bool) (vs : List ℕ) (t : State A) (r : List Bool) → read_all S n s bs ≡ done vs t r → length vs ≡ n
as-many-values S n s bs vs t r h = subst (ReadsIn s.count n) (ended-inv (read_n S n s bs) vs t r h) (reads_in S n s bs)

-- and one that is refused says where
pub read-refused : {A : Type 0} (q : Reading A) (f : Fault) → values_read q ≡ refused f → (g : StreamRefusal) × (q ≡ stopped g) × (fault_at g ≡ f)
read-refused (done vs t r) f h = absurd (not-refused h)
read-refused (stopped g) f h = (g, refl, same-fault h)
