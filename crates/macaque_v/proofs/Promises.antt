-- The promises of the calls, in bytes: start reading here. `new_answer`, `write_answer`, `write_memory`, .. are what the contracts of the calls say
-- that they answer and leave in lent memory. Each is a promise of the theory's calls (proofs/Calls of `stream`), in MacaqueV's words. Assumes nothing.
use mathlib.Core.Path.{◌≡◌, refl, sym, ap, ◌∙◌, subst}
use mathlib.Core.Bool.{true, false}
use mathlib.Core.List.{List, [], ◌∷◌, ◌++◌, foldl}
use mathlib.Core.Logic.{◌⊎◌}
use Prim.Native.Nat.{ℕ, suc, ◌+◌, ◌-◌, ◌*◌, ◌^◌, ◌≤◌, ◌<◌}
use native.Mathlib.Omega.{arith}
use lib.ListN.{length, take, drop}
use Rattle.bits.specs.Bits.{Below, bits_of, whole_bytes}
use Rattle.models.specs.Answers.{answered, refused, answered_on, verdict, fault_in}
use Rattle.models.specs.Limits.{most_values}
use Rattle.models.specs.Bound.{bound_allowed}
use Rattle.models.specs.declared.ErrorBound.{ErrorBound}
use Rattle.models.specs.declared.ErrorBound.TheVariants.{Lossless}
use Rattle.models.specs.declared.Fault.{Fault}
use Rattle.stream.specs.Format.{gather_from, fresh}
use Rattle.stream.specs.Write.{stream_of}
use Rattle.stream.specs.Rescue.{rescue}
use Rattle.stream.specs.Rescued.{MeetsDamage}
use Rattle.stream.proofs.Calls as calls
use Rattle.stream.proofs.RescueCalls as rescuing
use Rattle.stream.proofs.RescuePadding as padding
use Rattle.stream.proofs.Gathered.{both-gather}
use Rattle.stream.proofs.Promises.{gathers-over-the-kept-values, gathers-each-value-once}
use Rattle.stream.proofs.Writing.{kept-lossless}
use Rattle.coding.specs.Keep.{keep_rule}
use Rattle.macaque_v.specs.State.{min_max_with, gather_min_max, gather_sum, gather_known, Known, ends_in, sum_in, mode_of, stream_in, state_of, writer_of, is_first, opening_value, opened}
use Rattle.macaque_v.specs.Write.{coder_of, coder_by}
use Rattle.macaque_v.specs.Calls.{new_answer, write_answer, write_memory}
use Rattle.macaque_v.specs.Read.{values_in, grid_answer, grid_memory, reopen_answer, reopen_memory, rescue_causes, rescue_answer, rescue_memory}
use Rattle.macaque_v.specs.Made.{state_over, kept_of, Made, ResumesAsOne, Resumes}
use Rattle.macaque_v.specs.Rescued.{writer_behind, Saves, ReopensWhole, Rescues}
use Rattle.macaque_v.specs.declared.MacaqueV.{MacaqueV}
use Rattle.macaque_v.specs.declared.Opening.{Opening}
use Rattle.macaque_v.specs.declared.Opening.TheVariants.{On}
use Rattle.macaque_v.proofs.Accepting.{coder-good, no-bound-refuses, in-theory, by-theory}

-- ---- the bytes in use and the writer are told by the bound, the opening and the inputs

pub made-once : {b : ErrorBound} {o : Opening} {xs buf other : List ℕ} {m n : MacaqueV} → Made b o xs buf m → Made b o xs other n
    → (m ≡ n) × (take (whole_bytes m.place) buf ≡ take (whole_bytes n.place) other)
made-once M N = (M.writer ∙ sym N.writer, M.bytes ∙ sym N.bytes)

-- a fresh writer has written nothing, whatever the buffer holds
pub a-fresh-writer : (b : ErrorBound) (o : Opening) (buf : List ℕ) (m : MacaqueV) → new_answer b o ≡ answered m → Made b o [] buf m
unfolding new_answer
a-fresh-writer b o buf m h = by-theory b o (calls.a-fresh-writer (coder_of b (is_first o)) (coder-good b (is_first o)) (opening_value o) buf m h)

-- ---- demand 3, writing

module _ {b : ErrorBound} {o : Opening} {xs buf : List ℕ} {m : MacaqueV} (M : Made b o xs buf m) where
  -- an accepted write goes on as one fresh run, for any list, the empty one too
  pub a-write-goes-on : (ys : List ℕ) (n : MacaqueV) → write_answer m ys buf ≡ answered_on n → Made b o (xs ++ ys) (write_memory m ys buf) n
  unfolding write_answer write_memory
  a-write-goes-on ys =
      subst (λ (w : MacaqueV). (n : MacaqueV) → write_answer w ys buf ≡ answered_on n → Made b o (xs ++ ys) (write_memory w ys buf) n) (sym M.writer)
      (λ n h. by-theory b o (calls.a-write-goes-on (coder_of b (is_first o)) (coder-good b (is_first o)) (opening_value o) (in-theory M) ys n h))

  -- and it is accepted, wherever room and count limit allow
  pub a-write-is-accepted : Below 32 xs → opening_value o < 2 ^ 32 → bound_allowed b ≡ true → (ys : List ℕ) → length xs + length ys ≤ most_values
      → (state_over b o (xs ++ ys)).place ≤ 8 * length buf
      → write_answer m ys buf ≡ answered_on (writer_of b (is_first o) (state_over b o (xs ++ ys)))
  unfolding write_answer
  a-write-is-accepted bx hl ok ys most room =
      ap (λ (w : MacaqueV). write_answer w ys buf) M.writer
      ∙ calls.a-write-is-accepted (coder_of b (is_first o)) (coder-good b (is_first o)) (opening_value o) (in-theory M) bx hl (no-bound-refuses b ok) ys most room

  -- ---- demand 3, resuming: reopened at any k from 0 to n, the writer is in the state that it had after its first k inputs, and the cut bytes are
  -- those of one fresh run over these
  pub reopening-goes-back : Below 32 xs → opening_value o < 2 ^ 32 → bound_allowed b ≡ true → length xs ≤ most_values → (k : ℕ) → k ≤ length xs
      → (reopen_answer buf (whole_bytes m.place) (length xs) k o b ≡ answered (writer_of b (is_first o) (state_over b o (take k xs))))
      × Made b o (take k xs) (reopen_memory buf (whole_bytes m.place) (length xs) k o b) (writer_of b (is_first o) (state_over b o (take k xs)))
  unfolding reopen_answer reopen_memory
  reopening-goes-back bx hl ok most k le =
      let r = calls.reopening-goes-back (coder_of b (is_first o)) (coder-good b (is_first o)) (opening_value o) (in-theory M) bx hl (no-bound-refuses b ok) most k le in
      (r.0, by-theory b o r.1)

  -- as one theorem: reopened at any k, any further list that room and count limit allow is accepted, and leaves the bytes and the writer of one fresh
  -- run over the first k inputs and the list
  pub resumed-as-one-run : Below 32 xs → opening_value o < 2 ^ 32 → bound_allowed b ≡ true → length xs ≤ most_values → (k : ℕ) → k ≤ length xs → (ys : List ℕ)
      → k + length ys ≤ most_values → (state_over b o (take k xs ++ ys)).place ≤ 8 * length buf
      → ResumesAsOne b o xs buf (whole_bytes m.place) k ys
  unfolding write_answer write_memory reopen_answer reopen_memory
  resumed-as-one-run bx hl ok most k le ys few room =
      let r = calls.resumed-as-one-run (coder_of b (is_first o)) (coder-good b (is_first o)) (opening_value o) (in-theory M) bx hl (no-bound-refuses b ok) most k le ys few room in
      record { opens = r.opens; accepts = r.accepts; made = by-theory b o r.made }

  -- ---- demand 2: the bytes in use read back as the kept values
  pub values-read-back : Below 32 xs → opening_value o < 2 ^ 32 → values_in (take (whole_bytes m.place) buf) (length xs) o ≡ answered (kept_of b o xs)
  values-read-back = calls.values-read-back (coder_of b (is_first o)) (coder-good b (is_first o)) (opening_value o) (in-theory M)

  -- so the grid draws them, where the output has room; later places of it stay
  pub grid-reads-back : Below 32 xs → opening_value o < 2 ^ 32 → length xs ≤ most_values → (out : List ℕ) → length xs ≤ length out
      → (grid_answer (take (whole_bytes m.place) buf) (length xs) o (length out) ≡ answered tt)
      × (grid_memory (take (whole_bytes m.place) buf) (length xs) o out ≡ kept_of b o xs ++ drop (length xs) out)
  unfolding grid_answer grid_memory
  grid-reads-back = calls.grid-reads-back (coder_of b (is_first o)) (coder-good b (is_first o)) (opening_value o) (in-theory M)

-- ---- what a call leaves of lent bytes, from any writer, handed in or made

-- "An empty write changes nothing": an accepted one answers the writer that it was handed, and whether or not it is accepted the buffer is what it was
pub an-empty-write-changes-nothing : (m : MacaqueV) (buf : List ℕ) → Below 8 buf
    → ((n : MacaqueV) → write_answer m [] buf ≡ answered_on n → n ≡ m) × (write_memory m [] buf ≡ buf)
unfolding write_answer write_memory
an-empty-write-changes-nothing m = calls.an-empty-write-changes-nothing (coder_by m) (coder-good m.error_bound m.with_first) (state_of m)

-- a write and a reopening leave the buffer as long as it was, accepted or not
pub a-write-keeps-the-length : (m : MacaqueV) (ys buf : List ℕ) → length (write_memory m ys buf) ≡ length buf
unfolding write_memory
a-write-keeps-the-length m = calls.a-write-keeps-the-length (coder_by m) (coder-good m.error_bound m.with_first) (state_of m)

pub reopening-keeps-the-length : (b : ErrorBound) (o : Opening) → opening_value o < 2 ^ 32 → (buf : List ℕ) (used n k : ℕ) → length (reopen_memory buf used n k o b) ≡ length buf
unfolding reopen_memory
reopening-keeps-the-length b o hl buf used n k =
    calls.reopening-keeps-the-length (coder_of b (is_first o)) (coder-good b (is_first o)) (opening_value o) buf used n k hl

-- what the writer after xs has gathered: each thing as it is alone, over what it kept of xs
known-of-the-kept : (b : ErrorBound) (o : Opening) (xs : List ℕ)
    → (state_over b o xs).seen
    ≡ (gather_from gather_min_max (mode_of (is_first o)) 0 gather_min_max.none (kept_of b o xs), gather_from gather_sum (mode_of (is_first o)) 0 gather_sum.none (kept_of b o xs))
known-of-the-kept b o xs =
    gathers-over-the-kept-values (keep_rule b) (stream_in (is_first o)) (opened o) xs
    ∙ both-gather gather_min_max gather_sum (mode_of (is_first o)) 0 gather_min_max.none gather_sum.none (kept_of b o xs)

-- "Minimum and maximum start fresh and take in each kept value from the left, the raw first one too, and never an input that was not kept": the writer after
-- xs has those of what it kept of xs; the opening value is not among them
pub ends-of-the-kept : (b : ErrorBound) (o : Opening) (xs : List ℕ) → ends_in (state_over b o xs) ≡ foldl min_max_with gather_min_max.none (kept_of b o xs)
ends-of-the-kept b o xs =
    ap (λ (k : Known). k.0) (known-of-the-kept b o xs) ∙ gathers-each-value-once gather_min_max (λ e v. refl) (mode_of (is_first o)) 0 gather_min_max.none (kept_of b o xs)

-- and the sum is theirs, as the sum call adds it: from a raw first value, else from 0
pub sum-of-the-kept : (b : ErrorBound) (o : Opening) (xs : List ℕ) → sum_in (state_over b o xs) ≡ gather_from gather_sum (mode_of (is_first o)) 0 gather_sum.none (kept_of b o xs)
sum-of-the-kept b o xs = ap (λ (k : Known). k.1) (known-of-the-kept b o xs)

-- lossless keeps the inputs, so it is they that read back
pub lossless-keeps-the-inputs : (o : Opening) (xs : List ℕ) → kept_of Lossless o xs ≡ xs
unfolding keep_rule
lossless-keeps-the-inputs o xs = kept-lossless (stream_in (is_first o)) (opened o) xs

-- ---- "On any accepted stream, even one this writer would not write, reopening at k and writing reads back as the first k values and then the newly
-- kept ones"

pub any-stream-resumes : (b : ErrorBound) (o : Opening) (n k used : ℕ) (buf vs : List ℕ) → bound_allowed b ≡ true → opening_value o < 2 ^ 32 → n ≤ most_values
    → k ≤ n → used ≤ length buf → values_in (take used buf) n o ≡ answered vs → Resumes b o n k used buf vs
unfolding write_answer write_memory reopen_answer reopen_memory
any-stream-resumes b o n k used buf vs ok hl most le fits h =
    let r = calls.any-stream-resumes (coder_of b (is_first o)) (coder-good b (is_first o)) (opening_value o) n k used buf vs (no-bound-refuses b ok) hl most le fits h in
    record { writer = writer_of b (is_first o) r.state; opens = r.opens; accepts = r.accepts; reads = r.reads }

-- ---- rescue: going on from what arrived

-- however the stream was made, by any chain of writes and resumes, and wherever the link cut it: `Saves` names what is kept of its first j bytes
pub rescue-keeps-what-arrived : {b : ErrorBound} {o : Opening} {xs all : List ℕ} {m : MacaqueV} → Made b o xs all m → Below 32 xs → opening_value o < 2 ^ 32 → bound_allowed b ≡ true
    → length xs ≤ most_values → (j : ℕ) → j ≤ whole_bytes m.place → (buf : List ℕ) → take j buf ≡ take j all → Saves b o xs j buf
unfolding write_answer write_memory rescue_answer rescue_memory
rescue-keeps-what-arrived {b} {o} M bx hl ok most j within buf same =
    let r = rescuing.keeps-what-arrived (coder_of b (is_first o)) (coder-good b (is_first o)) (opening_value o) hl (in-theory M) bx (no-bound-refuses b ok) most j within buf same in
    record {
      number = r.number;
      few = r.few;
      here = r.here;
      missing = r.missing;
      most = r.most;
      counted = r.counted;
      answers = r.answers;
      made = by-theory b o r.made;
      accepts = r.accepts;
      goes_on = λ ys n h. by-theory b o (r.goes_on ys n h);
      any_limit = r.any_limit;
    }

-- as one theorem: any further list that room and count limit allow, written behind what was rescued, is accepted, and leaves the bytes and the writer of one
-- fresh run over the kept inputs and the list
pub rescued-as-one-run : {b : ErrorBound} {o : Opening} {xs : List ℕ} {j : ℕ} {buf : List ℕ} (R : Saves b o xs j buf) (ys : List ℕ) → R.number + length ys ≤ most_values
    → (state_over b o (take R.number xs ++ ys)).place ≤ 8 * length buf
    → (write_answer (writer_behind b o xs R.number) ys (rescue_memory buf j (length xs) o b) ≡ answered_on (writer_of b (is_first o) (state_over b o (take R.number xs ++ ys))))
    × Made b o (take R.number xs ++ ys) (write_memory (writer_behind b o xs R.number) ys (rescue_memory buf j (length xs) o b)) (writer_of b (is_first o) (state_over b o (take R.number xs ++ ys)))
rescued-as-one-run R ys few room = let a = R.accepts ys few room in (a, R.goes_on ys _ a)

-- of any accepted stream, even one that this writer would not write, it is reopening the whole one at the last value that arrived
pub rescue-reopens-what-arrived : (b : ErrorBound) (o : Opening) → bound_allowed b ≡ true → opening_value o < 2 ^ 32 → (n : ℕ) (all vs : List ℕ) → values_in all n o ≡ answered vs → n ≤ most_values
    → (j : ℕ) → j ≤ length all → (buf : List ℕ) → take j buf ≡ take j all → ReopensWhole b o n all j buf
unfolding rescue_answer reopen_answer
rescue-reopens-what-arrived b o ok hl n all vs h few j within buf same =
    let r = rescuing.reopens-what-arrived (coder_of b (is_first o)) (coder-good b (is_first o)) (opening_value o) hl n all vs h (no-bound-refuses b ok) few j within buf same in
    record {
      number = r.number;
      writer = writer_of b (is_first o) r.state;
      few = r.few;
      counted = r.counted;
      answers = r.answers;
      opens = r.opens;
      here = r.here;
      most = r.most;
      any_limit = r.any_limit;
    }

-- the limit matters only to an upload that arrived whole: where an input is missing, every limit from the number kept on gives the same
pub any-limit-where-a-value-is-missing : {b : ErrorBound} {o : Opening} {xs : List ℕ} {j : ℕ} {buf : List ℕ} (R : Saves b o xs j buf) → R.number < length xs
    → (i : ℕ) → R.number ≤ i → i ≤ most_values
    → (rescue_answer buf j i o b ≡ answered (writer_behind b o xs R.number)) × (rescue_memory buf j i o b ≡ rescue_memory buf j (length xs) o b)
any-limit-where-a-value-is-missing R lt i le most = let a = R.any_limit lt i le most in (a.0 ∙ R.answers, a.1)

-- where none is, a larger limit may read padding as values: FE 0C is written of one value, and every limit from 2 on keeps a repeat of it too
abbrev one : ℕ
one = 0x3F80_0000

abbrev above-one : ℕ
above-one = 0x3F80_0001

pub padding-may-read-as-a-value : (stream_of (keep_rule Lossless) (stream_in false) one (above-one ∷ []) ≡ 0xFE ∷ 0x0C ∷ [])
    × (rescue_answer (0xFE ∷ 0x0C ∷ []) 2 1 (On one) Lossless ≡ answered (writer_of Lossless false (state_over Lossless (On one) (above-one ∷ []))))
    × ((limit : ℕ) → 2 ≤ limit → limit ≤ most_values
    → rescue_answer (0xFE ∷ 0x0C ∷ []) 2 limit (On one) Lossless ≡ answered (writer_of Lossless false (state_over Lossless (On one) (above-one ∷ above-one ∷ []))))
unfolding rescue_answer keep_rule bound_allowed
padding-may-read-as-a-value = (
  padding.one-value-written gather_known,
  (rescuing.by-the-stream (coder_of Lossless false) (coder-good Lossless false) one (0xFE ∷ 0x0C ∷ []) 2 1 _ (no-bound-refuses Lossless refl) (omega arith) (omega arith) (padding.kept-by-its-count gather_known)).0,
  λ limit lo most.
      let up : limit ≡ suc (suc (limit - 2)) = omega arith in
      (rescuing.by-the-stream (coder_of Lossless false) (coder-good Lossless false) one (0xFE ∷ 0x0C ∷ []) 2 limit _ (no-bound-refuses Lossless refl) most (omega arith)
      (ap (λ (n : ℕ). rescue (stream_in false) n (fresh (stream_in false) one) (bits_of (0xFE ∷ 0x0C ∷ []))) up ∙ padding.padding-read gather_known (limit - 2))).0,
)

-- or as damage: 80 is written of one value that repeats the opening one, and every limit from 2 on refuses with 6, at value 1 and bit 2
pub padding-may-read-as-damage : (stream_of (keep_rule Lossless) (stream_in false) one (one ∷ []) ≡ 0x80 ∷ [])
    × ((b : ErrorBound) → bound_allowed b ≡ true → (l limit : ℕ) → 2 ≤ limit → limit ≤ most_values → rescue_answer (0x80 ∷ []) 1 limit (On l) b ≡ refused (fault_in 6 1 2))
unfolding rescue_answer keep_rule
padding-may-read-as-damage = (
  padding.repeat-written gather_known,
  λ b ok l limit lo most.
      let up : limit ≡ suc (suc (limit - 2)) = omega arith in
      (rescuing.by-the-stream (coder_of b false) (coder-good b false) l (0x80 ∷ []) 1 limit _ (no-bound-refuses b ok) most (omega arith)
      (ap (λ (n : ℕ). rescue (stream_in false) n (fresh (stream_in false) l) (bits_of (0x80 ∷ []))) up ∙ padding.padding-refused gather_known l (limit - 2))).0,
)

-- of any bytes at all what is kept reads back, and reopened at its count it is the same writer in the same bytes: `any-stream-resumes` says how that goes on
pub what-is-rescued-reads-back : (b : ErrorBound) (o : Opening) → opening_value o < 2 ^ 32 → (buf : List ℕ) (used limit : ℕ) (m : MacaqueV)
    → rescue_answer buf used limit o b ≡ answered m → Rescues b o limit used buf m
unfolding rescue_answer rescue_memory reopen_answer reopen_memory
what-is-rescued-reads-back b o hl buf used limit m h =
    let r = rescuing.what-is-rescued (coder_of b (is_first o)) (coder-good b (is_first o)) (opening_value o) hl buf used limit m h in
    let used' : ℕ = whole_bytes r.state.place in
    let left : List ℕ = rescue_memory buf used limit o b in
    subst (Rescues b o limit used buf) (sym r.held)
    (record {
      values = r.values;
      rest = r.rest;
      few = r.few;
      counted = r.counted;
      in_them = r.in_them;
      ends = r.ends;
      reads_back = ap (λ (n : ℕ). values_in (take used' left) n o) r.counted ∙ r.reads_back;
      reopens = ap (λ (n : ℕ). reopen_answer left used' n n o b) r.counted ∙ r.reopens ∙ ap answered r.held;
      within = r.within;
      leaves = r.leaves;
      stays = ap (λ (n : ℕ). reopen_memory left used' n n o b) r.counted ∙ r.stays;
    })

-- and the grid draws it
pub what-is-rescued-is-drawn : {b : ErrorBound} {o : Opening} {limit used : ℕ} {buf : List ℕ} {m : MacaqueV} (R : Rescues b o limit used buf m) → limit ≤ most_values
    → (out : List ℕ) → m.length ≤ length out
    → (grid_answer (take (whole_bytes m.place) (rescue_memory buf used limit o b)) m.length o (length out) ≡ answered tt)
    × (grid_memory (take (whole_bytes m.place) (rescue_memory buf used limit o b)) m.length o out ≡ R.values ++ drop (length R.values) out)
unfolding grid_answer grid_memory
what-is-rescued-is-drawn {b} {o} {limit} {used} {buf} {m} R most out room =
    calls.a-grid-draws (stream_in (is_first o)) (opening_value o) (take (whole_bytes m.place) (rescue_memory buf used limit o b)) m.length R.values R.reads_back
    (omega (arith, R.counted, R.few)) out room

-- on an accepted stream with its count it is reopening there: the same answer, and the same buffer
pub rescue-of-a-whole-stream-is-reopening : (b : ErrorBound) (o : Opening) → opening_value o < 2 ^ 32 → (buf : List ℕ) (used n : ℕ) (vs : List ℕ) → values_in (take used buf) n o ≡ answered vs
    → (rescue_answer buf used n o b ≡ reopen_answer buf used n n o b) × (rescue_memory buf used n o b ≡ reopen_memory buf used n n o b)
unfolding rescue_answer rescue_memory reopen_answer reopen_memory
rescue-of-a-whole-stream-is-reopening b o hl = rescuing.of-a-whole-stream (coder_of b (is_first o)) (coder-good b (is_first o)) (opening_value o) hl

-- what it refuses, it refuses by its causes, or it meets damage, 6 or 7, where a reading of so many values meets it: never 5 or 8. And the buffer is left
pub what-rescue-refuses : (b : ErrorBound) (o : Opening) (buf : List ℕ) (used limit : ℕ) (f : Fault) → rescue_answer buf used limit o b ≡ refused f
    → (rescue_memory buf used limit o b ≡ buf)
    × ((verdict (rescue_causes b (length buf) used limit) ≡ refused f)
    ⊎ ((verdict (rescue_causes b (length buf) used limit) ≡ answered tt) × MeetsDamage (stream_in (is_first o)) (opening_value o) limit (take used buf) f))
unfolding rescue_answer rescue_memory
what-rescue-refuses b o = rescuing.what-rescue-refuses (coder_of b (is_first o)) (coder-good b (is_first o)) (opening_value o)
