-- The promises on what is kept (document 02, W10), of the calls: every value that a write keeps passes the within test against its input, also behind a stream
-- that was written by another rule; and what of such a stream is kept. Assumes nothing.
use mathlib.Core.Path.{◌≡◌, refl, sym, ap, ◌∙◌, subst}
use mathlib.Core.Bool.{true}
use mathlib.Core.List.{List, [], ◌∷◌, ◌++◌, append_assoc}
use Prim.Native.Nat.{ℕ, suc, ◌^◌, ◌≤◌, ◌<◌}
use native.Mathlib.Omega.{arith}
use borrow.Author.Tests.{le-ltb, not-false}
use lib.ListN.{length, take, drop}
use lib.Seq.{take_at, drop_at}
use Rattle.bits.specs.Bits.{Below, whole_bytes}
use Rattle.models.specs.Answers.{answered, refused, answered_on, keeping, NoneHolds}
use Rattle.models.specs.Limits.{most_values}
use Rattle.models.specs.Bound.{bound_allowed}
use Rattle.models.specs.Causes.{bound_causes}
use Rattle.models.specs.declared.ErrorBound.{ErrorBound}
use Rattle.models.proofs.Judged.{same_answer}
use Rattle.models.proofs.Judged as judging
use Rattle.stream.specs.Format.{Mode, raw_next}
use Rattle.stream.specs.Write.{Keeps, kept_one, kept_from, kept}
use Rattle.stream.specs.Calls.{Coder}
use Rattle.stream.specs.Made.{MadeBy}
use Rattle.stream.specs.Needs.{GoodCoder}
use Rattle.stream.proofs.Calls as calls
use Rattle.stream.proofs.Formats.{macaque-good}
use Rattle.coding.specs.Keep.{keep_rule}
use Rattle.macaque_v.specs.State.{Known, stream_in, state_of, writer_of, is_first, opening_value}
use Rattle.macaque_v.specs.Calls.{write_answer, write_memory}
use Rattle.macaque_v.specs.Read.{values_in, grid_causes, drawn, drawn_in, grid_answer, grid_memory, reopen_answer}
use Rattle.macaque_v.specs.Made.{kept_of, Made, Resumes}
use Rattle.macaque_v.specs.Sums.{OfItsBytes}
use Rattle.macaque_v.specs.Kept.{KeptWithin, kept_by, state_by, WrittenBy, OlderResumes}
use Rattle.macaque_v.specs.declared.MacaqueV.{MacaqueV}
use Rattle.macaque_v.specs.declared.Opening.{Opening}
use Rattle.macaque_v.proofs.Accepting.{no-bound-refuses}
use Rattle.macaque_v.proofs.Promises.{grid-reads-back, any-stream-resumes}
use Rattle.macaque_v.proofs.Sums.{a-write-stays-of-its-bytes, a-write-reads-on, whole-of-its-bytes}
use Rattle.macaque_v.proofs.KeptOne.{one_passes, and_one}

-- ---- what is kept passes the test

module _ (b : ErrorBound) (ok : bound_allowed b ≡ true) where
  pub all_pass : (mode : Mode) (n l : ℕ) (xs : List ℕ) → KeptWithin b xs (kept_from (keep_rule b) mode n l xs)
  unfolding kept_from
  all_pass mode n l [] = record { as_many = refl; passes = λ i h. absurd (omega (arith, h)) }
  all_pass mode n l (x ∷ xs) =
      let v : ℕ = kept_one (keep_rule b) (raw_next mode n) l x in
      and_one b ok x v xs (kept_from (keep_rule b) mode (suc n) v xs) (one_passes b ok (raw_next mode n) l x) (all_pass mode (suc n) v xs)

-- ---- of a stream that writes, stops and resumes have made: each value that the grid draws passes the test against its input

module _ {b : ErrorBound} {o : Opening} {xs buf : List ℕ} {m : MacaqueV} (M : Made b o xs buf m) (bx : Below 32 xs) (hl : opening_value o < 2 ^ 32) (ok : bound_allowed b ≡ true)
    (most : length xs ≤ most_values) (out : List ℕ) (room : length xs ≤ length out) where
  pub kept-within : (grid_answer (take (whole_bytes m.place) buf) (length xs) o (length out) ≡ answered tt)
      × KeptWithin b xs (take (length xs) (grid_memory (take (whole_bytes m.place) buf) (length xs) o out))
  kept-within =
      let g = grid-reads-back M bx hl most out room in
      let all : KeptWithin b xs (kept_of b o xs) = all_pass b ok _ _ _ xs in
      (g.0, subst (KeptWithin b xs) (sym (ap (take (length xs)) g.1 ∙ take_at (kept_of b o xs) (drop (length xs) out) (length xs) all.as_many)) all)

-- ---- of an accepted write on any writer of its bytes: the values before it stay, and each new one passes

-- what a grid draws of bytes that are read as vs
grid-of : (bytes : List ℕ) (n : ℕ) (o : Opening) (out vs : List ℕ) → values_in bytes n o ≡ answered vs → n ≤ most_values → n ≤ length out
    → (grid_answer bytes n o (length out) ≡ answered tt) × (grid_memory bytes n o out ≡ vs ++ drop (length vs) out)
unfolding grid_answer grid_memory
grid-of bytes n o out vs h few room =
    let no : NoneHolds (grid_causes n (length out)) = (le-ltb most_values n few, (le-ltb (length out) n room, tt)) in (
      sym (judging.accepted refused _ (grid_causes n (length out)) no) ∙ ap drawn h,
      sym (judging.accepted (keeping out) _ (grid_causes n (length out)) no) ∙ ap (drawn_in out) h,
    )

-- a write that is accepted has a bound that is allowed
pub bound-allowed : (m n : MacaqueV) (ys buf : List ℕ) → write_answer m ys buf ≡ answered_on n → bound_allowed m.error_bound ≡ true
unfolding write_answer
bound-allowed m n ys buf h = not-false _ (judging.none _ (judging.accepted-only _ _ _ n h).0).0

module _ {o : Opening} {buf : List ℕ} {m : MacaqueV} (I : OfItsBytes o buf m) (hl : opening_value o < 2 ^ 32) (small : Below 8 buf) (ys : List ℕ) (by : Below 32 ys) (n : MacaqueV)
    (h : write_answer m ys buf ≡ answered_on n) (out : List ℕ) (room : n.length ≤ length out) where
  abbrev left : List ℕ
  left = take (whole_bytes n.place) (write_memory m ys buf)

  pub newly-kept-within : (grid_answer left n.length o (length out) ≡ answered tt)
      × (take m.length (grid_memory left n.length o out) ≡ I.values)
      × KeptWithin m.error_bound ys (take (length ys) (drop m.length (grid_memory left n.length o out)))
  newly-kept-within =
      let b : ErrorBound = m.error_bound in
      let ks : List ℕ = kept (keep_rule b) (stream_in (is_first o)) I.end ys in
      let all : KeptWithin b ys ks = all_pass b (bound-allowed m n ys buf h) _ _ _ ys in
      let g = grid-of left n.length o out (I.values ++ ks) (a-write-reads-on I hl small ys by n h) (a-write-stays-of-its-bytes I hl small ys by n h).1 room in
      let rest : List ℕ = drop (length (I.values ++ ks)) out in
      let apart : I.values ++ ks ++ rest ≡ I.values ++ (ks ++ rest) = append_assoc I.values ks rest in
      let long : length I.values ≡ m.length = (whole-of-its-bytes I hl).long in (
        g.0,
        ap (take m.length) (g.1 ∙ apart) ∙ take_at I.values (ks ++ rest) m.length long,
        subst (KeptWithin b ys)
            (sym (ap (λ (z : List ℕ). take (length ys) (drop m.length z)) (g.1 ∙ apart) ∙ ap (take (length ys)) (drop_at I.values (ks ++ rest) m.length long)
            ∙ take_at ks rest (length ys) all.as_many))
            all,
      )

-- ---- of a stream that another rule of what is kept has written, as the within test in f32 was: W10, "on older lossy ones the weaker statement of 01"

module _ (rule : ℕ → ℕ → ℕ) (keeps : Keeps 32 rule) (b : ErrorBound) (o : Opening) where
  -- a writer by that rule, which reopens as ours does
  abbrev older : Coder Known MacaqueV
  older = record { stream = stream_in (is_first o); rule = rule; first = bound_causes b; hold = writer_of b (is_first o); state = state_of }

  older-good : GoodCoder older
  older-good = record { format = macaque-good; keeps = keeps; holds = λ s. refl; near = omega arith }

  pub an-older-stream-resumes : {xs buf : List ℕ} {used : ℕ} → WrittenBy rule o xs buf used → Below 32 xs → opening_value o < 2 ^ 32 → bound_allowed b ≡ true → length xs ≤ most_values
      → used ≤ length buf → (k : ℕ) → k ≤ length xs → OlderResumes rule b o xs buf used k
  unfolding reopen_answer
  an-older-stream-resumes {xs} {buf} {used} W bx hl ok most fits k le =
      let M : MadeBy older (opening_value o) xs buf (writer_of b (is_first o) (state_by rule o xs)) =
      record { writer = refl; bytes = ap (λ (u : ℕ). take u buf) (sym W.in_use) ∙ W.bytes } in
      let reads : values_in (take used buf) (length xs) o ≡ answered (kept_by rule o xs) =
      ap (λ (u : ℕ). values_in (take u buf) (length xs) o) W.in_use ∙ calls.values-read-back older older-good (opening_value o) M bx hl in
      let R : Resumes b o (length xs) k used buf (kept_by rule o xs) = any-stream-resumes b o (length xs) k used buf (kept_by rule o xs) ok hl most le fits reads in
      let opens : reopen_answer buf used (length xs) k o b ≡ answered (writer_of b (is_first o) (state_by rule o (take k xs))) =
      ap (λ (u : ℕ). reopen_answer buf u (length xs) k o b) W.in_use ∙ (calls.reopening-goes-back older older-good (opening_value o) M bx hl (no-bound-refuses b ok) most k le).0 in
      record {
        reads = reads;
        resumes = R;
        back = same_answer (sym R.opens ∙ opens);
        newly = λ ys. all_pass b ok _ _ _ ys;
      }
