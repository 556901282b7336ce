-- The promises of the calls on a segment: start reading here. `grid_answer`, `grid_memory` and `sum_answer` are what the contracts of the calls say that
-- they answer and leave in the lent output; `ends` is what the parameter bytes read as. Assumes nothing.
use mathlib.Core.Path.{◌≡◌, refl, sym, ap, ap₂, ◌∙◌, subst}
use mathlib.Core.Bool.{Bool, true, false, cond, not, ◌&&◌}
use mathlib.Core.List.{List, [], ◌∷◌, ◌++◌, append_assoc}
use Prim.Native.Nat.{ℕ, ◌-◌, ◌^◌, ◌<◌}
use native.Mathlib.Omega.{arith}
use borrow.Author.Tests.{le-ltb, eqb-false, ne_eqb}
use lib.Dec.{eqb, ltb}
use lib.IntN.{ℤ}
use lib.Signed.{lt_z}
use lib.ListN.{length, take, drop, length-append}
use lib.Seq.{take_at, drop_at, get_or_at}
use Rattle.bits.specs.Bits.{Below, first_bytes, bytes_of, padded, whole_bytes}
use Rattle.models.specs.Answers.{Said, answered, refused, Cause, ◌when◌, judge, judged, verdict, keeping, NoneHolds}
use Rattle.models.specs.Limits.{most_values}
use Rattle.models.specs.declared.ErrorBound.{ErrorBound}
use Rattle.models.specs.declared.ErrorBound.TheVariants.{Lossless}
use Rattle.models.specs.declared.Fault.{Fault}
use Rattle.models.proofs.Judged.{none, answered-only, passed, not-answered}
use Rattle.models.proofs.Tests.{and_both, and-false, and-past, neither}
use Rattle.models.proofs.Judged as judging
use Rattle.stream.specs.Format.{Stream, fresh}
use Rattle.stream.specs.Write.{kept_from, encode, written, stream_of}
use Rattle.stream.specs.Read.{read_all}
use Rattle.stream.proofs.Formats.{macaque-good}
use Rattle.stream.proofs.Holds.{padded-back}
use Rattle.stream.proofs.Reopen.{fresh-read}
use Rattle.coding.specs.Keep.{keep_rule}
use Rattle.coding.proofs.Keeping.{keeps}
use Rattle.macaque_v.specs.State as macaque-v
use Rattle.macaque_v.specs.State.{stream_in, opened}
use Rattle.macaque_v.specs.Read as stream
use Rattle.macaque_v.specs.Read.{values_read, values_in, drawn, drawn_in}
use Rattle.macaque_v.specs.Made.{Made, kept_of}
use Rattle.macaque_v.specs.declared.MacaqueV.{MacaqueV}
use Rattle.macaque_v.specs.declared.Opening.TheVariants.{On}
use Rattle.macaque_v.proofs.Promises.{lossless-keeps-the-inputs}
use Rattle.lines.specs.Times.{time_allowed, in_order}
use Rattle.lines.specs.Values.{in_time, no_line}
use Rattle.lines.specs.declared.Point.{Point}
use Rattle.lines.proofs.Ordered.{in-order-at}
use Rattle.pmc_mean.specs.Grid as pmc-mean
use Rattle.swing.specs.Grid as swing
use Rattle.parameters.specs.Forms.{Ends}
use Rattle.segment_grid.specs.Segment.{count_in, stream_bytes, residuals_in, given, owned, owned_times, is_swing, start_of, end_of, model_values, model_sum, HoldsResiduals}
use Rattle.segment_grid.specs.Calls.{form_wrong, grid_causes, sum_causes, behind, segment_values, grid_answer, grid_memory, plus, with_residuals, residual_sum, segment_sum, sum_answer}
use Rattle.segment_grid.proofs.Owned.{length-owned, length-model, Clear, clear, no-room-asked, in-order-later, in_order_take}
use Rattle.segment_grid.proofs.Counted.{as-many-values}

-- ---- what is drawn

-- the residual stream was read
was_read : (ms : List ℕ) (q : Said (List ℕ)) → drawn (behind ms q) ≡ answered tt → (vs : List ℕ) × (q ≡ answered vs)
was_read ms (answered vs) h = (vs, refl)
was_read ms (refused f) h = absurd (not-answered h)

module _ (model : ℕ) (ts : List ℤ) (ends : Said Ends) (residuals out : List ℕ) where
  -- a segment that no cause refuses, and whose residual stream reads as vs: the model's values, then these; later places stay
  pub drawn-with : (vs : List ℕ) → verdict (grid_causes model ts ends residuals (length out)) ≡ answered tt → residuals_in residuals (given ends).1 ≡ answered vs
      → (grid_answer model ts ends residuals (length out) ≡ answered tt)
      × (grid_memory model ts ends residuals out ≡ model_values model (owned_times ts residuals) (given ends) ++ vs ++ drop (length ts) out)
  unfolding grid_answer grid_memory
  drawn-with vs free reads =
      let causes : List Cause = grid_causes model ts ends residuals (length out) in
      let ms : List ℕ = model_values model (owned_times ts residuals) (given ends) in
      let all : segment_values model ts (given ends) residuals ≡ answered (ms ++ vs) = ap (behind ms) reads in
      let held : length vs ≡ count_in residuals = as-many-values (stream_bytes residuals) (count_in residuals) (On (given ends).1) vs reads in
      let many : length (ms ++ vs) ≡ length ts =
      omega (arith, length-append ms vs, length-model model (owned_times ts residuals) (given ends), length-owned ts residuals, held, (clear model ts ends residuals (length out) free).some) in (
        sym (judging.accepted refused (drawn (segment_values model ts (given ends) residuals)) causes (none causes free)) ∙ ap drawn all,
        sym (judging.accepted (keeping out) (drawn_in out (segment_values model ts (given ends) residuals)) causes (none causes free))
            ∙ ap (drawn_in out) all ∙ ap (λ (n : ℕ). (ms ++ vs) ++ drop n out) many,
      )

  -- one whose residual stream is refused: the same fault, its value and place counted in that stream, and the output as it was
  pub grid-says-where : (f : Fault) → verdict (grid_causes model ts ends residuals (length out)) ≡ answered tt → values_in (stream_bytes residuals) (count_in residuals) (On (given ends).1) ≡ refused f
      → (grid_answer model ts ends residuals (length out) ≡ refused f) × (grid_memory model ts ends residuals out ≡ out)
  unfolding grid_answer grid_memory
  grid-says-where f free broken =
      let causes : List Cause = grid_causes model ts ends residuals (length out) in
      let all : segment_values model ts (given ends) residuals ≡ refused f = ap (behind (model_values model (owned_times ts residuals) (given ends))) broken in (
        sym (judging.accepted refused (drawn (segment_values model ts (given ends) residuals)) causes (none causes free)) ∙ ap drawn all,
        sym (judging.accepted (keeping out) (drawn_in out (segment_values model ts (given ends) residuals)) causes (none causes free)) ∙ ap (drawn_in out) all,
      )

  module _ (h : grid_answer model ts ends residuals (length out) ≡ answered tt) where
    free-of-causes : (verdict (grid_causes model ts ends residuals (length out)) ≡ answered tt) × (drawn (segment_values model ts (given ends) residuals) ≡ answered tt)
    unfolding grid_answer
    free-of-causes =
        let causes : List Cause = grid_causes model ts ends residuals (length out) in
        let a = answered-only causes (drawn (segment_values model ts (given ends) residuals)) tt h in
        (passed causes a.0, a.1)

    -- an accepted grid begins with the model's values at the times that it owns
    pub the-models-part : take (owned ts residuals) (grid_memory model ts ends residuals out) ≡ model_values model (owned_times ts residuals) (given ends)
    the-models-part =
        let ms : List ℕ = model_values model (owned_times ts residuals) (given ends) in
        let r = was_read ms (residuals_in residuals (given ends).1) free-of-causes.1 in
        let many : length ms ≡ owned ts residuals = length-model model (owned_times ts residuals) (given ends) ∙ length-owned ts residuals in
        ap (take (owned ts residuals)) ((drawn-with r.0 free-of-causes.0 r.1).1 ∙ append_assoc ms r.0 (drop (length ts) out))
        ∙ take_at ms (r.0 ++ drop (length ts) out) (owned ts residuals) many

    -- and its residual part is the stream's own reading: "The reader opens on the decoded last value", not on the last that is drawn
    pub the-residual-part : values_in (stream_bytes residuals) (count_in residuals) (On (given ends).1)
        ≡ answered (take (count_in residuals) (drop (owned ts residuals) (grid_memory model ts ends residuals out)))
    the-residual-part =
        let ms : List ℕ = model_values model (owned_times ts residuals) (given ends) in
        let r = was_read ms (residuals_in residuals (given ends).1) free-of-causes.1 in
        let vs : List ℕ = r.0 in
        let many : length ms ≡ owned ts residuals = length-model model (owned_times ts residuals) (given ends) ∙ length-owned ts residuals in
        let held : length vs ≡ count_in residuals = as-many-values (stream_bytes residuals) (count_in residuals) (On (given ends).1) vs r.1 in
        let rest : drop (owned ts residuals) (grid_memory model ts ends residuals out) ≡ vs ++ drop (length ts) out =
        ap (drop (owned ts residuals)) ((drawn-with vs free-of-causes.0 r.1).1 ∙ append_assoc ms vs (drop (length ts) out))
        ∙ drop_at ms (vs ++ drop (length ts) out) (owned ts residuals) many in
        r.1 ∙ ap answered (sym (ap (take (count_in residuals)) rest ∙ take_at vs (drop (length ts) out) (count_in residuals) held))

-- ---- what was written reads back

-- "then one count byte"
pub counted : (stream : List ℕ) (n : ℕ) → (stream_bytes (stream ++ (n ∷ [])) ≡ stream) × (count_in (stream ++ (n ∷ [])) ≡ n)
counted stream n =
    let bytes : List ℕ = stream ++ (n ∷ []) in
    let at : length stream ≡ length bytes - 1 = omega (arith, length-append stream (n ∷ [])) in
    (take_at stream (n ∷ []) (length bytes - 1) at, get_or_at stream n [] 0 (length bytes - 1) at)

nothing_written : {A : Type 0} (rule : ℕ → ℕ → ℕ) (S : Stream A) (l : ℕ) → stream_of rule S l [] ≡ []
unfolding first_bytes bytes_of padded encode kept_from
nothing_written rule S l = refl

-- "No residuals, no byte." These are the residual bytes of one fresh run over xs.
pub holds-residuals : (b : ErrorBound) (last : ℕ) (xs : List ℕ)
    → HoldsResiduals b last xs (cond (eqb (length xs) 0) [] (stream_of (keep_rule b) (stream_in false) last xs ++ (length xs ∷ [])))
holds-residuals b last [] = record { stream = sym (nothing_written (keep_rule b) (stream_in false) last); count = refl }
holds-residuals b last (x ∷ xs) =
    let bytes : List ℕ = stream_of (keep_rule b) (stream_in false) last (x ∷ xs) in
    let c = counted bytes (length (x ∷ xs)) in
    subst (λ (none : Bool). HoldsResiduals b last (x ∷ xs) (cond none [] (bytes ++ (length (x ∷ xs) ∷ [])))) (sym (ne_eqb (length (x ∷ xs)) 0 (λ e. absurd (omega (arith, e))))) (record { stream = c.0; count = c.1 })

-- so are those in a buffer that any chain of writes, stops and resumes has made, and the count behind them
pub stored-by-a-writer : (b : ErrorBound) (last : ℕ) (xs buf : List ℕ) (m : MacaqueV) → Made b (On last) xs buf m
    → HoldsResiduals b last xs (take (whole_bytes m.place) buf ++ (length xs ∷ []))
stored-by-a-writer b last xs buf m M =
    let c = counted (take (whole_bytes m.place) buf) (length xs) in
    record { stream = c.0 ∙ M.bytes; count = c.1 }

-- 9 is no cause for them, where the parameter bytes read
pub stored-as-allowed : (b : ErrorBound) (last : ℕ) (xs : List ℕ) (ends : Ends)
    → form_wrong (answered ends) (cond (eqb (length xs) 0) [] (stream_of (keep_rule b) (stream_in false) last xs ++ (length xs ∷ []))) ≡ false
stored-as-allowed b last [] ends = refl
stored-as-allowed b last (x ∷ xs) ends =
    let bytes : List ℕ = cond (eqb (length (x ∷ xs)) 0) [] (stream_of (keep_rule b) (stream_in false) last (x ∷ xs) ++ (length (x ∷ xs) ∷ [])) in
    let some : eqb (count_in bytes) 0 ≡ false = ne_eqb (count_in bytes) 0 (λ e. absurd (omega (arith, e, (holds-residuals b last (x ∷ xs)).count))) in
    and-false (not (eqb (length bytes) 0)) (eqb (count_in bytes) 0) some

-- they read as what was kept
reads-as-kept : (b : ErrorBound) (last : ℕ) (xs : List ℕ) → Below 32 xs → last < 2 ^ 32
    → values_in (stream_of (keep_rule b) (stream_in false) last xs) (length xs) (On last) ≡ answered (kept_of b (On last) xs)
reads-as-kept b last xs small low =
    let S : Stream macaque-v.Known = stream_in false in
    ap values_read
    (ap (read_all S (length xs) (opened (On last))) (padded-back (written (keep_rule b) S (fresh S last) xs))
    ∙ fresh-read S macaque-good last low (keep_rule b) (keeps b 32) xs small)

module _ (b : ErrorBound) (model : ℕ) (ts : List ℤ) (first last : ℕ) (xs residuals out : List ℕ) (S : HoldsResiduals b last xs residuals) (small : Below 32 xs) (low : last < 2 ^ 32)
    (ends : Said Ends) (e : ends ≡ answered (first, last)) (free : verdict (grid_causes model ts ends residuals (length out)) ≡ answered tt) where
  -- where the parameter bytes read as the model's ends and no cause holds, the grid is accepted, whatever the bound: the drawn values at the model's
  -- timestamps, and then the kept residuals bit for bit
  pub a-segment-reads-back : (grid_answer model ts ends residuals (length out) ≡ answered tt)
      × (grid_memory model ts ends residuals out ≡ model_values model (take (length ts - length xs) ts) (first, last) ++ kept_of b (On last) xs ++ drop (length ts) out)
  a-segment-reads-back =
      let known : given ends ≡ (first, last) = ap given e in
      let reads : residuals_in residuals (given ends).1 ≡ answered (kept_of b (On last) xs) =
      ap (λ (e : Ends). residuals_in residuals e.1) known
      ∙ ap₂ (λ (bytes : List ℕ) (n : ℕ). values_in bytes n (On last)) S.stream S.count
      ∙ reads-as-kept b last xs small low in
      let w = drawn-with model ts ends residuals out (kept_of b (On last) xs) free reads in
      (w.0, w.1 ∙ ap₂ (λ (n : ℕ) (e : Ends). model_values model (take (length ts - n) ts) e ++ kept_of b (On last) xs ++ drop (length ts) out) S.count known)

-- and lossless as the residuals handed in
pub lossless-reads-back : (model : ℕ) (ts : List ℤ) (first last : ℕ) (xs residuals out : List ℕ) → HoldsResiduals Lossless last xs residuals → Below 32 xs → last < 2 ^ 32
    → (ends : Said Ends) → ends ≡ answered (first, last) → verdict (grid_causes model ts ends residuals (length out)) ≡ answered tt
    → (grid_answer model ts ends residuals (length out) ≡ answered tt)
    × (grid_memory model ts ends residuals out ≡ model_values model (take (length ts - length xs) ts) (first, last) ++ xs ++ drop (length ts) out)
lossless-reads-back model ts first last xs residuals out S small low ends e free =
    let w = a-segment-reads-back Lossless model ts first last xs residuals out S small low ends e free in
    (w.0, w.1 ∙ ap (λ (vs : List ℕ). model_values model (take (length ts - length xs) ts) (first, last) ++ vs ++ drop (length ts) out) (lossless-keeps-the-inputs (On last) xs))

-- ---- sums

has-an-answer : (causes : List Cause) (sum : ℕ) → NoneHolds causes → (v : ℕ) × (judged causes sum ≡ answered v)
has-an-answer causes sum free = (sum, sym (judging.accepted refused (answered sum) causes free))

module _ (model : ℕ) (ts : List ℤ) (ends : Said Ends) (residuals : List ℕ) (h : verdict (sum_causes model ts ends residuals) ≡ answered tt) where
  abbrev times : List ℤ
  times = owned_times ts residuals

  abbrev a : Point
  a = start_of times (given ends)

  abbrev b : Point
  b = end_of times (given ends)

  asked : Clear ts residuals (length ts)
  asked = clear model ts ends residuals (length ts) (no-room-asked model ts ends residuals refused (answered tt) ∙ h)

  ordered : in_order times ≡ true
  ordered = in_order_take (owned ts residuals) ts asked.ordered

  few : ltb most_values (length times) ≡ false
  few = le-ltb most_values (length times) (omega (arith, length-owned ts residuals, asked.few))

  -- the line of a Swing segment that nothing refuses: its end is after its start, and it can be drawn
  pub a-swing-has-a-line : is_swing model ≡ true → (in_time a b ≡ true) × (no_line a b ≡ false)
  unfolding in_time
  a-swing-has-a-line e =
      let c = none (sum_causes model ts ends residuals) h in
      let last : ℕ = length times - 1 in
      let more : owned ts residuals ≡ 1 → ⊥ = eqb-false (owned ts residuals) 1 (and-past _ _ e (neither (not (in_order ts)) (is_swing model && eqb (owned ts residuals) 1) c.1.1.0).1) in
      let far : 0 < last = omega (arith, length-owned ts residuals, asked.some, more) in
      let within : last < length times = omega arith in (
        and_both (time_allowed a.time) (time_allowed b.time && lt_z a.time b.time) (in-order-at times 0 ordered (omega arith))
            (and_both (time_allowed b.time) (lt_z a.time b.time) (in-order-at times last ordered within) (in-order-later times last ordered far within)),
        and-past _ _ e c.1.1.1.1.0,
      )

  -- the model has a sum, in either form: after the causes, what is refused is the residual stream alone
  pub the-model-has-a-sum : (average : Bool) → (sum : ℕ) × (model_sum average model times (given ends) ≡ answered sum)
  unfolding model_sum pmc-mean.sum_answer swing.average_answer swing.sum_answer
  the-model-has-a-sum average = go (is_swing model) refl average
    where
      go : (s : Bool) → is_swing model ≡ s → (average : Bool)
          → (sum : ℕ) × (cond s (cond average (swing.average_answer a b (length times)) (swing.sum_answer a b times)) (pmc-mean.sum_answer (length times) (given ends).0) ≡ answered sum)
      go false e average = has-an-answer (3 when ltb most_values (length times) ∷ []) _ (few, tt)
      go true e true =
          let l = a-swing-has-a-line e in
          has-an-answer (swing.average_causes a b (length times)) _ (few, (ap not l.0, (l.1, tt)))
      go true e false =
          let l = a-swing-has-a-line e in
          has-an-answer (swing.sum_causes a b times) _ (few, (ap not (and_both (in_time a b) (in_order times) l.0 ordered), (l.1, tt)))

  -- the residuals are summed as their stream is
  residuals-summed : residual_sum residuals (given ends).1 ≡ stream.summed false (residuals_in residuals (given ends).1)
  unfolding stream.sum_answer judge
  residuals-summed = rw (le-ltb most_values (count_in residuals) (omega (arith, asked.few, asked.some)))

  summed-with : (average : Bool) → segment_sum average model ts (given ends) residuals ≡ sum_answer average model ts ends residuals
  unfolding sum_answer
  summed-with average = judging.accepted refused (segment_sum average model ts (given ends) residuals) (sum_causes model ts ends residuals) (none (sum_causes model ts ends residuals) h)

  -- the residuals that are added are those that a grid draws, from the left, from 0; without any, the model's sum stays as it is
  pub a-segments-sum : (average : Bool) (vs : List ℕ) → residuals_in residuals (given ends).1 ≡ answered vs
      → sum_answer average model ts ends residuals
      ≡ answered (cond (eqb (count_in residuals) 0) (the-model-has-a-sum average).0 (plus (the-model-has-a-sum average).0 (stream.sum_of false vs)))
  a-segments-sum average vs reads =
      sym (summed-with average) ∙ ap₂ (with_residuals (count_in residuals)) (the-model-has-a-sum average).1 (residuals-summed ∙ ap (stream.summed false) reads)

  -- where their stream is refused, so is the sum, in either form: the same fault, its value and place counted in that stream
  pub sum-says-where : (average : Bool) (f : Fault) → values_in (stream_bytes residuals) (count_in residuals) (On (given ends).1) ≡ refused f → sum_answer average model ts ends residuals ≡ refused f
  sum-says-where average f broken =
      sym (summed-with average) ∙ ap₂ (with_residuals (count_in residuals)) (the-model-has-a-sum average).1 (residuals-summed ∙ ap (stream.summed false) broken)
