-- What is taken in over some values and then more, and on the way through a stream. Assumes nothing.
use mathlib.Core.Path.{◌≡◌, refl, sym, ap, ap₂, ◌∙◌}
use mathlib.Core.Bool.{Bool, true, false}
use mathlib.Core.List.{List, [], ◌∷◌, ◌++◌}
use Prim.Native.Nat.{ℕ, suc, ◌+◌, ◌-◌, ◌<◌}
use native.Mathlib.Nat.{add-zero}
use native.Mathlib.Numerals.{add-one}
use native.Mathlib.Omega.{arith}
use lib.ListN.{length, take, get_or}
use Rattle.std.specs.Prelude.{Some, None, slice_get}
use Rattle.std.proofs.lemmas.Option.{slice_get-get_or}
use lib.Seq.{take-suc, length-take-le}
use lib.Ieee.{Float, binary32, add, of_bits}
use Rattle.stream.specs.Format.{Gather, Mode, gathered, raw_next, gather_from}
use Rattle.macaque_v.specs.State.{MinMax, min_max_with, gather_min_max, gather_sum, gather_known, mode_of}
use Rattle.macaque_v.specs.Inner.Total.{added_to}
use Rattle.macaque_v.specs.Inner.ReadRun.{ReadableAt, Reads, known_in, tally_of, fresh_tally, with_sum, tallied, Walked}
use Rattle.macaque_v.specs.declared.read_run.Aim.{Aim}
use Rattle.macaque_v.specs.declared.read_run.Aim.TheVariants as OfAim
use Rattle.macaque_v.specs.declared.read_run.Tally.{Tally}
use Rattle.macaque_v.specs.declared.read_run.Cursor.{Cursor}
use Rattle.macaque_v.proofs.Adding.{one-more-added}
use Rattle.stream.proofs.Writing.{raw-once}
use Rattle.macaque_v.proofs.ReadingRun.{reads_none, reads_then}

module _ {A : Type 0} (G : Gather A) (mode : Mode) where
  pub gather_append : (n : ℕ) (a : A) (us vs : List ℕ) → gather_from G mode n a (us ++ vs) ≡ gather_from G mode (n + length us) (gather_from G mode n a us) vs
  unfolding gather_from
  gather_append n a [] vs = ap (λ (m : ℕ). gather_from G mode m a vs) (sym (add-zero n))
  gather_append n a (u ∷ us) vs =
      let e : suc n + length us ≡ n + suc (length us) = omega arith in
      let b : A = gathered G (raw_next mode n) a u in
      gather_append (suc n) b us vs ∙ ap (λ (m : ℕ). gather_from G mode m (gather_from G mode (suc n) b us) vs) e

  pub gather-empty : (n : ℕ) (a : A) (vs : List ℕ) → length vs ≡ 0 → a ≡ gather_from G mode n a vs
  unfolding gather_from
  gather-empty n a [] e = refl
  gather-empty n a (v ∷ vs) e = absurd (omega arith)

  pub gather-more : (n : ℕ) (a : A) (vs : List ℕ) (i : ℕ) → i < length vs
      → gather_from G mode n a (take (i + 1) vs) ≡ gathered G (raw_next mode (n + i)) (gather_from G mode n a (take i vs)) (get_or vs i 0)
  unfolding gather_from
  gather-more n a vs i h =
      let long : length (take i vs) ≡ i = length-take-le i vs (omega arith) in
      let b : A = gather_from G mode n a (take i vs) in
      ap (gather_from G mode n a) (ap (λ (m : ℕ). take m vs) (add-one i) ∙ take-suc vs i 0 h)
      ∙ gather_append n a (take i vs) (get_or vs i 0 ∷ [])
      ∙ ap (λ (m : ℕ). gathered G (raw_next mode (n + m)) b (get_or vs i 0)) long

-- no last value: no value
pub no-last : (vs : List ℕ) → None ≡ slice_get vs (length vs - 1) → length vs ≡ 0
no-last [] e = refl
no-last (v ∷ vs) e =
    let there : None ≡ Some (get_or (v ∷ vs) (length (v ∷ vs) - 1) 0) = e ∙ slice_get-get_or (v ∷ vs) (length (v ∷ vs) - 1) 0 (omega arith) in
    absurd (cc)

-- a raw value enters the least and the greatest as any other
pub ends_more : (mode : Mode) (n : ℕ) (e : MinMax) (vs : List ℕ) (i : ℕ) → i < length vs
    → gather_from gather_min_max mode n e (take (i + 1) vs) ≡ min_max_with (gather_from gather_min_max mode n e (take i vs)) (get_or vs i 0)
ends_more mode n e vs i h = gather-more gather_min_max mode n e vs i h ∙ go (raw_next mode (n + i)) (gather_from gather_min_max mode n e (take i vs))
  where
    go : (raw : Bool) (b : MinMax) → gathered gather_min_max raw b (get_or vs i 0) ≡ min_max_with b (get_or vs i 0)
    go true b = refl
    go false b = refl

-- ---- a sum as a loop holds it: what the next value is added to

abbrev pub SumHeld : Mode → ℕ → Float → List ℕ → ℕ → Float → Type 0
SumHeld mode n s vs i total = total ≡ added_to (raw_next mode (n + i)) (gather_from gather_sum mode n s (take i vs))

pub sum-none : (mode : Mode) (n : ℕ) (s : Float) (vs : List ℕ) (raw : Bool) (total : Float) → raw ≡ raw_next mode n → total ≡ added_to raw s → SumHeld mode n s vs 0 total
unfolding gather_from
sum-none mode n s vs raw total same h = h ∙ ap (λ (b : Bool). added_to b s) (same ∙ ap (raw_next mode) (sym (add-zero n)))

pub sum_more : (mode : Mode) (n : ℕ) (s : Float) (vs : List ℕ) (i : ℕ) → i < length vs → (total : Float) → SumHeld mode n s vs i total
    → SumHeld mode n s vs (i + 1) (add binary32 total (of_bits binary32 (get_or vs i 0)))
sum_more mode n s vs i h total held =
    let next : suc (n + i) ≡ n + (i + 1) = omega arith in
    let now : Float = gather_from gather_sum mode n s (take (i + 1) vs) in
    ap (λ (x : Float). add binary32 x (of_bits binary32 (get_or vs i 0))) held
    ∙ one-more-added (raw_next mode (n + i)) (gather_from gather_sum mode n s (take i vs)) (get_or vs i 0)
    ∙ sym (gather-more gather_sum mode n s vs i h)
    ∙ ap (λ (b : Bool). added_to b now) (sym (raw-once mode (n + i)) ∙ ap (raw_next mode) next)

-- behind a value or more it is the sum
pub sum-held : (mode : Mode) (n : ℕ) (s : Float) (vs : List ℕ) (i : ℕ) (total : Float) → 0 < i → SumHeld mode n s vs i total → total ≡ gather_from gather_sum mode n s (take i vs)
sum-held mode n s vs i total some held =
    let behind : n + i ≡ suc (n + i - 1) = omega arith in
    held ∙ ap (λ (b : Bool). added_to b (gather_from gather_sum mode n s (take i vs))) (ap (raw_next mode) behind ∙ raw-once mode (n + i - 1))

pub tallied-append : (aim : Aim) (mode : Mode) (n : ℕ) (t : Tally) (us vs : List ℕ)
    → tallied aim mode n t (us ++ vs) ≡ tallied aim mode (n + length us) (tallied aim mode n t us) vs
tallied-append OfAim.Nothing mode n t us vs = refl
tallied-append OfAim.Sum mode n t us vs = ap (with_sum t) (gather_append gather_sum mode n t.sum us vs)
tallied-append OfAim.All mode n t us vs = ap tally_of (gather_append gather_known mode n (known_in t) us vs)

tallied-none : (aim : Aim) (mode : Mode) (n : ℕ) (t : Tally) → t ≡ tallied aim mode n t []
unfolding gather_from
tallied-none OfAim.Nothing mode n t = refl
tallied-none OfAim.Sum mode n t = refl
tallied-none OfAim.All mode n t = refl

-- ---- on the way through the values

module _ (first : Bool) (bytes : List ℕ) (from : Cursor) (aim : Aim) where
  pub walked_none : ReadableAt bytes from → Walked first bytes from 0 aim from fresh_tally
  walked_none s = record { values = []; reads = reads_none first bytes from s; tally = tallied-none aim (mode_of first) from.count fresh_tally }

  pub walked_more : (i k : ℕ) (at to : Cursor) (t u : Tally) (vs : List ℕ) → Walked first bytes from i aim at t → Reads first bytes at k vs to
      → u ≡ tallied aim (mode_of first) at.count t vs → Walked first bytes from (i + k) aim to u
  walked_more i k at to t u vs W R e =
      let long : at.count ≡ from.count + length W.values = omega (arith, W.reads.counted, W.reads.long) in
      record {
        values = W.values ++ vs;
        reads = reads_then first bytes W.reads R;
        tally =
            e ∙ ap₂ (λ (n : ℕ) (s : Tally). tallied aim (mode_of first) n s vs) long W.tally
            ∙ sym (tallied-append aim (mode_of first) from.count fresh_tally W.values vs);
      }
