-- A stream gone through beside its table, 64 values at a time: what is known behind the first values, and how the next ones go. Assumes nothing.
use mathlib.Core.Path.{◌≡◌, refl, sym, ap, ap₂, ◌∙◌, subst}
use mathlib.Core.Bool.{Bool, true, ◌&&◌, cond}
use mathlib.Core.List.{List, [], ◌∷◌, ◌++◌}
use Prim.Native.Nat.{ℕ, zero, suc, ◌+◌, ◌/◌, ◌%◌, ◌≤◌, ◌<◌}
use native.Mathlib.Omega.{arith}
use lib.ListN.{length, length-append}
use Rattle.bits.specs.Bits.{bits_of}
use Rattle.models.specs.Answers.{Said, Done, answered, refused}
use Rattle.models.specs.Refusals.{fault_of}
use Rattle.models.specs.declared.Refusal.{Refusal}
use Rattle.stream.specs.Format.{Stream, State, bare, window_in}
use Rattle.stream.specs.Read.{Reading, done, stopped, read_n, read_all}
use Rattle.stream.specs.Calls.{values_read}
use Rattle.places.specs.Table.{spacing, Entry, last_before, entry_of, entries_for, entries_in, same_entry, same_entries, no_match, matched}
use Rattle.places.specs.Calls.{entry_at, table_in}
use Rattle.places.proofs.Entries.{noted_one, Entered, EnteredIn, entered, entries-any}
use Rattle.places.proofs.Range.{not-raw}
use Rattle.places.proofs.Steps.{same_more}
use Rattle.places.proofs.Words.{table-length}
use Rattle.macaque_v.specs.State.{gather_known, mode_of, stream_in, is_first, opened}
use Rattle.macaque_v.specs.Read.{values_in, start_of}
use Rattle.macaque_v.specs.ReadRun.{state_at, ahead, end_said}
use Rattle.macaque_v.specs.Inner.ReadRun.{read_from, Reads, StopsBy, ReadableAt}
use Rattle.macaque_v.specs.declared.Opening.{Opening}
use Rattle.macaque_v.specs.declared.Opening.TheVariants.{First, On}
use Rattle.macaque_v.specs.declared.read_run.Cursor.{Cursor}
use Rattle.macaque_v.proofs.ReadingRun.{reads_none, reads_then, then-stops}
use Rattle.macaque_v.proofs.ReadingEnd.{ends-early, ends-wrong}
use Rattle.macaque_v.proofs.ReadingAll.{values-right, values-wrong}
use Rattle.place_table.specs.Inner.Range.{here_of, compared}

-- ---- one entry

nothing : {X : Type 0} (xs : List X) → length xs ≡ 0 → xs ≡ []
nothing [] e = refl
nothing (x ∷ xs) e = absurd (omega (arith, e))

-- up to 64 values that begin at a multiple of 64 have the entry before the first of them, and no other
one_entry : {A : Type 0} (S : Stream A) (k : ℕ) (s : State A) (bs : List Bool) (vs : List ℕ) (t : State A) (r : List Bool) → read_n S k s bs ≡ done vs t r
    → s.count % spacing ≡ 0 → 0 < k → k ≤ spacing → entries_in S k s bs ≡ entry_of S s ∷ []
unfolding entries_in
one_entry S zero s bs vs t r h m lo hi = absurd (omega (arith, lo))
one_entry S (suc k) s bs vs t r h m lo hi =
    let E : Entered S (suc k) s bs t r = subst (EnteredIn S (suc k) s bs) h (entered S (suc k) s bs) in
    let rest : List Entry = _ in
    let parts : entries_in S (suc k) s bs ≡ (entry_of S s ∷ []) ++ rest = ap (λ (z : List Entry). z ++ rest) (noted_one S s m) in
    let long : length rest ≡ 0 = omega (arith, E.number, E.counted, ap length parts, length-append (entry_of S s ∷ []) rest) in
    parts ∙ ap (λ (z : List Entry). (entry_of S s ∷ []) ++ z) (nothing rest long)

-- ---- the loop

-- n values were read from the start, and reading stands before an entry or behind all values
pub record Gone (first : Bool) (bytes : List ℕ) (from : Cursor) (count n : ℕ) (at : Cursor) : Type 0 where
  pub values : List ℕ
  pub reads : Reads first bytes from n values at
  pub few : n ≤ count
  pub on_entry : n < count → n % spacing ≡ 0

-- and the entries before them were compared
pub record Along (first : Bool) (bytes : List ℕ) (from : Cursor) (table : List ℕ) (count n : ℕ) (at : Cursor) (same : Bool) : Type 0 where
  pub gone : Gone first bytes from count n at
  pub is : same ≡ same_entries (table_in table (entries_for n)) (entries_in (bare (mode_of first)) n (state_at from) (ahead bytes from))

-- a cursor from which a stream is read holds 0 as last value where the next one is raw
abbrev pub Opens : Bool → Cursor → Type 0
Opens first at = last_before (bare (mode_of first)) (state_at at) ≡ at.last

pub opens : (o : Opening) → Opens (is_first o) (start_of o)
opens First = refl
opens (On v) = refl

-- so does one behind some values, where none is raw any more
pub opens_still : (first : Bool) (bytes : List ℕ) (from : Cursor) (n : ℕ) (vs : List ℕ) (at : Cursor) → from.count ≡ 0 → Opens first from → Reads first bytes from n vs at → Opens first at
unfolding read_n
opens_still first bytes from zero vs at z o R =
    let is : state_at from ≡ state_at at = same R.values in
    sym (ap (last_before (bare (mode_of first))) is) ∙ o ∙ ap (λ (s : State Unit). s.last) is
  where
    same : done [] (state_at from) (ahead bytes from) ≡ done vs (state_at at) (ahead bytes at) → state_at from ≡ state_at at
    same e = cc
opens_still first bytes from (suc n) vs at z o R = ap (λ (b : Bool). cond b 0 at.last) (not-raw (mode_of first) at.count (omega (arith, R.counted)))

module _ (first : Bool) (bytes : List ℕ) (from : Cursor) (zero-count : from.count ≡ 0) (opens-from : Opens first from) (count : ℕ) where
  pub gone-start : ReadableAt bytes from → Gone first bytes from count 0 from
  gone-start h = record { values = []; reads = reads_none first bytes from h; few = omega arith; on_entry = λ e. refl }

  module _ (n : ℕ) (at : Cursor) (G : Gone first bytes from count n at) where
    abbrev here : List Entry
    here = entries_in (bare (mode_of first)) n (state_at from) (ahead bytes from)

    counted : at.count ≡ n
    counted = omega (arith, G.reads.counted)

    -- how many entries they have
    pub gone-number : length here ≡ entries_for n
    gone-number =
        let S : Stream Unit = bare (mode_of first) in
        let E : Entered S n (state_at from) (ahead bytes from) (state_at at) (ahead bytes at) = subst (EnteredIn S n (state_at from) (ahead bytes from)) G.reads.values (entered S n (state_at from) (ahead bytes from)) in
        omega (arith, E.number, zero-count, counted)

    module _ (more : n < count) where
      -- the number of the entry for where reading stands
      pub entry-number : at.count / spacing ≡ entries_for n
      entry-number = omega (arith, counted, G.on_entry more)

      -- up to 64 values more
      module _ (k : ℕ) (vs : List ℕ) (to : Cursor) (lo : 0 < k) (hi : k ≤ spacing) (le : n + k ≤ count) (full : n + k < count → k ≡ spacing) (R : Reads first bytes at k vs to) where
        pub gone-more : Gone first bytes from count (n + k) to
        gone-more = record { values = G.values ++ vs; reads = reads_then first bytes G.reads R; few = le; on_entry = λ lt. omega (arith, G.on_entry more, full lt) }

        -- they have one entry, that of where reading stood
        pub gone-entries : entries_in (bare (mode_of first)) (n + k) (state_at from) (ahead bytes from) ≡ here ++ (here_of at ∷ [])
        gone-entries =
            let S : Stream Unit = bare (mode_of first) in
            let E : Entered S n (state_at from) (ahead bytes from) (state_at at) (ahead bytes at) = subst (EnteredIn S n (state_at from) (ahead bytes from)) G.reads.values (entered S n (state_at from) (ahead bytes from)) in
            let last : last_before S (state_at at) ≡ at.last = opens_still first bytes from n G.values at zero-count opens-from G.reads in
            let plain : entry_of S (state_at at) ≡ here_of at = λ i. record { place = at.place; last = last i; win = window_in at.lead at.trail } in
            E.onward k ∙ ap (λ (z : List Entry). here ++ z) (one_entry S k (state_at at) (ahead bytes at) vs (state_at to) (ahead bytes to) R.values (ap (λ (m : ℕ). m % spacing) counted ∙ G.on_entry more) lo hi
            ∙ ap (λ (x : Entry). x ∷ []) plain)

        pub one-more-entry : entries_for (n + k) ≡ suc (entries_for n)
        one-more-entry = omega (arith, G.on_entry more, lo, hi)

  -- ---- beside its table

  module _ (table : List ℕ) where
    pub along-start : ReadableAt bytes from → Along first bytes from table count 0 from true
    unfolding entries_in table_in
    along-start h = record { gone = gone-start h; is = refl }

    pub along-more : (n : ℕ) (at : Cursor) (same : Bool) (L : Along first bytes from table count n at same) (more : n < count)
        → (k : ℕ) (vs : List ℕ) (to : Cursor) → 0 < k → k ≤ spacing → n + k ≤ count → (n + k < count → k ≡ spacing)
        → Reads first bytes at k vs to → (said : Bool) → said ≡ same_entry (entry_at table (at.count / spacing)) (here_of at)
        → Along first bytes from table count (n + k) to (same && said)
    unfolding table_in
    along-more n at same L more k vs to lo hi le full R said e =
        let G = L.gone in
        let es : List Entry = here n at G in
        record {
          gone = gone-more n at G more k vs to lo hi le full R;
          is =
              ap₂ (λ (x y : Bool). x && y) L.is (e ∙ ap (λ (i : ℕ). same_entry (entry_at table i) (here_of at)) (entry-number n at G more))
              ∙ sym (same_more (table_in table (entries_for n)) es (entry_at table (entries_for n)) (here_of at) (table-length table (entries_for n) ∙ sym (gone-number n at G)))
              ∙ ap₂ (λ (x y : List Entry). same_entries x y) (sym (ap (table_in table) (one-more-entry n at G more k vs to lo hi le full R))) (sym (gone-entries n at G more k vs to lo hi le full R));
        }

-- ---- what the check says

-- by the values that are read
abbrev by_values : Bool → Said (List ℕ) → Said Done
by_values same (answered vs) = cond same (answered tt) no_match
by_values same (refused f) = refused f

by_values_lem : {A : Type 0} (same : Bool) (q : Reading A) → matched same q ≡ by_values same (values_read q)
by_values_lem same (done vs t r) = refl
by_values_lem same (stopped f) = refl

module _ (bytes : List ℕ) (o : Opening) (count : ℕ) (table : List ℕ) where
  -- the entries do not depend on what is gathered
  pub own-entries : entries_in (bare (mode_of (is_first o))) count (state_at (start_of o)) (bits_of bytes) ≡ entries_in (stream_in (is_first o)) count (opened o) (bits_of bytes)
  own-entries = entries-any (bare (mode_of (is_first o))) gather_known count (state_at (start_of o)) gather_known.none (bits_of bytes)

  said-by : (q : Said (List ℕ)) → values_in bytes count o ≡ q
      → compared bytes count o table ≡ by_values (same_entries (table_in table (entries_for count)) (entries_in (bare (mode_of (is_first o))) count (state_at (start_of o)) (bits_of bytes))) q
  said-by q e =
      by_values_lem (same_entries (table_in table (entries_for count)) (entries_in (stream_in (is_first o)) count (opened o) (bits_of bytes))) (read_all (stream_in (is_first o)) count (opened o) (bits_of bytes))
      ∙ ap₂ (λ (es : List Entry) (v : Said (List ℕ)). by_values (same_entries (table_in table (entries_for count)) es) v) (sym own-entries) e

  -- the stream stops on the way
  pub stops-early : (n k : ℕ) (at : Cursor) (same : Bool) → Along (is_first o) bytes (start_of o) table count n at same → n + k ≤ count → (r : Refusal) → StopsBy (read_from (is_first o) bytes at k) r
      → refused (fault_of r) ≡ compared bytes count o table
  stops-early n k at same L le r s =
      sym (said-by (refused (fault_of r)) (values-wrong bytes o count r (ends-early (then-stops (is_first o) bytes L.gone.reads k s count le))))

  module _ (at : Cursor) (same : Bool) (L : Along (is_first o) bytes (start_of o) table count count at same) where
    -- something follows its last value
    pub stops-late : (r : Refusal) → refused (fault_of r) ≡ end_said bytes at → refused (fault_of r) ≡ compared bytes count o table
    stops-late r e = sym (said-by (refused (fault_of r)) (values-wrong bytes o count r (ends-wrong L.gone.reads e)))

    -- it is accepted, and the entries decide
    pub decides : end_said bytes at ≡ answered tt → cond same (answered tt) no_match ≡ compared bytes count o table
    decides e = ap (λ (b : Bool). cond b (answered tt) no_match) L.is ∙ sym (said-by (answered L.gone.values) (values-right bytes o L.gone.reads e))
