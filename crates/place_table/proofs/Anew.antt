-- A table that is made anew: a stream gone through to note its entries, 64 values at a time; and what a rescue finds, as the table's words speak of it.
-- Assumes nothing.
use mathlib.Core.Path.{◌≡◌, refl, sym, ap, ap₂, ◌∙◌}
use Rattle.std.specs.Prelude.{Result, Ok, Err, IsOk}
use mathlib.Core.Bool.{Bool}
use mathlib.Core.List.{List, [], ◌∷◌}
use Prim.Native.Nat.{ℕ, ◌+◌, ◌/◌, ◌≤◌, ◌<◌}
use native.Mathlib.Omega.{arith}
use lib.ListN.{length}
use Rattle.bits.specs.Bits.{bits_of}
use Rattle.models.specs.Limits.{most_values}
use Rattle.models.specs.declared.Refusal.{Refusal}
use Rattle.models.proofs.Tests.{never}
use Rattle.stream.specs.Format.{Stream, bare}
use Rattle.stream.specs.Read.{Reading, done, stopped, read_n, Reopened, reopened, state_read}
use Rattle.stream.specs.Rescue.{read_whole}
use Rattle.stream.proofs.Rescue.{ArrivedOf, arrived}
use Rattle.places.specs.Table.{spacing, Entry, entries_for, entries_in}
use Rattle.places.specs.Calls.{entries_lent, laid_entries}
use Rattle.places.specs.Rescue.{table_anew}
use Rattle.places.proofs.Words.{laid_none, laid_more, laid-length}
use Rattle.macaque_v.specs.State.{Known, mode_of, stream_in, is_first, opening_value, opened}
use Rattle.macaque_v.specs.Read.{start_of}
use Rattle.macaque_v.specs.ReadRun.{state_at, ahead}
use Rattle.macaque_v.specs.Inner.ReadRun.{read_from, Reads, StopsBy, FillSays, ReadableAt, known_in}
use Rattle.macaque_v.specs.Inner.Read.{rescuing, state_with, OpensAs}
use Rattle.macaque_v.specs.declared.Opening.{Opening}
use Rattle.macaque_v.specs.declared.read_run.Cursor.{Cursor}
use Rattle.macaque_v.specs.declared.read_run.Tally.{Tally}
use Rattle.macaque_v.proofs.ReadingRun.{then-stops}
use Rattle.macaque_v.proofs.ReadingAll.{stops-known}
use Rattle.place_table.specs.Inner.Range.{here_of}
use Rattle.place_table.specs.Inner.Rescue.{own_entries, ReadsFirst, FoundIn, noted_found}
use Rattle.place_table.proofs.Comparing.{Gone, gone-start, gone-number, entry-number, gone-more, gone-entries, Opens, own-entries}

-- ---- the loop: n values were read from the start, and the words, which were `old`, have the entries before them

pub record Noted (first : Bool) (bytes : List ℕ) (from : Cursor) (count n : ℕ) (at : Cursor) (old words : List ℕ) : Type 0 where
  pub gone : Gone first bytes from count n at
  pub table : words ≡ laid_entries old 0 (entries_in (bare (mode_of first)) n (state_at from) (ahead bytes from))
  pub long : length words ≡ length old

module _ (first : Bool) (bytes : List ℕ) (from : Cursor) (zero-count : from.count ≡ 0) (opens-from : Opens first from) (count : ℕ) (old : List ℕ)
    (room : entries_for count ≤ entries_lent (length old)) where
  pub noted-start : ReadableAt bytes from → Noted first bytes from count 0 from old old
  unfolding entries_in
  noted-start h = record { gone = gone-start first bytes from zero-count opens-from count h; table = sym (laid_none old 0); long = refl }

  module _ (n : ℕ) (at : Cursor) (words : List ℕ) (N : Noted first bytes from count n at old words) (more : n < count) where
    which : at.count / spacing ≡ entries_for n
    which = entry-number first bytes from zero-count opens-from count n at N.gone more

    -- the entry for where reading stands has its place in the table
    pub noted-fits : at.count / spacing < entries_lent (length words)
    noted-fits = omega (arith, which, room, N.long, N.gone.on_entry more)

    pub noted_more : (k : ℕ) (vs : List ℕ) (to : Cursor) → 0 < k → k ≤ spacing → n + k ≤ count → (n + k < count → k ≡ spacing) → Reads first bytes at k vs to
        → (now : List ℕ) → now ≡ laid_entries words (at.count / spacing) (here_of at ∷ []) → Noted first bytes from count (n + k) to old now
    noted_more k vs to lo hi le full R now e =
        let es : List Entry = entries_in (bare (mode_of first)) n (state_at from) (ahead bytes from) in
        let number : length es ≡ entries_for n = gone-number first bytes from zero-count opens-from count n at N.gone in
        let behind : at.count / spacing ≡ 0 + length es = omega (arith, which, number) in
        record {
          gone = gone-more first bytes from zero-count opens-from count n at N.gone more k vs to lo hi le full R;
          table =
              e ∙ ap₂ (λ (z : List ℕ) (i : ℕ). laid_entries z i (here_of at ∷ [])) N.table behind ∙ laid_more old 0 es (omega arith) (here_of at ∷ [])
              ∙ ap (laid_entries old 0) (sym (gone-entries first bytes from zero-count opens-from count n at N.gone more k vs to lo hi le full R));
          long = ap length e ∙ laid-length words (at.count / spacing) (here_of at ∷ []) (omega (arith, noted-fits)) ∙ N.long;
        }

module _ (bytes : List ℕ) (o : Opening) (count : ℕ) where
  -- behind all values the words have the entries of them all
  pub noted-all : (at : Cursor) (old words : List ℕ) → Noted (is_first o) bytes (start_of o) count count at old words → words ≡ laid_entries old 0 (own_entries bytes o count)
  noted-all at old words N = N.table ∙ ap (laid_entries old 0) (own-entries bytes o count old)

  -- reading does not stop among values that are there
  never-stops : ReadsFirst bytes o count → (n k : ℕ) (at : Cursor) → Gone (is_first o) bytes (start_of o) count n at → n + k ≤ count
      → (r : Refusal) → StopsBy (read_from (is_first o) bytes at k) r → ⊥
  never-stops there n k at G le r s =
      let stops = stops-known bytes o count (then-stops (is_first o) bytes G.reads k s count le) in
      let reads = there.reads in
      never (cc stops.stops)

  pub not-stopped : ReadsFirst bytes o count → (n k : ℕ) (at : Cursor) → Gone (is_first o) bytes (start_of o) count n at → n + k ≤ count
      → (old new : List ℕ) (q : Result Cursor Refusal) → FillSays (is_first o) bytes at k old new q → IsOk q
  not-stopped there n k at G le old new (Ok to) says = refl
  not-stopped there n k at G le old new (Err r) says = absurd (never-stops there n k at G le r says)

-- ---- what a rescue finds

-- the values are there, and there is room for their entries
pub found_in : (bytes : List ℕ) (o : Opening) (limit : ℕ) (words : List ℕ) (w : Result (Cursor × Tally) Refusal) → limit ≤ most_values → entries_for limit ≤ entries_lent (length words)
    → OpensAs (rescuing bytes limit o) bytes w → FoundIn bytes o words w
found_in bytes o limit words (Err r) most room h = tt
found_in bytes o limit words (Ok (at, t)) most room h = go (read_whole S limit (opened o) bits) (arrived S limit (opened o) bits) h.0
  where
    S : Stream Known
    S = stream_in (is_first o)

    bits : List Bool
    bits = bits_of bytes

    go : (q : Reading Known) → ArrivedOf S limit (opened o) bits q → state_read q ≡ reopened (state_with at (known_in t))
        → ReadsFirst bytes o at.count × (at.count ≤ most_values) × (entries_for at.count ≤ entries_lent (length words))
    go (stopped f) d i = absurd (never (cc))
    go (done vs u r) a i =
        let same : u.count ≡ at.count = counted i in
        let number : at.count ≡ length vs = omega (arith, a.counts) in
        (record { values = vs; state = u; rest = r; reads = ap (λ (n : ℕ). read_n S n (opened o) bits) number ∙ a.reads }, omega (arith, a.few), omega (arith, a.few))
      where
        counted : ◌≡◌ {A = Reopened Known} (reopened u) (reopened (state_with at (known_in t))) → u.count ≡ at.count
        counted e = cc

-- and they are the table that the call leaves
pub noted-anew : (bytes : List ℕ) (o : Opening) (words : List ℕ) (q : Reopened Known) (w : Result (Cursor × Tally) Refusal) → OpensAs q bytes w
    → noted_found bytes o words w ≡ table_anew (stream_in (is_first o)) (opening_value o) bytes words q
noted-anew bytes o words q (Ok (at, t)) h = sym (ap (table_anew (stream_in (is_first o)) (opening_value o) bytes words) h.0)
noted-anew bytes o words q (Err r) u = sym (ap (table_anew (stream_in (is_first o)) (opening_value o) bytes words) u.opens)
