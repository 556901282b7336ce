-- Reading behind an entry: values that are passed over, those behind them, and what that makes of a range. Assumes nothing.
use mathlib.Core.Path.{◌≡◌, refl, sym, ap, ap₂, ◌∙◌, subst}
use mathlib.Core.Logic.{◌⊎◌, inl, inr}
use mathlib.Core.Bool.{Bool, true, false, ◌&&◌, false≢true}
use mathlib.Core.List.{List}
use mathlib.Core.Option.{some}
use Prim.Native.Nat.{ℕ, ◌+◌, ◌-◌, ◌*◌, ◌%◌, ◌^◌, ◌≤◌, ◌<◌}
use native.Mathlib.Nat.{min-le_left, min-le_right, mod-eq_of_lt}
use native.Mathlib.Omega.{arith}
use borrow.Author.Tests.{ltb-true, ltb-false, lt-ltb, leb-true, le-leb, not-false}
use lib.Dec.{ltb, leb}
use lib.ListN.{length, drop, get_elem?}
use lib.Seq.{drop_at}
use Rattle.bits.specs.Bits.{bits_of}
use Rattle.bits.proofs.Bytes.{length-bits_of}
use Rattle.models.specs.Answers.{answered, refused, NoneHolds}
use Rattle.models.specs.Limits.{most_values}
use Rattle.models.specs.Refusals.{fault_of}
use Rattle.models.specs.declared.Refusal.{Refusal}
use Rattle.models.proofs.Tests.{and_parts, and_both, and-past, or-either, neither}
use Rattle.stream.specs.Format.{macaque, unset, Stream, bare, is_opening, leaves_a_bit}
use Rattle.stream.specs.Read.{Reading, done, stopped, read_n}
use Rattle.stream.specs.Calls.{lent_bytes, fault_at, values_read}
use Rattle.places.specs.Table.{spacing, Entry, entry_before, reads_from, reads_in_all, state_from, may_start, without, read_range}
use Rattle.places.specs.Calls.{entries_lent, entry_at, table_in}
use Rattle.stream.proofs.Formats.{macaque-good, Framed}
use Rattle.stream.proofs.Rule.{opening-says, framed-says}
use Rattle.stream.proofs.Reading.{prepend, then_read, read-then}
use Rattle.stream.proofs.Gathered.{Alike, read-any}
use Rattle.places.proofs.Any.{range-reads}
use Rattle.places.proofs.Words.{entry-in-use, no-entry-in-use}
use Rattle.coding.specs.Inner.Ahead.{WindowSound}
use Rattle.macaque_v.specs.State.{gather_known, mode_of, stream_in}
use Rattle.macaque_v.specs.ReadRun.{state_at, ahead}
use Rattle.macaque_v.specs.Inner.ReadRun.{read_from, Reads, StopsBy, ReadableAt}
use Rattle.macaque_v.specs.Inner.Read.{values_from}
use Rattle.macaque_v.specs.declared.read_run.Cursor.{Cursor}
use Rattle.macaque_v.proofs.ReadingRun.{reads_none, then-stops}
use Rattle.place_table.specs.Calls.{range_causes}
use Rattle.place_table.specs.Inner.Range.{cursor_of, cursor_in, values_behind}

-- ---- values that are passed over

without-first : {A : Type 0} (us : List ℕ) (k : ℕ) (q : Reading A) → length us ≡ k → without k (prepend us q) ≡ values_read q
without-first us k (done vs t r) e = ap answered (drop_at us vs k e)
without-first us k (stopped f) e = refl

module _ (first : Bool) (bytes : List ℕ) (at : Cursor) (skipped n : ℕ) where
  pub behind-wrong : (r : Refusal) → ReadableAt bytes at → StopsBy (read_from first bytes at skipped) r → values_behind first bytes at skipped n ≡ refused (fault_of r)
  behind-wrong r h s =
      let t = then-stops first bytes (reads_none first bytes at h) skipped s (skipped + n) (omega arith) in
      ap (without skipped) t.stops ∙ ap refused t.numbered

  pub behind-right : {us : List ℕ} {to : Cursor} → Reads first bytes at skipped us to → values_behind first bytes at skipped n ≡ values_from false first bytes to n
  behind-right {us} {to} R =
      let S : Stream Unit = bare (mode_of first) in
      ap (without skipped) (read-then S skipped n (state_at at) (ahead bytes at) ∙ ap (then_read S n) R.values)
      ∙ without-first us skipped (read_from first bytes to n) R.long

-- ---- from an entry

-- what is gathered has no part in the values
without-any : {A B : Type 0} (S : Stream A) (k : ℕ) (p : Reading A) (q : Reading B) (G : _) → Alike S G p q → without k p ≡ without k q
without-any S k (done vs s r) (done us t b) G e = ap (λ (z : List ℕ). answered (drop k z)) e.0
without-any S k (done vs s r) (stopped f) G e = absurd e
without-any S k (stopped f) (done us t b) G e = absurd e
without-any S k (stopped f) (stopped g) G e = ap (λ (h : _). refused (fault_at h)) e

-- an entry that a range may start from, of those in use
pub record Starts (bytes : List ℕ) (words : List ℕ) (entries i : ℕ) : Type 0 where
  pub used : i < entries
  pub cursor : cursor_in words i ≡ cursor_of i (entry_at words i)
  pub readable : ReadableAt bytes (cursor_in words i)
  pub may : may_start macaque (length (bits_of bytes)) (some (entry_at words i)) ≡ true

module _ (bytes words : List ℕ) (entries i : ℕ) where
  abbrev e : Entry
  e = entry_at words i

  in_use : may_start macaque (8 * lent_bytes (length bytes)) (get_elem? (table_in words entries) i) ≡ true → i < entries
  in_use h = go (ltb i entries) refl
    where
      go : (t : Bool) → ltb i entries ≡ t → i < entries
      go true lt = ltb-true i entries lt
      go false ge = absurd (false≢true (sym (ap (may_start macaque (8 * lent_bytes (length bytes))) (no-entry-in-use words entries i (ltb-false i entries ge))) ∙ h))

  pub starts : may_start macaque (8 * lent_bytes (length bytes)) (get_elem? (table_in words entries) i) ≡ true → Starts bytes words entries i
  starts h =
      let lt : i < entries = in_use h in
      let m = sym (ap (may_start macaque (8 * lent_bytes (length bytes))) (entry-in-use words entries i lt)) ∙ h in
      let a = and_parts (ltb e.last (2 ^ 32)) (leb e.place (8 * lent_bytes (length bytes)) && _) m in
      let b = and_parts (leb e.place (8 * lent_bytes (length bytes))) _ a.1 in
      let small : e.last < 2 ^ 32 = ltb-true e.last (2 ^ 32) a.0 in
      let place : e.place ≤ 8 * lent_bytes (length bytes) = leb-true e.place (8 * lent_bytes (length bytes)) b.0 in
      let w : (e.win.lead < 2 ^ 32) × (e.win.trail < 2 ^ 32) × WindowSound e.win.lead e.win.trail = window (or-either (is_opening e.win) (leaves_a_bit macaque e.win) b.1) in
      let last' : e.last % 2 ^ 32 ≡ e.last = mod-eq_of_lt small in
      let lead' : e.win.lead % 2 ^ 32 ≡ e.win.lead = mod-eq_of_lt w.0 in
      let trail' : e.win.trail % 2 ^ 32 ≡ e.win.trail = mod-eq_of_lt w.1 in
      let cursor : cursor_in words i ≡ cursor_of i e = λ j. record { last = last' j; lead = lead' j; trail = trail' j; place = e.place; count = spacing * i } in
      record {
        used = lt;
        cursor = cursor;
        readable =
            subst (ReadableAt bytes) (sym cursor)
            (record {
              within = omega (arith, place, min-le_left (length bytes) (2 ^ 60));
              near = omega (arith, place, min-le_right (length bytes) (2 ^ 60));
              small = small;
              held = w.2;
            });
        may =
            and_both (ltb e.last (2 ^ 32)) _ a.0
            (and_both (leb e.place (length (bits_of bytes))) _ (le-leb e.place (length (bits_of bytes)) (omega (arith, place, min-le_left (length bytes) (2 ^ 60), length-bits_of bytes))) b.1);
      }
    where
      window : (is_opening e.win ≡ true) ⊎ (leaves_a_bit macaque e.win ≡ true) → (e.win.lead < 2 ^ 32) × (e.win.trail < 2 ^ 32) × WindowSound e.win.lead e.win.trail
      window (inl o) =
          let is = opening-says e.win o in
          let lead : e.win.lead ≡ 255 = ap (λ (w : _). w.lead) is in
          let trail : e.win.trail ≡ 0 = ap (λ (w : _). w.trail) is in
          (omega arith, omega arith, λ set. absurd (false≢true (sym set ∙ ap unset is)))
      window (inr l) =
          let f : Framed macaque e.win = framed-says macaque macaque-good e.win l in
          (omega (arith, f.some), omega (arith, f.some), λ set. f.some)

-- the range that begins there is what is read behind it
pub range-behind : (first : Bool) (bytes words : List ℕ) (entries p q : ℕ) → p < q → Starts bytes words entries (entry_before p)
    → read_range (stream_in first) (bits_of bytes) (table_in words entries) p q ≡ values_behind first bytes (cursor_in words (entry_before p)) (p % spacing) (q - p)
range-behind first bytes words entries p q lt T =
    let e : Entry = entry_at words (entry_before p) in
    let over : p - reads_from p ≡ p % spacing = omega arith in
    let all : reads_in_all p q ≡ p % spacing + (q - p) = omega (arith, lt) in
    let B : Stream Unit = bare (mode_of first) in
    let rest : List Bool = drop e.place (bits_of bytes) in
    range-reads (stream_in first) (bits_of bytes) (table_in words entries) p q lt e (entry-in-use words entries (entry_before p) T.used) T.may
    ∙ ap₂ (λ (k n : ℕ). without k (read_n (stream_in first) n (state_from (stream_in first) (reads_from p) e) rest)) over all
    ∙ sym (without-any B (p % spacing) (read_n B (p % spacing + (q - p)) (state_at (cursor_of (entry_before p) e)) rest) (read_n (stream_in first) (p % spacing + (q - p)) (state_from (stream_in first) (reads_from p) e) rest) gather_known
    (read-any B gather_known (p % spacing + (q - p)) (state_at (cursor_of (entry_before p) e)) gather_known.none rest))
    ∙ ap (λ (c : Cursor). values_behind first bytes c (p % spacing) (q - p)) (sym T.cursor)

-- ---- where no cause holds

module _ (bytes words : List ℕ) (count entries p q room : ℕ) (free : NoneHolds (range_causes (length bytes) count words entries p q room)) where
  pub in_order : (p ≤ q) × (q ≤ count) × (count ≤ most_values)
  in_order =
      let n = neither (ltb q p) _ free.1.0 in
      let m = neither (ltb count q) _ n.1 in
      (ltb-false q p n.0, ltb-false count q m.0, ltb-false most_values count free.0)

  module _ (lt : p < q) where
    pub lent : entries ≤ entries_lent (length words)
    lent =
        let n = neither (ltb q p) _ free.1.0 in
        let m = neither (ltb count q) _ n.1 in
        ltb-false (entries_lent (length words)) entries (and-past (ltb p q) _ (lt-ltb p q lt) m.1)

    pub may-begin : Starts bytes words entries (entry_before p)
    may-begin = starts bytes words entries (entry_before p) (not-false _ (and-past (ltb p q) _ (lt-ltb p q lt) free.1.1.0))

  pub fits : q - p ≤ room
  fits = ltb-false room (q - p) free.1.1.1.0
