-- The promises of the check of a place table and of the reading of a range, over any stream: what they answer, and what a range leaves of the output. And
-- any accepted stream with its own table, reopened and written on. Assumes nothing.
use mathlib.Core.Path.{◌≡◌, refl, sym, ap, ap₂, ◌∙◌, subst}
use mathlib.Core.Logic.{◌⊎◌, inl, inr}
use mathlib.Core.Bool.{Bool, true, false, not, cond, ◌&&◌, ◌||◌, false≢true}
use mathlib.Core.List.{List, [], ◌∷◌, ◌++◌}
use mathlib.Core.Option.{Option}
use mathlib.Core.Option as option
use Prim.Native.Nat.{ℕ, ◌+◌, ◌-◌, ◌*◌, ◌^◌, ◌≤◌, ◌<◌}
use native.Mathlib.Nat.{eq-or-lt_of_le, min-le_left, mul-le-mul_right}
use native.Mathlib.Omega.{arith}
use borrow.Author.Tests.{le-ltb, lt-ltb, le-leb, eq-eqb, ne_eqb, eqb-true, ltb-true, ltb-false, leb-true, leb-false, not-false}
use lib.Dec.{eqb, leb, ltb}
use lib.ListN.{length, take, drop, replicate, get_elem?, length-append, length-drop}
use lib.Seq.{drop_at}
use Rattle.bits.specs.Bits.{Below, bits_of, whole_bytes, padding}
use Rattle.bits.proofs.Bytes.{length-bits_of}
use Rattle.models.specs.declared.Fault.{Fault}
use Rattle.models.specs.Answers.{fault, Said, Done, answered, refused, answered_on, Cause, ◌when◌, judge, judged_memory, verdict, keeping, NoneHolds}
use Rattle.models.proofs.Judged.{none, not-refused, same_answer, answered-only, accepted-only}
use Rattle.models.proofs.Judged as judging
use Rattle.models.proofs.Tests.{and_parts, and_both, and-past, and-false, or-either, neither}
use Rattle.stream.proofs.Branches.{or_some}
use Rattle.stream.specs.Format.{Format, Stream, State, fresh, is_opening, leaves_a_bit, most_values}
use Rattle.stream.specs.Write.{kept, wrote, wrote_in}
use Rattle.stream.specs.Read.{StreamRefusal, Reading, done, stopped, read_n, read_all, Reopened, reopened, buffer_after}
use Rattle.stream.specs.Calls.{Coder, lent_bytes, fault_at, values_read, values_in, drawn, drawn_in, reopening, resumed, reopen_causes, reopen_answer, reopen_memory, write_answer}
use Rattle.stream.specs.Made.{state_over, Resumes, Resumed}
use Rattle.places.specs.Table.{spacing, Entry, entry_of, entries_for, entries_in, added, table_wrote, table_after, MadeBeside, no_match, Belongs, check_table, entry_before, reads_from, reads_in_all, may_start, state_from, without, range_at, read_range, RangeSays}
use Rattle.places.specs.Calls.{entries_lent, entry_at, table_in, MayStart, range_causes, check_causes, check_answer, range_read, range_answer, range_memory, Beside, table_write_answer, table_write_memory, table_write_table, table_reopen_answer, table_reopen_memory, MadeByBeside, OwnTable, OwnEntry, TableResumes, RangeAnswers}
use Rattle.stream.specs.Needs.{Good, longest, GoodCoder}
use Rattle.stream.proofs.Reopen.{ended-inv, any-opened}
use Rattle.stream.proofs.Made.{made-read}
use Rattle.stream.proofs.AnyStream.{any-resumed}
use Rattle.stream.proofs.Calls.{alike-after, as_long}
use Rattle.stream.proofs.Calls as calls
use Rattle.places.proofs.Entries.{asked-for, own-number, entry_read}
use Rattle.places.proofs.Words.{table-length, take-table, entry-in-use, no-entry-in-use, laid_table}
use Rattle.places.proofs.Check.{check-says, check-own, check-other, check-refused, made-own}
use Rattle.places.proofs.Any.{ReadsIn, reads_in, range-empty, range-reads, range-says}
use Rattle.places.proofs.Range.{right-range, right-entry-starts, own-entry-starts, checked-range}
use Rattle.places.proofs.Steps.{added-count}
use Rattle.places.proofs.Resume.{any-table-resumed}
use Rattle.places.proofs.Calls.{number-allowed, number-says}
use Rattle.places.proofs.Calls as tables

-- ---- the check

module _ {A : Type 0} (S : Stream A) (l : ℕ) (bytes : List ℕ) (count : ℕ) (words : List ℕ) (in_use : ℕ) where
  abbrev bits : List Bool
  bits = bits_of bytes

  -- a stream's own table has as many entries as its count asks for
  own-count : Belongs S count (fresh S l) bits (table_in words in_use) → in_use ≡ entries_for count
  own-count B =
      sym (table-length words in_use) ∙ ap length B.own
      ∙ own-number S l count bits B.values B.state B.rest (ended-inv (read_n S count (fresh S l) bits) B.values B.state B.rest B.reads)

  -- where nothing refuses the count and the number of entries
  by-the-table : count ≤ most_values → in_use ≤ entries_lent (length words) → in_use ≡ entries_for count
      → check_answer S l bytes count words in_use ≡ check_table S count (fresh S l) bits (table_in words in_use)
  by-the-table few lent number =
      sym (judging.accepted refused _ (check_causes count (length words) in_use) (le-ltb most_values count few, number-allowed (length words) in_use count lent number))

  -- it accepts a table exactly if the stream is accepted and the table is its own
  pub the-check-accepts-exactly-its-own-table : (check_answer S l bytes count words in_use ≡ answered tt → OwnTable S l bytes count words in_use)
      × (OwnTable S l bytes count words in_use → check_answer S l bytes count words in_use ≡ answered tt)
  the-check-accepts-exactly-its-own-table = (
    λ h.
        let a = answered-only (check_causes count (length words) in_use) (check_table S count (fresh S l) bits (table_in words in_use)) tt h in
        record {
          few = ltb-false most_values count a.0.0;
          lent = (number-says (length words) in_use count a.0.1).0;
          belongs = check-says S count (fresh S l) bits (table_in words in_use) a.1;
        },
    λ T.
        let B = T.belongs in
        by-the-table T.few T.lent (own-count B)
        ∙ check-own S count l bits B.values B.state B.rest B.reads (table_in words in_use) B.own,
  )

  -- by the number of values, of entries lent and of entries in use
  abbrev by_number : Bool → Bool → Bool → Said Done
  by_number x y b = judge refused (3 when x ∷ 12 when y ∷ 13 when not b ∷ []) (check_table S count (fresh S l) bits (table_in words in_use))

  few-and-lent : count ≤ most_values → in_use ≤ entries_lent (length words) → check_answer S l bytes count words in_use ≡ by_number false false (eqb in_use (entries_for count))
  few-and-lent few lent =
      ap₂ (λ (x y : Bool). by_number x y (eqb in_use (entries_for count))) (le-ltb most_values count few) (le-ltb (entries_lent (length words)) in_use lent)

  -- else it refuses. First with 13, "table doesn't match", for a number of entries that the count does not ask for, whatever the bytes and the entries hold
  pub the-check-counts-the-entries-first : count ≤ most_values → in_use ≤ entries_lent (length words) → (in_use ≡ entries_for count → ⊥)
      → check_answer S l bytes count words in_use ≡ no_match
  unfolding judge
  the-check-counts-the-entries-first few lent other = few-and-lent few lent ∙ ap (by_number false false) (ne_eqb in_use (entries_for count) other)

  -- then a stream that reading refuses as reading does, and of an accepted stream any other table with 13
  pub the-check-refuses-any-other-table : count ≤ most_values → in_use ≤ entries_lent (length words) → (vs : List ℕ) → values_in S l bytes count ≡ answered vs
      → (table_in words in_use ≡ entries_in S count (fresh S l) bits → ⊥) → check_answer S l bytes count words in_use ≡ no_match
  unfolding judge
  the-check-refuses-any-other-table few lent vs h other =
      let w = calls.read_whole_lem (read_all S count (fresh S l) bits) vs h in
      few-and-lent few lent ∙ go (eqb in_use (entries_for count)) (check-other S count l bits vs w.0 w.1 w.2 (table_in words in_use) other)
    where
      go : (b : Bool) → check_table S count (fresh S l) bits (table_in words in_use) ≡ no_match → by_number false false b ≡ no_match
      go true e = e
      go false e = refl

  pub the-check-refuses-what-reading-refuses : count ≤ most_values → in_use ≤ entries_lent (length words) → in_use ≡ entries_for count
      → (f : StreamRefusal) → read_all S count (fresh S l) bits ≡ stopped f → check_answer S l bytes count words in_use ≡ refused (fault_at f)
  the-check-refuses-what-reading-refuses few lent number f h =
      by-the-table few lent number ∙ check-refused S count (fresh S l) bits (table_in words in_use) f (table-length words in_use ∙ number) h

-- ---- a range

-- what holds where nothing refuses it, and that nothing does where this holds
module _ (F : Format) (bytes count : ℕ) (words : List ℕ) (in_use p q room : ℕ) where
  abbrev starts : Bool
  starts = may_start F (8 * lent_bytes bytes) (get_elem? (table_in words in_use) (entry_before p))

  range-allowed : count ≤ most_values → p ≤ q → q ≤ count → q - p ≤ room → (p < q → (in_use ≤ entries_lent (length words)) × (starts ≡ true))
      → NoneHolds (range_causes F bytes count words in_use p q room)
  range-allowed few le most fits there = go (eq-or-lt_of_le le)
    where
      order : (ltb p q && ltb (entries_lent (length words)) in_use) ≡ false → (ltb q p || (ltb count q || (ltb p q && ltb (entries_lent (length words)) in_use))) ≡ false
      order e = ap₂ (λ (x y : Bool). x || y) (le-ltb q p le) (ap₂ (λ (x y : Bool). x || y) (le-ltb count q most) e)

      go : (p ≡ q) ⊎ (p < q) → NoneHolds (range_causes F bytes count words in_use p q room)
      go (inl e) =
          let empty : ltb p q ≡ false = le-ltb p q (omega arith) in (
            le-ltb most_values count few,
            (
              order (ap (λ (x : Bool). x && ltb (entries_lent (length words)) in_use) empty),
              (ap (λ (x : Bool). x && not starts) empty, (le-ltb room (q - p) fits, tt)),
            ),
          )
      go (inr lt) =
          let t = there lt in (
            le-ltb most_values count few,
            (
              order (and-false (ltb p q) _ (le-ltb (entries_lent (length words)) in_use t.0)),
              (and-false (ltb p q) (not starts) (ap not t.1), (le-ltb room (q - p) fits, tt)),
            ),
          )

  range-started : NoneHolds (range_causes F bytes count words in_use p q room) → (p ≤ q) × (p < q → starts ≡ true)
  range-started free =
      (ltb-false q p (neither (ltb q p) _ free.1.0).0, λ lt. not-false starts (and-past (ltb p q) (not starts) (lt-ltb p q lt) free.1.1.0))

-- the bits of lent bytes hold each place that is among them and near the start
lent-holds : {A : Type 0} (S : Stream A) → most_values * longest S.format ≤ 8 * 2 ^ 60 → (bytes : List ℕ) (p : ℕ) → p ≤ most_values
    → (place : ℕ) → place ≤ length (bits_of bytes) → place ≤ p * longest S.format → place ≤ 8 * lent_bytes (length bytes)
lent-holds S near bytes p few place within close = omega (arith, length-bits_of bytes, mul-le-mul_right (longest S.format) few, near)

-- an entry that a range may start from, in its words
module _ (F : Format) (bits : ℕ) (words : List ℕ) (in_use p : ℕ) where
  abbrev at_p : Entry
  at_p = entry_at words (entry_before p)

  abbrev no-window : Type 0
  no-window = (at_p.win.lead ≡ 255) × (at_p.win.trail ≡ 0)

  abbrev a-window : Type 0
  a-window = (at_p.win.lead ≤ 2 ^ F.lead_bits - 1) × (at_p.win.lead + at_p.win.trail ≤ F.width - 1)

  window-says : (is_opening at_p.win ≡ true) ⊎ (leaves_a_bit F at_p.win ≡ true) → no-window ⊎ a-window
  window-says (inl o) =
      let q = and_parts (eqb at_p.win.lead 255) (eqb at_p.win.trail 0) o in
      inl (eqb-true at_p.win.lead 255 q.0, eqb-true at_p.win.trail 0 q.1)
  window-says (inr b) =
      let q = and_parts (leb at_p.win.lead (2 ^ F.lead_bits - 1)) _ b in
      inr (leb-true at_p.win.lead (2 ^ F.lead_bits - 1) q.0, leb-true (at_p.win.lead + at_p.win.trail) (F.width - 1) q.1)

  window-may : no-window ⊎ a-window → (is_opening at_p.win ≡ true) ⊎ (leaves_a_bit F at_p.win ≡ true)
  window-may (inl o) = inl (and_both (eqb at_p.win.lead 255) _ (eq-eqb at_p.win.lead 255 o.0) (eq-eqb at_p.win.trail 0 o.1))
  window-may (inr b) =
      inr (and_both (leb at_p.win.lead (2 ^ F.lead_bits - 1)) _ (le-leb at_p.win.lead (2 ^ F.lead_bits - 1) b.0) (le-leb (at_p.win.lead + at_p.win.trail) (F.width - 1) b.1))

  start-says : entry_before p < in_use → may_start F bits (option.some at_p) ≡ true → MayStart F bits words in_use p
  start-says there h =
      let x = and_parts (ltb at_p.last (2 ^ F.width)) _ h in
      let y = and_parts (leb at_p.place bits) (is_opening at_p.win || leaves_a_bit F at_p.win) x.1 in
      record {
        there = there;
        small = ltb-true at_p.last (2 ^ F.width) x.0;
        within = leb-true at_p.place bits y.0;
        window = window-says (or-either (is_opening at_p.win) (leaves_a_bit F at_p.win) y.1);
      }

  pub a-range-starts-exactly-if : (may_start F bits (get_elem? (table_in words in_use) (entry_before p)) ≡ true → MayStart F bits words in_use p)
      × (MayStart F bits words in_use p → may_start F bits (get_elem? (table_in words in_use) (entry_before p)) ≡ true)
  a-range-starts-exactly-if = (
    go (leb in_use (entry_before p)) refl,
    λ M.
        ap (may_start F bits) (entry-in-use words in_use (entry_before p) M.there)
        ∙ and_both (ltb at_p.last (2 ^ F.width)) _ (lt-ltb at_p.last (2 ^ F.width) M.small)
        (and_both (leb at_p.place bits) _ (le-leb at_p.place bits M.within) (or_some (is_opening at_p.win) (leaves_a_bit F at_p.win) (window-may M.window))),
  )
    where
      go : (b : Bool) → leb in_use (entry_before p) ≡ b → may_start F bits (get_elem? (table_in words in_use) (entry_before p)) ≡ true → MayStart F bits words in_use p
      go true far h = absurd (false≢true (ap (may_start F bits) (sym (no-entry-in-use words in_use (entry_before p) (leb-true in_use (entry_before p) far))) ∙ h))
      go false near h =
          let there : entry_before p < in_use = leb-false in_use (entry_before p) near in
          start-says there (ap (may_start F bits) (sym (entry-in-use words in_use (entry_before p) there)) ∙ h)

-- a further bit at the end takes no entry away
starts-wider : (F : Format) (a b : ℕ) (e : Entry) → a ≤ b → may_start F a (option.some e) ≡ true → may_start F b (option.some e) ≡ true
starts-wider F a b e le h =
    let x = and_parts (ltb e.last (2 ^ F.width)) _ h in
    let y = and_parts (leb e.place a) (is_opening e.win || leaves_a_bit F e.win) x.1 in
    let far : e.place ≤ b = omega (arith, leb-true e.place a y.0) in
    and_both (ltb e.last (2 ^ F.width)) _ x.0 (and_both (leb e.place b) _ (le-leb e.place b far) y.1)

module _ {A : Type 0} (S : Stream A) where
  -- "with p = q it answers no values", whatever the table and the output
  pub a-range-of-no-values : (bytes : List ℕ) (count : ℕ) (words : List ℕ) (in_use p : ℕ) (out : List ℕ) → count ≤ most_values → p ≤ count
      → (range_answer S bytes count words in_use p p (length out) ≡ answered tt) × (range_memory S bytes count words in_use p p out ≡ out)
  a-range-of-no-values bytes count words in_use p out few most =
      let free = range-allowed S.format (length bytes) count words in_use p p (length out) few (omega arith) most (omega arith) (λ lt. absurd (omega arith)) in
      let empty = range-empty S (bits_of bytes) (table_in words in_use) p in (
        sym (judging.accepted refused _ _ free) ∙ ap drawn empty,
        sym (judging.accepted (keeping out) _ _ free) ∙ ap (drawn_in out) empty,
      )

  -- "no data": a refused range leaves the output as it was
  refused-range : (out : List ℕ) (causes : List Cause) (x : Said (List ℕ)) (f : Fault) → judge refused causes (drawn x) ≡ refused f → judged_memory out causes (drawn_in out x) ≡ out
  unfolding judge
  refused-range out [] (answered vs) f h = absurd (not-refused h)
  refused-range out [] (refused g) f h = refl
  refused-range out (n when true ∷ causes) x f h = refl
  refused-range out (n when false ∷ causes) x f h = refused-range out causes x f h

  pub a-refused-range-changes-nothing : (bytes : List ℕ) (count : ℕ) (words : List ℕ) (in_use p q : ℕ) (out : List ℕ) (f : Fault)
      → range_answer S bytes count words in_use p q (length out) ≡ refused f → range_memory S bytes count words in_use p q out ≡ out
  a-refused-range-changes-nothing bytes count words in_use p q out f h =
      refused-range out (range_causes S.format (length bytes) count words in_use p q (length out)) (range_read S bytes words in_use p q) f h

  -- "an output's places past the answer keep what they held" (01), with any table
  pub a-range-changes-only-its-places : (bytes : List ℕ) (count : ℕ) (words : List ℕ) (in_use p q : ℕ) (out : List ℕ)
      → (drop (q - p) (range_memory S bytes count words in_use p q out) ≡ drop (q - p) out) × (length (range_memory S bytes count words in_use p q out) ≡ length out)
  a-range-changes-only-its-places bytes count words in_use p q out = (
    alike-after (drop (q - p)) out _ causes (λ free. drawn-behind (range_read S bytes words in_use p q) (says free)),
    as_long out _ causes (λ free. drawn-length (range_read S bytes words in_use p q) (says free) (ltb-false (length out) (q - p) free.1.1.1.0)),
  )
    where
      causes : List Cause
      causes = range_causes S.format (length bytes) count words in_use p q (length out)

      says : NoneHolds (range_causes S.format (length bytes) count words in_use p q (length out)) → RangeSays p q (range_read S bytes words in_use p q)
      says free = range-says S (bits_of bytes) (table_in words in_use) p q (range-started S.format (length bytes) count words in_use p q (length out) free).0

      drawn-behind : (x : Said (List ℕ)) → RangeSays p q x → drop (q - p) (drawn_in out x) ≡ drop (q - p) out
      drawn-behind (answered vs) e = drop_at vs (drop (length vs) out) (q - p) e ∙ ap (λ (n : ℕ). drop n out) e
      drawn-behind (refused f) e = refl

      drawn-length : (x : Said (List ℕ)) → RangeSays p q x → q - p ≤ length out → length (drawn_in out x) ≡ length out
      drawn-length (answered vs) e room = omega (arith, length-append vs (drop (length vs) out), length-drop (length vs) out)
      drawn-length (refused f) e room = refl

  -- a range looks at no entry but that at or before p: two tables that agree in whether it is in use and in what it holds give the same
  module _ (bytes : List ℕ) (count p q : ℕ) (ws us : List ℕ) (n m : ℕ) (lent : n ≤ entries_lent (length ws)) (also : m ≤ entries_lent (length us))
      (same : get_elem? (table_in ws n) (entry_before p) ≡ get_elem? (table_in us m) (entry_before p)) where
    one_entry : {X : Type 0} (refuse : Fault → X) (f : Said (List ℕ) → X) (room : ℕ)
        → judge refuse (range_causes S.format (length bytes) count ws n p q room) (f (range_read S bytes ws n p q))
        ≡ judge refuse (range_causes S.format (length bytes) count us m p q room) (f (range_read S bytes us m p q))
    unfolding read_range
    one_entry {X} refuse f room =
        ap₂ by (le-ltb (entries_lent (length ws)) n lent ∙ sym (le-ltb (entries_lent (length us)) m also)) same
      where
        by : Bool → Option Entry → X
        by above e =
            judge refuse
            (3 when ltb most_values count
            ∷ 12 when (ltb q p || (ltb count q || (ltb p q && above)))
            ∷ 13 when (ltb p q && not (may_start S.format (8 * lent_bytes (length bytes)) e))
            ∷ 4 when ltb room (q - p)
            ∷ [])
            (f (cond (eqb p q) (answered []) (range_at S (bits_of bytes) p q e)))

    pub a-range-looks-at-one-entry : (out : List ℕ)
        → (range_answer S bytes count ws n p q (length out) ≡ range_answer S bytes count us m p q (length out))
        × (range_memory S bytes count ws n p q out ≡ range_memory S bytes count us m p q out)
    a-range-looks-at-one-entry out = (one_entry refused drawn (length out), one_entry (keeping out) (drawn_in out) (length out))

  module _ (bytes : List ℕ) (count : ℕ) (words : List ℕ) (in_use p q room : ℕ) where
    abbrev causes : List Cause
    causes = range_causes S.format (length bytes) count words in_use p q room

    abbrev table : List Entry
    table = table_in words in_use

    abbrev entry : Entry
    entry = entry_at words (entry_before p)

    -- "otherwise answers what reading from there gives": from the entry at or before p, which is then in use, to value q − 1, without the values before p
    pub a-range-reads-from-its-entry : NoneHolds causes → p < q
        → (entry_before p < in_use)
        × (range_read S bytes words in_use p q
        ≡ without (p - reads_from p) (read_n S (reads_in_all p q) (state_from S (reads_from p) entry) (drop entry.place (bits_of bytes))))
    a-range-reads-from-its-entry free lt = go (leb in_use (entry_before p)) refl
      where
        go : (b : Bool) → leb in_use (entry_before p) ≡ b
            → (entry_before p < in_use)
            × (range_read S bytes words in_use p q
            ≡ without (p - reads_from p) (read_n S (reads_in_all p q) (state_from S (reads_from p) entry) (drop entry.place (bits_of bytes))))
        go true e =
            let may = (range-started S.format (length bytes) count words in_use p q room free).1 lt in
            absurd (false≢true (ap (may_start S.format (8 * lent_bytes (length bytes))) (sym (no-entry-in-use words in_use (entry_before p) (leb-true in_use (entry_before p) e))) ∙ may))
        go false e =
            let bits : ℕ = 8 * lent_bytes (length bytes) in
            let far : bits ≤ length (bits_of bytes) = omega (arith, length-bits_of bytes, min-le_left (length bytes) (2 ^ 60)) in
            let there : entry_before p < in_use = leb-false in_use (entry_before p) e in
            let at : get_elem? table (entry_before p) ≡ option.some entry = entry-in-use words in_use (entry_before p) there in
            let may : may_start S.format bits (option.some entry) ≡ true =
            ap (may_start S.format bits) (sym at) ∙ (range-started S.format (length bytes) count words in_use p q room free).1 lt in
            (there, range-reads S (bits_of bytes) table p q lt entry at (starts-wider S.format bits (length (bits_of bytes)) entry far may))

    by-reading : (k : ℕ) (x : Reading A) → ReadsIn (reads_from p) (reads_in_all p q) x → verdict causes ≡ answered tt → RangeAnswers causes p q (drawn (without k x))
    by-reading k (done vs t r) h v = v
    by-reading k (stopped f) h v = inr (v, h)

    by_order : (p ≡ q) ⊎ (p < q) → NoneHolds causes → verdict causes ≡ answered tt → RangeAnswers causes p q (drawn (range_read S bytes words in_use p q))
    by_order (inl e) free v =
        subst (λ (y : Said (List ℕ)). RangeAnswers causes p q (drawn y)) (sym (ap (read_range S (bits_of bytes) table p) (sym e) ∙ range-empty S (bits_of bytes) table p)) v
    by_order (inr lt) free v =
        let s : State A = state_from S (reads_from p) entry in
        let rest : List Bool = drop entry.place (bits_of bytes) in
        subst (λ (y : Said (List ℕ)). RangeAnswers causes p q (drawn y)) (sym (a-range-reads-from-its-entry free lt).1)
        (by-reading (p - reads_from p) (read_n S (reads_in_all p q) s rest) (reads_in S (reads_in_all p q) s rest) v)

    by-verdict : (v : Said Done) → verdict causes ≡ v → RangeAnswers causes p q (range_answer S bytes count words in_use p q room)
    by-verdict (answered u) e =
        let free : NoneHolds causes = none causes e in
        let le = (range-started S.format (length bytes) count words in_use p q room free).0 in
        subst (RangeAnswers causes p q) (judging.accepted refused _ causes free) (by_order (eq-or-lt_of_le le) free e)
    by-verdict (refused f) e = subst (RangeAnswers causes p q) (judging.turned-back refused _ causes f e) (inl e)

    -- with any table: accepted; or refused by the first of its causes; or with 5 to 7 at one of the values that it reads
    pub a-range-with-any-table : RangeAnswers causes p q (range_answer S bytes count words in_use p q room)
    a-range-with-any-table = by-verdict (verdict causes) refl

    -- its causes, one by one, where the count is no cause
    module _ (few : count ≤ most_values) where
      abbrev by-causes : Bool → Bool → Bool → Bool → Said Done
      by-causes a b c d = judge refused (3 when a ∷ 12 when b ∷ 13 when c ∷ 4 when d ∷ []) (drawn (range_read S bytes words in_use p q))

      abbrev asked : Bool
      asked = ltb q p || (ltb count q || (ltb p q && ltb (entries_lent (length words)) in_use))

      abbrev far : Bool
      far = ltb p q && not (may_start S.format (8 * lent_bytes (length bytes)) (get_elem? table (entry_before p)))

      no-3 : range_answer S bytes count words in_use p q room ≡ by-causes false asked far (ltb room (q - p))
      no-3 = ap (λ (a : Bool). by-causes a asked far (ltb room (q - p))) (le-ltb most_values count few)

      -- "p above q, or q above the count, is 12"
      pub a-range-is-12 : (q < p) ⊎ (count < q) → range_answer S bytes count words in_use p q room ≡ refused (fault 12)
      unfolding judge
      a-range-is-12 h = no-3 ∙ ap (λ (b : Bool). by-causes false b far (ltb room (q - p))) (go h)
        where
          go : (q < p) ⊎ (count < q) → asked ≡ true
          go (inl lt) = or_some (ltb q p) _ (inl (lt-ltb q p lt))
          go (inr lt) = or_some (ltb q p) _ (inr (or_some (ltb count q) _ (inl (lt-ltb count q lt))))

      module _ (lt : p < q) (most : q ≤ count) where
        asked_by : (b : Bool) → ltb (entries_lent (length words)) in_use ≡ b → asked ≡ b
        asked_by b e =
            let order : p ≤ q = omega arith in
            ap₂ (λ (x y : Bool). x || y) (le-ltb q p order) (ap₂ (λ (x y : Bool). x || y) (le-ltb count q most) (ap₂ (λ (x y : Bool). x && y) (lt-ltb p q lt) e))

        -- entries in use above what is lent is 12
        pub a-range-of-more-than-is-lent-is-12 : entries_lent (length words) < in_use → range_answer S bytes count words in_use p q room ≡ refused (fault 12)
        unfolding judge
        a-range-of-more-than-is-lent-is-12 more =
            no-3 ∙ ap (λ (b : Bool). by-causes false b far (ltb room (q - p))) (asked_by true (lt-ltb (entries_lent (length words)) in_use more))

        module _ (lent : in_use ≤ entries_lent (length words)) where
          no-12 : range_answer S bytes count words in_use p q room ≡ by-causes false false far (ltb room (q - p))
          no-12 = no-3 ∙ ap (λ (b : Bool). by-causes false b far (ltb room (q - p))) (asked_by false (le-ltb (entries_lent (length words)) in_use lent))

          -- "refuses with 13 one that is missing, has its place beyond the stream's bits, or has a window neither .."
          pub a-range-is-13 : (MayStart S.format (8 * lent_bytes (length bytes)) words in_use p → ⊥) → range_answer S bytes count words in_use p q room ≡ no_match
          unfolding judge
          a-range-is-13 other = no-12 ∙ ap (λ (c : Bool). by-causes false false c (ltb room (q - p))) (go (may_start S.format (8 * lent_bytes (length bytes)) (get_elem? table (entry_before p))) refl)
            where
              go : (b : Bool) → may_start S.format (8 * lent_bytes (length bytes)) (get_elem? table (entry_before p)) ≡ b → far ≡ true
              go true e = absurd (other ((a-range-starts-exactly-if S.format (8 * lent_bytes (length bytes)) words in_use p).0 e))
              go false e = and_both (ltb p q) _ (lt-ltb p q lt) (ap not e)

          -- and then with 4 an output that is too short
          pub a-range-is-4 : MayStart S.format (8 * lent_bytes (length bytes)) words in_use p → room < q - p → range_answer S bytes count words in_use p q room ≡ refused (fault 4)
          unfolding judge
          a-range-is-4 may short =
              no-12
              ∙ ap₂ (by-causes false false)
              (and-false (ltb p q) _ (ap not ((a-range-starts-exactly-if S.format (8 * lent_bytes (length bytes)) words in_use p).1 may)))
              (lt-ltb room (q - p) short)

  -- with the right entry at or before p a range is that part of reading the first q values, though the stream breaks behind them or in them: it is then
  -- refused as reading is, with the value and the place counted from the start
  pub a-range-of-a-right-entry : Good S.format → most_values * longest S.format ≤ 8 * 2 ^ 60 → (l : ℕ) → l < 2 ^ S.format.width → (bytes : List ℕ) (count : ℕ)
      (words : List ℕ) (in_use : ℕ) → count ≤ most_values → in_use ≤ entries_lent (length words) → (p q : ℕ) → p < q → q ≤ count
      → (us : List ℕ) (s : State A) (rest : List Bool) → read_n S (reads_from p) (fresh S l) (bits_of bytes) ≡ done us s rest → entry_before p < in_use
      → entry_at words (entry_before p) ≡ entry_of S s → (out : List ℕ) → q - p ≤ length out
      → (range_answer S bytes count words in_use p q (length out) ≡ drawn (without p (read_n S q (fresh S l) (bits_of bytes))))
      × (range_memory S bytes count words in_use p q out ≡ drawn_in out (without p (read_n S q (fresh S l) (bits_of bytes))))
  a-range-of-a-right-entry good near l hl bytes count words in_use few lent p q lt most us s rest h there is out fits =
      let at = entry-in-use words in_use (entry_before p) there ∙ ap option.some is in
      let may =
      right-entry-starts S good l hl (bits_of bytes) p (table_in words in_use) us s rest h at (8 * lent_bytes (length bytes)) (lent-holds S near bytes p (omega arith)) in
      let free = range-allowed S.format (length bytes) count words in_use p q (length out) few (omega arith) most fits (λ lt. (lent, may)) in
      let read = right-range S good l hl (bits_of bytes) p q lt (table_in words in_use) us s rest h at in
      (sym (judging.accepted refused _ _ free) ∙ ap drawn read, sym (judging.accepted (keeping out) _ _ free) ∙ ap (drawn_in out) read)

  -- "For each table that the check accepts, this must be shown equal to that part of the full reading."
  module _ (good : Good S.format) (near : most_values * longest S.format ≤ 8 * 2 ^ 60) (l : ℕ) (hl : l < 2 ^ S.format.width) (bytes : List ℕ) (count : ℕ)
      (words : List ℕ) (in_use : ℕ) (ok : check_answer S l bytes count words in_use ≡ answered tt) where
    own : OwnTable S l bytes count words in_use
    own = (the-check-accepts-exactly-its-own-table S l bytes count words in_use).0 ok

    -- the stream is read as some values
    pub a-checked-stream-reads : (vs : List ℕ) × (values_in S l bytes count ≡ answered vs)
    a-checked-stream-reads = let B = own.belongs in (B.values, ap values_read B.reads)

    -- its entries are those that the count asks for, and entry i is of the state that a reader has behind the first 64 * i of these values
    pub a-checked-table-has-its-entries : (vs : List ℕ) → values_in S l bytes count ≡ answered vs
        → (in_use ≡ entries_for count)
        × ((i : ℕ) → spacing * i < count → OwnEntry S l bytes vs i (entry_at words i))
    a-checked-table-has-its-entries vs h = (own-count S l bytes count words in_use own.belongs, entry)
      where
        same : {d e : Entry} → option.some d ≡ option.some e → d ≡ e
        same e = cc

        entry : (i : ℕ) → spacing * i < count → OwnEntry S l bytes vs i (entry_at words i)
        entry i lt =
            let bits : List Bool = bits_of bytes in
            let w = calls.read_whole_lem (read_all S count (fresh S l) bits) vs h in
            let o = any-opened S good l hl count (spacing * i) (omega arith) bits vs w.0 w.1 w.2 in
            let there : i < in_use = omega (arith, own-count S l bytes count words in_use own.belongs, (asked-for i count).1 lt) in
            record {
              state = o.state;
              rest = o.rest;
              reads = o.reads;
              is =
                  same (sym (entry-in-use words in_use i there) ∙ ap (λ (z : List Entry). get_elem? z i) own.belongs.own
                  ∙ entry_read S l count i bits lt (take (spacing * i) vs) o.state o.rest o.reads);
            }

    -- and each range of it is that part of them, where the output has room; later places of it stay
    pub a-range-is-that-part-of-the-reading : (vs : List ℕ) → values_in S l bytes count ≡ answered vs → (p q : ℕ) → p ≤ q → q ≤ count
        → (out : List ℕ) → q - p ≤ length out
        → (range_answer S bytes count words in_use p q (length out) ≡ answered tt)
        × (range_memory S bytes count words in_use p q out ≡ take (q - p) (drop p vs) ++ drop (q - p) out)
    a-range-is-that-part-of-the-reading vs h p q le most out fits =
        let bits : List Bool = bits_of bytes in
        let table : List Entry = table_in words in_use in
        let w = calls.read_whole_lem (read_all S count (fresh S l) bits) vs h in
        let check : check_table S count (fresh S l) bits table ≡ answered tt = (answered-only (check_causes count (length words) in_use) _ tt ok).1 in
        let part : List ℕ = take (q - p) (drop p vs) in
        let read : read_range S bits table p q ≡ answered part = checked-range S good l hl count bits vs w.0 w.1 w.2 table check p q le most in
        let long : length part ≡ q - p = subst (RangeSays p q) read (range-says S bits table p q le) in
        let few : count ≤ most_values = own.few in
        let free : NoneHolds (range_causes S.format (length bytes) count words in_use p q (length out)) =
        range-allowed S.format (length bytes) count words in_use p q (length out) few le most fits (λ lt. (
          own.lent,
          ap (λ (d : List Entry). may_start S.format (8 * lent_bytes (length bytes)) (get_elem? d (entry_before p))) own.belongs.own
              ∙ own-entry-starts S good l hl count bits vs w.0 w.1 w.2 p (omega arith) (8 * lent_bytes (length bytes)) (lent-holds S near bytes p (omega arith)),
        )) in (
          sym (judging.accepted refused _ _ free) ∙ ap drawn read,
          sym (judging.accepted (keeping out) _ _ free) ∙ ap (drawn_in out) read ∙ ap (λ (n : ℕ). part ++ drop n out) long,
        )

-- ---- of a stream that we wrote, and of any accepted stream that is written on

module _ {A W : Type 0} (C : Coder A W) (good : GoodCoder C) (l : ℕ) (hl : l < 2 ^ C.stream.format.width) where
  abbrev T : Stream A
  T = C.stream

  module _ {xs buf : List ℕ} {m : W} {words : List ℕ} {in_use : ℕ} (M : MadeByBeside C l xs buf m words in_use) (bx : Below C.stream.format.width xs)
      (few : length xs ≤ most_values) where
    abbrev written-bytes : List ℕ
    written-bytes = take (whole_bytes (C.state m).place) buf

    -- the check accepts the table that a writer made
    pub a-made-table-is-accepted : check_answer T l written-bytes (length xs) words in_use ≡ answered tt
    a-made-table-is-accepted =
        let I = calls.in-theory C good l M.made in
        let beside : MadeBeside C.rule T l xs buf (state_over C l xs) (table_in words in_use) = record { made = I.1; beside = M.beside } in
        let here : bits_of written-bytes ≡ bits_of (take (whole_bytes (state_over C l xs).place) buf) = ap (λ (p : ℕ). bits_of (take (whole_bytes p) buf)) I.0 in
        (the-check-accepts-exactly-its-own-table T l written-bytes (length xs) words in_use).1
        (record {
          few = few;
          lent = M.lent;
          belongs = record {
            values = kept C.rule T (fresh T l) xs;
            state = state_over C l xs;
            rest = replicate (padding (state_over C l xs).place) false;
            reads = ap (read_all T (length xs) (fresh T l)) here ∙ made-read C.rule T l I.1 good.format good.keeps hl bx;
            own = made-own C.rule T l beside good.format good.keeps hl bx ∙ ap (entries_in T (length xs) (fresh T l)) (sym here);
          };
        })

    -- so a range of what was written is the kept values p to q − 1
    pub a-made-range : (p q : ℕ) → p ≤ q → q ≤ length xs → (out : List ℕ) → q - p ≤ length out
        → (range_answer T written-bytes (length xs) words in_use p q (length out) ≡ answered tt)
        × (range_memory T written-bytes (length xs) words in_use p q out ≡ take (q - p) (drop p (kept C.rule T (fresh T l) xs)) ++ drop (q - p) out)
    a-made-range =
        a-range-is-that-part-of-the-reading T good.format good.near l hl written-bytes (length xs) words in_use a-made-table-is-accepted
        (kept C.rule T (fresh T l) xs) (calls.values-read-back C good l M.made bx hl)

  module _ (n k used : ℕ) (buf words : List ℕ) (in_use : ℕ) (free : NoneHolds C.first) (le : k ≤ n) (fits : used ≤ length buf) where
    abbrev cut : List ℕ
    cut = table_reopen_memory C l buf used n k (length words) in_use

    -- the state that reopening answers, and the bytes that it leaves
    opened-on : (s t : State A) → reopening T l (take used buf) n k ≡ reopened t → reopen_answer C l buf used n k ≡ answered (C.hold s)
        → (s ≡ t) × (reopen_memory C l buf used n k ≡ buffer_after (reopened t) buf)
    opened-on s t e h =
        let causes : List Cause = reopen_causes C.first (length buf) used n k in
        let a = answered-only causes (resumed C (reopening T l (take used buf) n k)) (C.hold s) h in
        let held : C.hold t ≡ C.hold s = same_answer (sym (ap (resumed C) e) ∙ a.1) in (
          sym (good.holds s) ∙ ap C.state (sym held) ∙ good.holds t,
          sym (judging.accepted (keeping buf) _ causes a.0) ∙ ap (λ (q : Reopened A). buffer_after q buf) e,
        )

    module _ (own : OwnTable T l (take used buf) n words in_use) (R : Resumed C.rule T l n k used buf own.belongs.values)
        (plain : Resumes C l n k used buf own.belongs.values) where
      abbrev t : State A
      t = R.state

      here : (plain.state ≡ t) × (reopen_memory C l buf used n k ≡ buffer_after (reopened t) buf)
      here = opened-on plain.state t R.opens plain.opens

      number : in_use ≡ entries_for n
      number = own-count T l (take used buf) n words in_use own.belongs

      opens : table_reopen_answer C l buf used n k (length words) in_use ≡ answered (record { writer = C.hold t; entries = entries_for k })
      opens =
          tables.a-plain-reopening-goes-with-a-table C good l hl buf used n k (length words) in_use (C.hold t)
          (plain.opens ∙ ap (λ (z : State A). answered (C.hold z)) here.0) own.lent number

      as_plain : cut ≡ reopen_memory C l buf used n k
      as_plain = (tables.reopening-with-a-table-is-the-plain-one C good l hl buf used n k (length words) in_use _ opens).bytes

      accepts : (ys : List ℕ) → k + length ys ≤ most_values → (wrote C.rule T t ys).place ≤ 8 * length buf → entries_for (k + length ys) ≤ entries_lent (length words)
          → table_write_answer C t ys cut words (entries_for k) ≡ answered_on (record { writer = C.hold (wrote C.rule T t ys); entries = entries_for (k + length ys) })
      accepts ys few room lent =
          let goes = subst (λ (z : State A). (zs : List ℕ) → k + length zs ≤ most_values → (wrote C.rule T z zs).place ≤ 8 * length buf
          → write_answer C z zs (reopen_memory C l buf used n k) ≡ answered_on (C.hold (wrote C.rule T z zs))) here.0 plain.accepts in
          tables.a-plain-write-goes-with-a-table C t ys cut words (entries_for k) (C.hold (wrote C.rule T t ys))
          (ap (write_answer C t ys) as_plain ∙ goes ys few room) (ap entries_for (sym R.counted)) (omega (arith, R.counted))
          ∙ ap (λ (i : ℕ). answered_on (record { writer = C.hold (wrote C.rule T t ys); entries = entries_for (i + length ys) })) R.counted

      checks : (ys : List ℕ) → Below C.stream.format.width ys → (after : Beside W) → table_write_answer C t ys cut words (entries_for k) ≡ answered_on after
          → check_answer T l (take (whole_bytes (C.state after.writer).place) (table_write_memory C t ys cut words (entries_for k))) (k + length ys)
          (table_write_table C t ys cut words (entries_for k)) after.entries ≡ answered tt
      checks ys by after e =
          let B = own.belongs in
          let end : State A = wrote C.rule T t ys in
          let es : List Entry = added C.rule T t ys in
          let now : List ℕ = table_write_table C t ys cut words (entries_for k) in
          let w = tables.a-write-with-a-table-is-the-plain-one C t ys cut words (entries_for k) after e in
          let u = calls.wrote_on C good t ys cut after.writer w.plain in
          let limits = calls.accepted C good t ys (lent_bytes (length cut)) (accepted-only (C.hold t) _ _ after.writer w.plain).0 in
          let at : (C.state after.writer).place ≡ end.place = ap (λ (v : W). (C.state v).place) u.0 ∙ ap (λ (z : State A). z.place) (good.holds end) in
          let bytes : table_write_memory C t ys cut words (entries_for k) ≡ wrote_in C.rule T t ys (buffer_after (reopened t) buf) =
          w.bytes ∙ u.2 ∙ ap (wrote_in C.rule T t ys) (as_plain ∙ here.1) in
          let long : length cut ≡ length buf = tables.reopening-keeps-the-length C good l hl buf used n k (length words) in_use in
          let all : after.entries ≡ entries_for k + length es = omega (arith, w.after, R.counted, added-count T C.rule t ys) in
          let asked : after.entries ≡ entries_for (k + length ys) = w.after ∙ ap (λ (i : ℕ). entries_for (i + length ys)) R.counted in
          let kept_on : table_in words (entries_for k) ≡ table_after (reopened t) (table_in words in_use) =
          sym (ap (λ (i : ℕ). take (entries_for i) (table_in words in_use)) R.counted ∙ take-table words (entries_for k) in_use (omega (arith, number))) in
          let table : table_in now after.entries ≡ table_wrote C.rule T t ys (table_after (reopened t) (table_in words in_use)) =
          ap₂ table_in w.table all ∙ laid_table words (entries_for k) es (omega (arith, number, own.lent)) ∙ ap (λ (d : List Entry). d ++ es) kept_on in
          let checked : check_table T n (fresh T l) (bits_of (take used buf)) (table_in words in_use) ≡ answered tt =
          check-own T n l (bits_of (take used buf)) B.values B.state B.rest B.reads (table_in words in_use) B.own in
          by-the-table T l _ (k + length ys) now after.entries (omega (arith, limits.1, R.counted))
          (subst (λ (i : ℕ). after.entries ≤ entries_lent i) (sym (tables.a-write-keeps-the-number-of-words C t ys cut words (entries_for k))) w.lent) asked
          ∙ ap (λ (z : List ℕ). check_table T (k + length ys) (fresh T l) (bits_of z) (table_in now after.entries)) (ap₂ (λ (p : ℕ) (z : List ℕ). take (whole_bytes p) z) at bytes)
          ∙ ap (check_table T (k + length ys) (fresh T l) (bits_of (take (whole_bytes end.place) (wrote_in C.rule T t ys (buffer_after (reopened t) buf))))) table
          ∙ any-table-resumed C.rule T good.format good.keeps l hl n k used buf le fits B.values B.state B.rest B.reads (table_in words in_use) checked R ys by
          (omega (arith, u.1, long))

    -- any accepted stream with its own table, even one that this writer would not write, has its own table again after reopening at k and writing on
    pub any-table-resumes : check_answer T l (take used buf) n words in_use ≡ answered tt → TableResumes C l n k used buf words in_use
    any-table-resumes ok =
        let own = (the-check-accepts-exactly-its-own-table T l (take used buf) n words in_use).0 ok in
        let B = own.belongs in
        let R = any-resumed C.rule T good.format good.keeps l hl n k used buf le own.few fits B.values B.state B.rest B.reads in
        let plain = calls.any-stream-resumes C good l n k used buf B.values free hl own.few le fits (ap values_read B.reads) in
        record { state = R.state; opens = opens own R plain; accepts = accepts own R plain; checks = checks own R plain }
