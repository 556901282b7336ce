-- The promises of writing and reopening with a place table, over any writer of a stream: what they answer and leave of the buffer and of the lent words.
-- Assumes nothing.
use mathlib.Core.Path.{◌≡◌, refl, sym, ap, ap₂, ◌∙◌, subst}
use mathlib.Core.Bool.{Bool, true, false, not, ◌||◌}
use mathlib.Core.List.{List, [], ◌∷◌, ◌++◌}
use mathlib.Core.Logic.{◌⊎◌, inl, inr}
use mathlib.Core.Option.{Option, some}
use Prim.Native.Nat.{ℕ, ◌+◌, ◌*◌, ◌^◌, ◌≤◌, ◌<◌}
use native.Mathlib.Omega.{arith}
use borrow.Author.Tests.{le-ltb, ltb-false, eq-eqb, eqb-true, not-false}
use lib.Dec.{leb, ltb}
use lib.ListN.{length, take, drop, get_elem?, length-append}
use lib.Seq.{length-take-le}
use Rattle.bits.specs.Bits.{Below, bits_of, whole_bytes}
use Rattle.bits.proofs.Below.{below-take}
use Rattle.bits.proofs.InBytes.{laid_in-nothing}
use Rattle.models.specs.declared.Fault.{Fault}
use Rattle.models.specs.Answers.{fault, answered, refused, SaidOn, answered_on, refused_on, refusing, Cause, ◌when◌, judge, judged_on, judged_memory, keeping, NoneHolds}
use Rattle.models.proofs.Judged.{not-answered, not-refused, same-fault, same_answer, same-answer-on, answered-only, accepted-on}
use Rattle.models.proofs.Judged as judging
use Rattle.models.proofs.Tests.{neither, never}
use Rattle.stream.specs.Format.{Window, opening, with_first, Stream, State, fresh, most_values}
use Rattle.stream.specs.Write.{kept_from, encode, after, wrote}
use Rattle.stream.specs.Read.{Reading, done, stopped, read_all, Reopened, reopened, unopened, buffer_after}
use Rattle.stream.specs.Calls.{Coder, lent_bytes, reopening, new_answer, start_causes, write_causes, write_answer, reopen_causes, resumed, reopen_answer, reopen_memory}
use Rattle.stream.specs.Made.{MadeBy, state_over}
use Rattle.places.specs.Table.{Entry, entries_for, entries, added}
use Rattle.places.specs.Calls.{words_each, entries_lent, table_in, laid_entries, table_causes, table_reopen_causes, Beside, table_write_causes, table_write_judged, table_write_answer, table_write_memory, table_write_table, resumed_beside, table_reopen_answer, table_reopen_memory, MadeByBeside, over, WritesBeside, ReopensBeside, TableResumesAsOne}
use Rattle.stream.specs.Needs.{GoodCoder}
use Rattle.stream.proofs.Formats.{Framed}
use Rattle.stream.proofs.Rule.{usable-says}
use Rattle.stream.proofs.Reopen.{refused-reopen}
use Rattle.stream.proofs.AnyStream.{any-resumed}
use Rattle.stream.proofs.Calls.{split, joined, alike-after, as_long, stays}
use Rattle.stream.proofs.Calls as calls
use Rattle.places.proofs.Words.{table-length, take-table, laid_none, laid-before, laid-behind, laid_table, laid-length}
use Rattle.places.proofs.Made.{raw-entry-added, run-number, run-count, table-append, table-take}
use Rattle.places.proofs.Steps.{added-count}

-- ---- the number of entries in use

-- nothing refuses it
pub number-allowed : (words in_use count : ℕ) → in_use ≤ entries_lent words → in_use ≡ entries_for count → NoneHolds (table_causes words in_use count)
number-allowed words in_use count lent number =
    (le-ltb (entries_lent words) in_use lent, (ap not (eq-eqb in_use (entries_for count) number), tt))

pub number-says : (words in_use count : ℕ) → NoneHolds (table_causes words in_use count) → (in_use ≤ entries_lent words) × (in_use ≡ entries_for count)
number-says words in_use count free =
    (ltb-false (entries_lent words) in_use free.0, eqb-true in_use (entries_for count) (not-false _ free.1.0))

-- "lent memory is untouched": a refused call hands back the state that it was handed, and each lent list is what it was
refused-untouched : {S A : Type 0} (s : S) (causes : List Cause) (a : A) (f : Fault) (t : S) → judged_on s causes a ≡ refused_on f t
    → (t ≡ s) × ((before later : List ℕ) → judged_memory before causes later ≡ before)
unfolding judge
refused-untouched s [] a f t h = absurd (never (cc))
refused-untouched s (n when true ∷ causes) a f t h = (cc, λ before later. refl)
refused-untouched s (n when false ∷ causes) a f t h = refused-untouched s causes a f t h

module _ {A W : Type 0} (C : Coder A W) where
  abbrev S : Stream A
  S = C.stream

  -- ---- refused alike: what refuses a call that answers one thing refuses one that answers another

  refused_as : {X Y : Type 0} (s : W) (causes : List Cause) (x : X) (y : Y) (f : Fault) (t : W) → judged_on s causes x ≡ refused_on f t → judged_on s causes y ≡ refused_on f t
  unfolding judge
  refused_as s [] x y f t h = absurd (never (cc))
  refused_as s (n when true ∷ causes) x y f t h =
      let a : fault n ≡ f = cc in
      let b : s ≡ t = cc in
      ap₂ refused_on a b
  refused_as s (n when false ∷ causes) x y f t h = refused_as s causes x y f t h

  plain-parts : (s : State A) (xs : List ℕ) (bytes : ℕ) {X : Type 0} (x : X)
      → judged_on (C.hold s) (start_causes C s (length xs) bytes ++ (4 when not (leb (wrote C.rule C.stream s xs).place (8 * bytes)) ∷ [])) x
      ≡ judged_on (C.hold s) (write_causes C s xs bytes) x
  unfolding judge
  plain-parts s xs bytes x =
      judging.judged-parts (refusing (C.hold s)) (start_causes C s (length xs) bytes) _ _
      ∙ judging.judged-parts (refusing (C.hold s)) C.first _ _
      ∙ sym (judging.judged-parts (refusing (C.hold s)) C.first _ _)

  -- ---- writing, from any state

  -- nothing refuses a write with a table exactly where nothing refuses the plain one, the number of entries is what the count asks for, and there is room
  -- for the new entries
  write-says : (s : State A) (xs : List ℕ) (bytes words in_use : ℕ) → NoneHolds (table_write_causes C s xs bytes words in_use)
      → NoneHolds (write_causes C s xs bytes) × (in_use ≡ entries_for s.count) × (entries_for (s.count + length xs) ≤ entries_lent words)
  write-says s xs bytes words in_use free =
      let parts = split (start_causes C s (length xs) bytes) _ free in
      let starts = split C.first _ parts.0 in
      let later = parts.1 in
      let rooms = neither (ltb (entries_lent words) (entries_for (s.count + length xs))) _ later.1.1.0 in (
        joined C.first _ starts.0 (starts.1.0, (starts.1.1.0, (rooms.1, tt))),
        (number-says words in_use s.count (later.0, (later.1.0, tt))).1,
        ltb-false (entries_lent words) (entries_for (s.count + length xs)) rooms.0,
      )

  write_allowed : (s : State A) (xs : List ℕ) (bytes words in_use : ℕ) → NoneHolds (write_causes C s xs bytes) → in_use ≡ entries_for s.count
      → entries_for (s.count + length xs) ≤ entries_lent words → NoneHolds (table_write_causes C s xs bytes words in_use)
  write_allowed s xs bytes words in_use free number room =
      let parts = split C.first _ free in
      let counted = number-allowed words in_use s.count (omega arith) number in
      let rooms = ap₂ (λ (x y : Bool). x || y) (le-ltb (entries_lent words) (entries_for (s.count + length xs)) room) parts.1.1.1.0 in
      joined (start_causes C s (length xs) bytes) _ (joined C.first _ parts.0 (parts.1.0, (parts.1.1.0, tt)))
      (counted.0, (counted.1.0, (rooms, tt)))

  module _ (s : State A) (xs buf words : List ℕ) (in_use : ℕ) where
    -- the entries in use and the new ones lie in the lent words
    entries_fit : in_use ≡ entries_for s.count → entries_for (s.count + length xs) ≤ entries_lent (length words)
        → words_each * (in_use + length (added C.rule S s xs)) ≤ length words
    entries_fit number room = omega (arith, added-count S C.rule s xs)

    -- an accepted write with a table is the plain one, and lays its entries behind those in use
    pub a-write-with-a-table-is-the-plain-one : (r : Beside W) → table_write_answer C s xs buf words in_use ≡ answered_on r → WritesBeside C s xs buf words in_use r
    a-write-with-a-table-is-the-plain-one r h =
        let causes : List Cause = table_write_judged C s xs buf words in_use in
        let now : Beside W = record { writer = C.hold (wrote C.rule S s xs); entries = entries_for (s.count + length xs) } in
        let a = accepted-on (C.hold s) causes (answered_on now) r h in
        let is : now ≡ r = same-answer-on a.1 in
        let says = write-says s xs (lent_bytes (length buf)) (length words) in_use a.0 in
        record {
          plain = sym (judging.accepted _ _ _ says.0) ∙ ap (λ (b : Beside W). answered_on b.writer) is;
          bytes = sym (judging.accepted (keeping buf) _ causes a.0) ∙ judging.accepted (keeping buf) _ _ says.0;
          table = sym (judging.accepted (keeping words) _ causes a.0);
          before = says.1;
          after = ap (λ (b : Beside W). b.entries) (sym is);
          lent = subst (λ (b : Beside W). b.entries ≤ entries_lent (length words)) is says.2;
        }

    -- and it is accepted where the plain one is, the number of entries is what the count asks for, and there is room for the new ones
    pub a-plain-write-goes-with-a-table : (n : W) → write_answer C s xs buf ≡ answered_on n → in_use ≡ entries_for s.count
        → entries_for (s.count + length xs) ≤ entries_lent (length words)
        → table_write_answer C s xs buf words in_use ≡ answered_on (record { writer = n; entries = entries_for (s.count + length xs) })
    a-plain-write-goes-with-a-table n h number room =
        let a = accepted-on (C.hold s) (write_causes C s xs (lent_bytes (length buf))) (answered_on (C.hold (wrote C.rule S s xs))) n h in
        sym (judging.accepted _ _ _ (write_allowed s xs (lent_bytes (length buf)) (length words) in_use a.0 number room))
        ∙ ap (λ (w : W). answered_on (record { writer = w; entries = entries_for (s.count + length xs) })) (same-answer-on a.1)

    -- and where the plain one is refused, it is refused alike
    pub a-write-is-refused-as-the-plain-one : in_use ≡ entries_for s.count → entries_for (s.count + length xs) ≤ entries_lent (length words)
        → (f : Fault) (t : W) → write_answer C s xs buf ≡ refused_on f t → table_write_answer C s xs buf words in_use ≡ refused_on f t
    unfolding judge
    a-write-is-refused-as-the-plain-one number room f t h =
        let bytes : ℕ = lent_bytes (length buf) in
        let counted = number-allowed (length words) in_use s.count (omega arith) number in
        let four : Bool = not (leb (wrote C.rule S s xs).place (8 * bytes)) in
        let now : SaidOn W (Beside W) = answered_on (record { writer = C.hold (wrote C.rule S s xs); entries = entries_for (s.count + length xs) }) in
        judging.judged-parts (refusing (C.hold s)) (start_causes C s (length xs) bytes) _ now
        ∙ ap (λ (x : SaidOn W (Beside W)). judge (refusing (C.hold s)) (start_causes C s (length xs) bytes) x)
        (ap₂ (λ (a b : Bool). judge (refusing (C.hold s)) (12 when a ∷ 13 when b ∷ 4 when (ltb (entries_lent (length words)) (entries_for (s.count + length xs)) || four) ∷ []) now)
        counted.0 counted.1.0
        ∙ ap (λ (a : Bool). judge (refusing (C.hold s)) (4 when (a || four) ∷ []) now) (le-ltb (entries_lent (length words)) (entries_for (s.count + length xs)) room))
        ∙ sym (judging.judged-parts (refusing (C.hold s)) (start_causes C s (length xs) bytes) (4 when four ∷ []) now)
        ∙ refused_as (C.hold s) (start_causes C s (length xs) bytes ++ (4 when four ∷ [])) _ _ f t (plain-parts s xs bytes (C.hold (wrote C.rule S s xs)) ∙ h)

    -- "and then neither buffer nor table nor state has changed"
    pub a-refused-write-changes-nothing : (f : Fault) (t : W) → table_write_answer C s xs buf words in_use ≡ refused_on f t
        → (t ≡ C.hold s) × (table_write_memory C s xs buf words in_use ≡ buf) × (table_write_table C s xs buf words in_use ≡ words)
    a-refused-write-changes-nothing f t h =
        let u = refused-untouched (C.hold s) (table_write_judged C s xs buf words in_use) _ f t h in (u.0, u.1 buf _, u.1 words _)

    -- of the words only those of the new entries change, accepted or not: those before them and behind them stay, and there are as many
    pub a-write-keeps-the-entries-in-use : take (words_each * in_use) (table_write_table C s xs buf words in_use) ≡ take (words_each * in_use) words
    a-write-keeps-the-entries-in-use =
        alike-after (take (words_each * in_use)) words _ _ (λ free.
        let says = write-says s xs (lent_bytes (length buf)) (length words) in_use free in
        laid-before words in_use (added C.rule S s xs) (omega (arith, entries_fit says.1 says.2)))

    pub a-write-keeps-the-words-behind : drop (words_each * entries_for (s.count + length xs)) (table_write_table C s xs buf words in_use)
        ≡ drop (words_each * entries_for (s.count + length xs)) words
    a-write-keeps-the-words-behind =
        alike-after (drop (words_each * entries_for (s.count + length xs))) words _ _ (λ free.
        let says = write-says s xs (lent_bytes (length buf)) (length words) in_use free in
        let es : List Entry = added C.rule S s xs in
        let all : in_use + length es ≡ entries_for (s.count + length xs) = omega (arith, says.1, added-count S C.rule s xs) in
        subst (λ (n : ℕ). drop (words_each * n) (laid_entries words in_use es) ≡ drop (words_each * n) words) all
        (laid-behind words in_use es (omega (arith, entries_fit says.1 says.2))))

    pub a-write-keeps-the-number-of-words : length (table_write_table C s xs buf words in_use) ≡ length words
    a-write-keeps-the-number-of-words =
        as_long words _ _ (λ free.
        let says = write-says s xs (lent_bytes (length buf)) (length words) in_use free in
        laid-length words in_use (added C.rule S s xs) (entries_fit says.1 says.2))

  -- "With a first value, entry 0 .. holds place 0, last +0 and the opening window", whatever last value a state of length 0 is handed in with
  pub entry-0-before-a-raw-value : GoodCoder C → C.stream.mode ≡ with_first → (s : State A) → s.count ≡ 0 → (x : ℕ) (xs buf words : List ℕ) (in_use : ℕ) (r : Beside W)
      → table_write_answer C s (x ∷ xs) buf words in_use ≡ answered_on r
      → get_elem? (table_in (table_write_table C s (x ∷ xs) buf words in_use) r.entries) 0 ≡ some (record { place = 0; last = 0; win = opening })
  unfolding table_in
  entry-0-before-a-raw-value good mode s none x xs buf words in_use r h =
      let es : List Entry = added C.rule S s (x ∷ xs) in
      let w = a-write-with-a-table-is-the-plain-one s (x ∷ xs) buf words in_use r h in
      let a = accepted-on (C.hold s) (table_write_judged C s (x ∷ xs) buf words in_use) _ r h in
      let starts = split C.first _ (split (start_causes C s (length (x ∷ xs)) (lent_bytes (length buf))) _ a.0).0 in
      let R = (usable-says S.format good.format (lent_bytes (length buf)) s (not-false _ starts.1.0)).2 in
      let none-in-use : in_use ≡ 0 = omega (arith, w.before) in
      let all : r.entries ≡ in_use + length es = omega (arith, w.after, w.before, added-count S C.rule s (x ∷ xs)) in
      ap (λ (d : List Entry). get_elem? d 0)
      (ap₂ table_in w.table all ∙ laid_table words in_use es (omega arith) ∙ ap (λ (n : ℕ). table_in words n ++ es) none-in-use)
      ∙ raw-entry-added C.rule S s mode none x xs
      ∙ ap₂ entry_of (R.started none) (opens R.window)
    where
      entry_of : ℕ → Window → Option Entry
      entry_of p win = some (record { place = p; last = 0; win = win })

      opens : (s.win ≡ opening) ⊎ ((0 < s.count) × Framed C.stream.format s.win) → s.win ≡ opening
      opens (inl e) = e
      opens (inr g) = absurd (omega (arith, g.0))

  -- ---- reopening, of any bytes

  opened-as : (q : Reopened A) (m : W) → resumed C q ≡ answered m → (t : State A) × (q ≡ reopened t) × (C.hold t ≡ m)
  opened-as (reopened t) m h = (t, refl, same_answer h)
  opened-as (unopened f) m h = absurd (not-answered h)

  opened-beside : (q : Reopened A) (r : Beside W) → resumed_beside C q ≡ answered r
      → (t : State A) × (q ≡ reopened t) × (◌≡◌ {A = Beside W} (record { writer = C.hold t; entries = entries_for t.count }) r)
  opened-beside (reopened t) r h = (t, refl, same_answer h)
  opened-beside (unopened f) r h = absurd (not-answered h)

  -- "lent memory is untouched": and of the words none is ever changed
  refused-reopening : (buf : List ℕ) (causes : List Cause) (q : Reopened A) (f : Fault) → judge refused causes (resumed_beside C q) ≡ refused f
      → judged_memory buf causes (buffer_after q buf) ≡ buf
  unfolding judge
  refused-reopening buf [] (reopened t) f h = absurd (not-refused h)
  refused-reopening buf [] (unopened g) f h = refl
  refused-reopening buf (n when true ∷ causes) q f h = refl
  refused-reopening buf (n when false ∷ causes) q f h = refused-reopening buf causes q f h

  opened-as-refused : (causes : List Cause) (q : Reopened A) (f : Fault) → judge refused causes (resumed C q) ≡ refused f → judge refused causes (resumed_beside C q) ≡ refused f
  unfolding judge
  opened-as-refused [] (reopened t) f h = absurd (not-refused h)
  opened-as-refused [] (unopened g) f h = ap refused (same-fault h)
  opened-as-refused (n when true ∷ causes) q f h = ap refused (same-fault h)
  opened-as-refused (n when false ∷ causes) q f h = opened-as-refused causes q f h

  -- what the plain reopening refuses is refused alike with a table, where the number of entries is lent and what the count asks for
  pub reopening-is-refused-as-the-plain-one : (l : ℕ) (buf : List ℕ) (used n k words in_use : ℕ) → in_use ≤ entries_lent words → in_use ≡ entries_for n
      → (f : Fault) → reopen_answer C l buf used n k ≡ refused f → table_reopen_answer C l buf used n k words in_use ≡ refused f
  reopening-is-refused-as-the-plain-one l buf used n k words in_use lent number f h =
      let first : List Cause = reopen_causes C.first (length buf) used n k in
      let q : Reopened A = reopening S l (take used buf) n k in
      judging.judged-parts refused first (table_causes words in_use n) (resumed_beside C q)
      ∙ ap (judge refused first) (sym (judging.accepted refused (resumed_beside C q) (table_causes words in_use n) (number-allowed words in_use n lent number)))
      ∙ opened-as-refused first q f h

  pub a-refused-reopening-changes-nothing : (l : ℕ) (buf : List ℕ) (used n k words in_use : ℕ) (f : Fault)
      → table_reopen_answer C l buf used n k words in_use ≡ refused f → table_reopen_memory C l buf used n k words in_use ≡ buf
  a-refused-reopening-changes-nothing l buf used n k words in_use f h =
      refused-reopening buf (table_reopen_causes C.first (length buf) used n k words in_use) (reopening S l (take used buf) n k) f h

  module _ (good : GoodCoder C) (l : ℕ) (hl : l < 2 ^ C.stream.format.width) (buf : List ℕ) (used n k words in_use : ℕ) where
    -- reopened at k, a state has k values
    opened-count : NoneHolds (reopen_causes C.first (length buf) used n k) → (t : State A) → reopening S l (take used buf) n k ≡ reopened t → t.count ≡ k
    opened-count free t e =
        let says = calls.reopen-says C.first (length buf) used n k free in
        go says.0 says.1 says.2 (read_all S n (fresh S l) (bits_of (take used buf))) refl
      where
        go : n ≤ most_values → k ≤ n → used ≤ length buf → (q : Reading A) → read_all S n (fresh S l) (bits_of (take used buf)) ≡ q → t.count ≡ k
        go most le fits (done vs u r) h =
            let R = any-resumed C.rule S good.format good.keeps l hl n k used buf le most fits vs u r h in
            let same : t ≡ R.state = cc R.opens in
            ap (λ (z : State A). z.count) same ∙ R.counted
        go most le fits (stopped f) h = absurd (never (cc (refused-reopen S n k (fresh S l) (bits_of (take used buf)) f h)))

    -- an accepted reopening with a table is the plain one, and answers as many entries as k asks for
    pub reopening-with-a-table-is-the-plain-one : (r : Beside W) → table_reopen_answer C l buf used n k words in_use ≡ answered r
        → ReopensBeside C l buf used n k words in_use r
    reopening-with-a-table-is-the-plain-one r h =
        let causes : List Cause = table_reopen_causes C.first (length buf) used n k words in_use in
        let first : List Cause = reopen_causes C.first (length buf) used n k in
        let a = answered-only causes (resumed_beside C (reopening S l (take used buf) n k)) r h in
        let parts = split first (table_causes words in_use n) a.0 in
        let o = opened-beside (reopening S l (take used buf) n k) r a.1 in
        let number = number-says words in_use n parts.1 in
        record {
          plain = sym (judging.accepted refused _ first parts.0) ∙ ap (resumed C) o.1 ∙ ap (λ (b : Beside W). answered b.writer) o.2;
          bytes = sym (judging.accepted (keeping buf) _ causes a.0) ∙ judging.accepted (keeping buf) _ first parts.0;
          before = number.1;
          after = ap (λ (b : Beside W). b.entries) (sym o.2) ∙ ap entries_for (opened-count parts.0 o.0 o.1);
          lent = number.0;
        }

    -- and it is accepted where the plain one is, and the number of entries is lent and what the count asks for
    pub a-plain-reopening-goes-with-a-table : (m : W) → reopen_answer C l buf used n k ≡ answered m → in_use ≤ entries_lent words → in_use ≡ entries_for n
        → table_reopen_answer C l buf used n k words in_use ≡ answered (record { writer = m; entries = entries_for k })
    a-plain-reopening-goes-with-a-table m h lent number =
        let causes : List Cause = table_reopen_causes C.first (length buf) used n k words in_use in
        let first : List Cause = reopen_causes C.first (length buf) used n k in
        let a = answered-only first (resumed C (reopening S l (take used buf) n k)) m h in
        let o = opened-as (reopening S l (take used buf) n k) m a.1 in
        sym (judging.accepted refused _ causes (joined first (table_causes words in_use n) a.0 (number-allowed words in_use n lent number)))
        ∙ ap (resumed_beside C) o.1
        ∙ ap₂ (λ (w : W) (i : ℕ). answered (record { writer = w; entries = entries_for i })) o.2 (opened-count a.0 o.0 o.1)

  -- a write and a reopening leave the buffer as long as it was, accepted or not
  pub a-write-keeps-the-length : GoodCoder C → (s : State A) (xs buf words : List ℕ) (in_use : ℕ) → length (table_write_memory C s xs buf words in_use) ≡ length buf
  a-write-keeps-the-length good s xs buf words in_use =
      as_long buf _ (table_write_judged C s xs buf words in_use) (λ free.
      ap length (judging.accepted (keeping buf) _ _ (write-says s xs (lent_bytes (length buf)) (length words) in_use free).0) ∙ calls.a-write-keeps-the-length C good s xs buf)

  pub reopening-keeps-the-length : GoodCoder C → (l : ℕ) → l < 2 ^ C.stream.format.width → (buf : List ℕ) (used n k words in_use : ℕ)
      → length (table_reopen_memory C l buf used n k words in_use) ≡ length buf
  reopening-keeps-the-length good l hl buf used n k words in_use =
      as_long buf _ (table_reopen_causes C.first (length buf) used n k words in_use) (λ free.
      ap length (judging.accepted (keeping buf) _ _ (split (reopen_causes C.first (length buf) used n k) (table_causes words in_use n) free).0)
      ∙ calls.reopening-keeps-the-length C good l buf used n k hl)

  -- ---- the spine: beside a stream that is written, stopped and resumed stands the table of its inputs

  module _ (good : GoodCoder C) (l : ℕ) where
    -- a fresh writer has no entries in use, whatever the buffer and the words hold
    pub a-fresh-writer-with-a-table : (buf words : List ℕ) (m : W) → new_answer C l ≡ answered m → MadeByBeside C l [] buf m words 0
    unfolding table_in entries kept_from
    a-fresh-writer-with-a-table buf words m h = record { made = calls.a-fresh-writer C good l buf m h; lent = omega arith; beside = refl }

    module _ {xs buf : List ℕ} {m : W} {words : List ℕ} {in_use : ℕ} (M : MadeByBeside C l xs buf m words in_use) where
      -- it has as many entries as its inputs ask for
      pub its-number-of-entries : in_use ≡ entries_for (length xs)
      its-number-of-entries = sym (table-length words in_use) ∙ ap length M.beside ∙ run-number C.rule S l xs

      counted : (state_over C l xs).count ≡ length xs
      counted = run-count C.rule S l xs

      -- "Writing adds entries": an accepted write leaves the table of both lists, for any list, the empty one too
      pub a-write-adds-its-entries : (ys : List ℕ) (r : Beside W) → table_write_answer C (state_over C l xs) ys buf words in_use ≡ answered_on r
          → MadeByBeside C l (xs ++ ys) (table_write_memory C (state_over C l xs) ys buf words in_use) r.writer
          (table_write_table C (state_over C l xs) ys buf words in_use) r.entries
      a-write-adds-its-entries ys r h =
          let s : State A = state_over C l xs in
          let es : List Entry = added C.rule S s ys in
          let w = a-write-with-a-table-is-the-plain-one s ys buf words in_use r h in
          let long = a-write-keeps-the-number-of-words s ys buf words in_use in
          let all : r.entries ≡ in_use + length es = omega (arith, w.after, w.before, added-count S C.rule s ys) in
          record {
            made = subst (λ (z : List ℕ). MadeBy C l (xs ++ ys) z r.writer) (sym w.bytes) (calls.a-write-goes-on C good l M.made ys r.writer w.plain);
            lent = subst (λ (n : ℕ). r.entries ≤ entries_lent n) (sym long) w.lent;
            beside =
                ap₂ table_in w.table all ∙ laid_table words in_use es (omega (arith, M.lent))
                ∙ ap (λ (d : List Entry). d ++ es) M.beside ∙ sym (table-append C.rule S l xs ys);
          }

      module _ (bx : Below C.stream.format.width xs) (hl : l < 2 ^ C.stream.format.width) (free : NoneHolds C.first) where
        -- and it is accepted, wherever room for bits and entries and the count limit allow
        pub a-write-with-a-table-is-accepted : (ys : List ℕ) → length xs + length ys ≤ most_values → (state_over C l (xs ++ ys)).place ≤ 8 * length buf
            → entries_for (length xs + length ys) ≤ entries_lent (length words)
            → table_write_answer C (state_over C l xs) ys buf words in_use ≡ answered_on (over C l (xs ++ ys))
        a-write-with-a-table-is-accepted ys most room lent =
            let s : State A = state_over C l xs in
            let all : s.count + length ys ≡ length (xs ++ ys) = omega (arith, counted, length-append xs ys) in
            a-plain-write-goes-with-a-table s ys buf words in_use (C.hold (state_over C l (xs ++ ys)))
            (calls.a-write-is-accepted C good l M.made bx hl free ys most room)
            (its-number-of-entries ∙ ap entries_for (sym counted)) (omega (arith, counted))
            ∙ ap (λ (n : ℕ). answered_on (record { writer = C.hold (state_over C l (xs ++ ys)); entries = entries_for n })) all

        module _ (few : length xs ≤ most_values) (k : ℕ) (le : k ≤ length xs) where
          abbrev used : ℕ
          used = whole_bytes (C.state m).place

          -- "reopening at k drops those for k and above": it answers the writer after the first k inputs and how many entries stay, and leaves the buffer as
          -- the plain call does; the entries below k stay, and are the table of these inputs
          pub reopening-keeps-the-entries-below : (table_reopen_answer C l buf used (length xs) k (length words) in_use ≡ answered (over C l (take k xs)))
              × (table_reopen_memory C l buf used (length xs) k (length words) in_use ≡ reopen_memory C l buf used (length xs) k)
              × MadeByBeside C l (take k xs) (table_reopen_memory C l buf used (length xs) k (length words) in_use) (C.hold (state_over C l (take k xs))) words (entries_for k)
          reopening-keeps-the-entries-below =
              let back = calls.reopening-goes-back C good l M.made bx hl free few k le in
              let opens = a-plain-reopening-goes-with-a-table good l hl buf used (length xs) k (length words) in_use _ back.0 M.lent its-number-of-entries in
              let w = reopening-with-a-table-is-the-plain-one good l hl buf used (length xs) k (length words) in_use _ opens in
              let fewer : entries_for k ≤ in_use = omega (arith, its-number-of-entries) in (
                opens ∙ ap (λ (n : ℕ). answered (record { writer = C.hold (state_over C l (take k xs)); entries = entries_for n })) (sym (length-take-le k xs le)),
                w.bytes,
                record {
                  made = subst (λ (z : List ℕ). MadeBy C l (take k xs) z (C.hold (state_over C l (take k xs)))) (sym w.bytes) back.1;
                  lent = omega (arith, M.lent);
                  beside =
                      sym (take-table words (entries_for k) in_use fewer) ∙ ap (take (entries_for k)) M.beside ∙ table-take C.rule S l xs k le;
                },
              )

    -- reopened so, any further list that room, count limit and lent entries allow is accepted, and leaves the buffer, the writer and the table of one fresh
    -- run over the first k inputs and the list
    pub resumed-with-its-table : {xs buf : List ℕ} {m : W} {words : List ℕ} {in_use : ℕ} (M : MadeByBeside C l xs buf m words in_use)
        → Below C.stream.format.width xs → l < 2 ^ C.stream.format.width → NoneHolds C.first → length xs ≤ most_values → (k : ℕ) → k ≤ length xs
        → (ys : List ℕ) → k + length ys ≤ most_values → (state_over C l (take k xs ++ ys)).place ≤ 8 * length buf
        → entries_for (k + length ys) ≤ entries_lent (length words)
        → TableResumesAsOne C l xs buf (whole_bytes (C.state m).place) k words in_use ys
    resumed-with-its-table {xs} {buf} {m} {words} {in_use} M bx hl free few k le ys most room lent =
        let used : ℕ = whole_bytes (C.state m).place in
        let back = reopening-keeps-the-entries-below M bx hl free few k le in
        let long = reopening-keeps-the-length good l hl buf used (length xs) k (length words) in_use in
        let firsts : length (take k xs) ≡ k = length-take-le k xs le in
        let accepted =
        a-write-with-a-table-is-accepted back.2 (below-take C.stream.format.width k xs bx) hl free ys (omega arith) (omega (arith, room, long)) (omega arith) in
        record { opens = back.0; accepts = accepted; made = a-write-adds-its-entries back.2 ys _ accepted }

-- "An empty write changes nothing", of the table either: an accepted one answers the writer of the state that it began with, and as many entries; and
-- whether or not it is accepted the buffer and the words are what they were
pub an-empty-write-changes-nothing : {A W : Type 0} (C : Coder A W) (s : State A) (buf words : List ℕ) (in_use : ℕ) → Below 8 buf
    → ((r : Beside W) → table_write_answer C s [] buf words in_use ≡ answered_on r → (r.writer ≡ C.hold s) × (r.entries ≡ in_use))
    × (table_write_memory C s [] buf words in_use ≡ buf) × (table_write_table C s [] buf words in_use ≡ words)
unfolding encode after kept_from entries
an-empty-write-changes-nothing C s buf words in_use small = (
  λ r h.
      let w = a-write-with-a-table-is-the-plain-one C s [] buf words in_use r h in
      let same : s.count + 0 ≡ s.count = omega arith in
      (sym (same-answer-on (accepted-on (C.hold s) _ _ r.writer w.plain).1), w.after ∙ ap entries_for same ∙ sym w.before),
  stays buf _ _ (λ free. laid_in-nothing buf s.place small),
  stays words _ _ (λ free. laid_none words in_use),
)
