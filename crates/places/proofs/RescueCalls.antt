-- Rescue with a place table, over any writer of a stream: the table that it makes anew is that of what it keeps. Assumes nothing.
use mathlib.Core.Path.{◌≡◌, refl, sym, ap, ap₂, ◌∙◌, subst}
use mathlib.Core.Bool.{Bool, true, false}
use mathlib.Core.Logic.{◌⊎◌, inl, inr}
use mathlib.Core.List.{List, [], ◌∷◌, ◌++◌, append-nil}
use Prim.Native.Nat.{ℕ, ◌+◌, ◌*◌, ◌^◌, ◌≤◌, ◌<◌}
use native.Mathlib.Omega.{arith}
use borrow.Author.Tests.{le-ltb, ltb-false}
use lib.Dec.{ltb}
use lib.ListN.{length, take, drop}
use lib.Seq.{length-take-le}
use Rattle.bits.specs.Bits.{Below, bits_of, whole_bytes, padded, cut_in}
use Rattle.bits.proofs.Below.{below-nil, below-take}
use Rattle.bits.proofs.InBytes.{length-cut_in}
use Rattle.models.specs.Answers.{answered, refused, Cause, ◌when◌, judge, verdict, keeping, NoneHolds}
use Rattle.models.specs.declared.Fault.{Fault}
use Rattle.models.proofs.Judged.{not-answered, not-refused, same_answer, same-fault, answered-only}
use Rattle.models.proofs.Judged as judging
use Rattle.stream.specs.Format.{Stream, State, fresh, most_values}
use Rattle.stream.specs.Write.{kept_from, encode, after}
use Rattle.stream.specs.Read.{done, read_n, read_all, Reopened, reopened, unopened, buffer_after}
use Rattle.stream.specs.Calls.{Coder, rescuing, rescue_causes, rescue_answer, rescue_memory, resumed}
use Rattle.stream.specs.Made.{MadeBy, state_over}
use Rattle.stream.specs.Rescued.{Saves, Rescues}
use Rattle.stream.specs.Needs.{GoodCoder}
use Rattle.stream.proofs.AnyStream.{cut_left}
use Rattle.stream.proofs.Calls.{split, joined, in-theory}
use Rattle.stream.proofs.RescueCalls.{rescue-says, by-the-stream, cut-reads, what-is-rescued}
use Rattle.places.specs.Table.{Entry, entries_for, entries, entries_in, MadeBeside, table_of}
use Rattle.places.specs.Calls.{words_each, entries_lent, table_in, laid_entries, Beside, resumed_beside, check_answer, MadeByBeside, OwnTable}
use Rattle.places.specs.Rescue.{table_rescue_causes, table_anew, table_rescue_answer, table_rescue_memory, table_rescue_table, RescuesBeside, SavesBeside}
use Rattle.places.proofs.Entries.{own-number}
use Rattle.places.proofs.Words.{laid-behind, laid_table, laid-length}
use Rattle.places.proofs.Check.{made-own}
use Rattle.places.proofs.Resume.{entries-go-on}
use Rattle.places.proofs.Calls.{a-write-adds-its-entries, a-write-with-a-table-is-accepted}
use Rattle.places.proofs.ReadCalls.{the-check-accepts-exactly-its-own-table}

-- what holds where none of the causes does
pub table-rescue-says : (first : List Cause) (room used limit words : ℕ) → NoneHolds (table_rescue_causes first room used limit words)
    → NoneHolds (rescue_causes first room used limit) × (entries_for limit ≤ entries_lent words)
table-rescue-says first room used limit words free =
    let parts = split (rescue_causes first room used limit) _ free in
    (parts.0, ltb-false (entries_lent words) (entries_for limit) parts.1.0)

-- entries from the first words on: they are the table, and the words behind them stay
module _ (words : List ℕ) (es : List Entry) (fits : words_each * length es ≤ length words) where
  none_before : 0 + length es ≡ length es
  none_before = omega arith

  laid-first : table_in (laid_entries words 0 es) (length es) ≡ es
  unfolding table_in
  laid-first = ap (table_in (laid_entries words 0 es)) (sym none_before) ∙ laid_table words 0 es (omega arith)

  stays-behind : drop (words_each * length es) (laid_entries words 0 es) ≡ drop (words_each * length es) words
  stays-behind = subst (λ (n : ℕ). drop (words_each * n) (laid_entries words 0 es) ≡ drop (words_each * n) words) none_before (laid-behind words 0 es (omega arith))

module _ {A W : Type 0} (C : Coder A W) (good : GoodCoder C) (l : ℕ) (hl : l < 2 ^ C.stream.format.width) where
  abbrev S : Stream A
  S = C.stream

  -- the entries of the values that were read are those of what the cut leaves
  entries-left : (buf : List ℕ) (used : ℕ) → used ≤ length buf → (vs : List ℕ) (t : State A) (r : List Bool)
      → read_n S (length vs) (fresh S l) (bits_of (take used buf)) ≡ done vs t r
      → entries_in S (length vs) (fresh S l) (bits_of (take (whole_bytes t.place) (cut_in buf t.place))) ≡ entries_in S (length vs) (fresh S l) (bits_of (take used buf))
  unfolding kept_from encode after entries
  entries-left buf used fits vs t r e =
      let k : ℕ = length vs in
      let bits : List Bool = bits_of (take used buf) in
      let p : ℕ = t.place in
      let count : k ≡ k + 0 = omega arith in
      let at = (cut-reads C good l hl buf used fits vs t r e).0 in
      ap₂ (λ (n : ℕ) (z : List Bool). entries_in S n (fresh S l) z) count (cut_left used buf fits p at ∙ ap padded (sym (append-nil (take p bits))))
      ∙ entries-go-on S good.format l hl k bits vs t r e C.rule good.keeps [] (below-nil C.stream.format.width)
      ∙ append-nil (entries_in S k (fresh S l) bits)

  module _ (buf : List ℕ) (used limit : ℕ) (words : List ℕ) where
    abbrev causes : List Cause
    causes = table_rescue_causes C.first (length buf) used limit (length words)

    -- ---- where nothing but the stream refuses it

    with-a-table : NoneHolds causes → (t : State A) → rescuing S l (take used buf) limit ≡ reopened t
        → (table_rescue_answer C l buf used limit (length words) ≡ answered (record { writer = C.hold t; entries = entries_for t.count }))
        × (table_rescue_memory C l buf used limit (length words) ≡ rescue_memory C l buf used limit)
        × (table_rescue_table C l buf used limit words ≡ laid_entries words 0 (entries_in S t.count (fresh S l) (bits_of (take used buf))))
    with-a-table free t e = (
      sym (judging.accepted refused _ causes free) ∙ ap (resumed_beside C) e,
      sym (judging.accepted (keeping buf) _ causes free) ∙ judging.accepted (keeping buf) _ _ (table-rescue-says C.first (length buf) used limit (length words) free).0,
      sym (judging.accepted (keeping words) _ causes free) ∙ ap (table_anew S l (take used buf) words) e,
    )

    -- a state that is answered, without a table and with one
    opened-plainly : (t : State A) → rescue_answer C l buf used limit ≡ answered (C.hold t)
        → NoneHolds (rescue_causes C.first (length buf) used limit) × (rescuing S l (take used buf) limit ≡ reopened t)
    opened-plainly t h =
        let a = answered-only (rescue_causes C.first (length buf) used limit) (resumed C (rescuing S l (take used buf) limit)) (C.hold t) h in
        (a.0, go (rescuing S l (take used buf) limit) a.1)
      where
        go : (q : Reopened A) → resumed C q ≡ answered (C.hold t) → q ≡ reopened t
        go (reopened u) i = ap reopened (sym (good.holds u) ∙ ap C.state (same_answer i) ∙ good.holds t)
        go (unopened f) i = absurd (not-answered i)

    opened-beside : (q : Reopened A) (r : Beside W) → resumed_beside C q ≡ answered r
        → (t : State A) × (q ≡ reopened t) × (record { writer = C.hold t; entries = entries_for t.count } ≡ r)
    opened-beside (reopened t) r h = (t, refl, same_answer h)
    opened-beside (unopened f) r h = absurd (not-answered h)

    -- ---- any bytes at all

    -- the values that were read, and the table of their entries in the lent words
    module _ (free : NoneHolds causes) (t : State A) (e : rescuing S l (take used buf) limit ≡ reopened t) where
      says : NoneHolds C.first × (limit ≤ most_values) × (used ≤ length buf)
      says = rescue-says C.first (length buf) used limit (table-rescue-says C.first (length buf) used limit (length words) free).0

      plain : (rescue_answer C l buf used limit ≡ answered (C.hold t)) × (rescue_memory C l buf used limit ≡ cut_in buf t.place)
      plain = by-the-stream C good l buf used limit (reopened t) says.0 says.1 says.2 e

      R : Rescues C l limit used buf (C.hold t)
      R = what-is-rescued C good l hl buf used limit (C.hold t) plain.0

      is : R.state ≡ t
      is = sym (good.holds R.state) ∙ ap C.state (sym R.held) ∙ good.holds t

      count : t.count ≡ length R.values
      count = ap (λ (z : State A). z.count) (sym is) ∙ R.counted

      reads : read_n S (length R.values) (fresh S l) (bits_of (take used buf)) ≡ done R.values t R.rest
      reads = R.in_them ∙ ap (λ (z : State A). done R.values z R.rest) is

      abbrev es : List Entry
      es = entries_in S t.count (fresh S l) (bits_of (take used buf))

      number : length es ≡ entries_for t.count
      number = own-number S l t.count (bits_of (take used buf)) R.values t R.rest (ap (λ (n : ℕ). read_n S n (fresh S l) (bits_of (take used buf))) count ∙ reads)

      enough : entries_for t.count ≤ entries_lent (length words)
      enough = omega (arith, (table-rescue-says C.first (length buf) used limit (length words) free).1, count, R.few)

      fits : words_each * length es ≤ length words
      fits = omega (arith, number, enough)

      long : length (laid_entries words 0 es) ≡ length words
      long = laid-length words 0 es (omega (arith, fits))

      -- the check accepts it on what is left
      own : OwnTable S l (take (whole_bytes t.place) (cut_in buf t.place)) t.count (laid_entries words 0 es) (entries_for t.count)
      own =
          let left : List Bool = bits_of (take (whole_bytes t.place) (cut_in buf t.place)) in
          record {
            few = omega (arith, count, R.few, says.1);
            lent = subst (λ (n : ℕ). entries_for t.count ≤ entries_lent n) (sym long) enough;
            belongs =
                record {
                  values = R.values;
                  state = t;
                  rest = _;
                  reads = ap (λ (n : ℕ). read_all S n (fresh S l) left) count ∙ (cut-reads C good l hl buf used says.2 R.values t R.rest reads).1;
                  own =
                      ap (table_in (laid_entries words 0 es)) (sym number) ∙ laid-first words es fits
                      ∙ ap (λ (n : ℕ). entries_in S n (fresh S l) (bits_of (take used buf))) count
                      ∙ sym (entries-left buf used says.2 R.values t R.rest reads)
                      ∙ ap (λ (n : ℕ). entries_in S n (fresh S l) left) (sym count);
                };
          }

      beside-the-state : RescuesBeside C l limit used buf words (record { writer = C.hold t; entries = entries_for t.count })
      beside-the-state =
          let w = with-a-table free t e in
          let held : C.state (C.hold t) ≡ t = good.holds t in
          record {
            plain = plain.0;
            bytes = w.1;
            number = ap (λ (z : State A). entries_for z.count) (sym held);
            lent = enough;
            long = ap length w.2 ∙ long;
            behind =
                subst (λ (n : ℕ). drop (words_each * n) (table_rescue_table C l buf used limit words) ≡ drop (words_each * n) words) number
                (ap (drop (words_each * length es)) w.2 ∙ stays-behind words es fits);
            checks =
                subst (λ (z : State A). check_answer S l (take (whole_bytes z.place) (table_rescue_memory C l buf used limit (length words))) z.count (table_rescue_table C l buf used limit words) (entries_for t.count) ≡ answered tt)
                (sym held)
                (ap₂ (λ (mem tab : List ℕ). check_answer S l (take (whole_bytes t.place) mem) t.count tab (entries_for t.count)) (w.1 ∙ plain.1) w.2
                ∙ (the-check-accepts-exactly-its-own-table S l (take (whole_bytes t.place) (cut_in buf t.place)) t.count (laid_entries words 0 es) (entries_for t.count)).1 own);
          }

    pub what-is-rescued-with-a-table : (r : Beside W) → table_rescue_answer C l buf used limit (length words) ≡ answered r → RescuesBeside C l limit used buf words r
    what-is-rescued-with-a-table r h =
        let a = answered-only causes (resumed_beside C (rescuing S l (take used buf) limit)) r h in
        let o = opened-beside (rescuing S l (take used buf) limit) r a.1 in
        subst (RescuesBeside C l limit used buf words) o.2 (beside-the-state a.0 o.0 o.1)

    -- a plain rescue goes with a table, if there is room for the entries of the limit
    goes-with-a-table : (t : State A) → rescue_answer C l buf used limit ≡ answered (C.hold t) → entries_for limit ≤ entries_lent (length words)
        → NoneHolds causes × (rescuing S l (take used buf) limit ≡ reopened t)
    goes-with-a-table t h lent =
        let o = opened-plainly t h in
        (joined (rescue_causes C.first (length buf) used limit) _ o.0 (le-ltb (entries_lent (length words)) (entries_for limit) lent, tt), o.1)

    -- ---- what is refused: by its causes, or as the plain call refuses the bytes; nothing has changed

    pub what-is-refused-with-a-table : (f : Fault) → table_rescue_answer C l buf used limit (length words) ≡ refused f
        → (table_rescue_memory C l buf used limit (length words) ≡ buf) × (table_rescue_table C l buf used limit words ≡ words)
        × ((verdict causes ≡ refused f) ⊎ ((verdict causes ≡ answered tt) × (rescue_answer C l buf used limit ≡ refused f)))
    unfolding judge
    what-is-refused-with-a-table f h = by (rescue_causes C.first (length buf) used limit) (ltb (entries_lent (length words)) (entries_for limit)) h
      where
        in_bytes : (q : Reopened A) → resumed_beside C q ≡ refused f
            → (buffer_after q buf ≡ buf) × (table_anew S l (take used buf) words q ≡ words) × (resumed C q ≡ refused f)
        in_bytes (reopened t) i = absurd (not-refused i)
        in_bytes (unopened g) i = (refl, refl, ap refused (same-fault i))

        by : (cs : List Cause) (short : Bool) → judge refused (cs ++ (4 when short ∷ [])) (resumed_beside C (rescuing S l (take used buf) limit)) ≡ refused f
            → (judge (keeping buf) (cs ++ (4 when short ∷ [])) (buffer_after (rescuing S l (take used buf) limit) buf) ≡ buf)
            × (judge (keeping words) (cs ++ (4 when short ∷ [])) (table_anew S l (take used buf) words (rescuing S l (take used buf) limit)) ≡ words)
            × ((verdict (cs ++ (4 when short ∷ [])) ≡ refused f)
            ⊎ ((verdict (cs ++ (4 when short ∷ [])) ≡ answered tt) × (judge refused cs (resumed C (rescuing S l (take used buf) limit)) ≡ refused f)))
        by [] true i = (refl, refl, inl (ap refused (same-fault i)))
        by [] false i = let b = in_bytes (rescuing S l (take used buf) limit) i in (b.0, b.1, inr (refl, b.2))
        by (n when true ∷ cs) short i = (refl, refl, inl (ap refused (same-fault i)))
        by (n when false ∷ cs) short i = by cs short i

  -- ---- a stream that a fresh writer made, of which the first j bytes arrived

  module _ {xs : List ℕ} {j : ℕ} {buf : List ℕ} (R : Saves C l xs j buf) (bx : Below C.stream.format.width xs) (free : NoneHolds C.first)
      (words : List ℕ) (lent : entries_for (length xs) ≤ entries_lent (length words)) where
    abbrev k : ℕ
    k = R.number

    abbrev t : State A
    t = state_over C l (take k xs)

    firsts : length (take k xs) ≡ k
    firsts = length-take-le k xs R.few

    goes : NoneHolds (causes buf j (length xs) words) × (rescuing S l (take j buf) (length xs) ≡ reopened t)
    goes = goes-with-a-table buf j (length xs) words t R.answers lent

    B : RescuesBeside C l (length xs) j buf words (record { writer = C.hold t; entries = entries_for t.count })
    B = beside-the-state buf j (length xs) words goes.0 t goes.1

    counted : entries_for t.count ≡ entries_for k
    counted = ap entries_for R.counted

    -- the table of one fresh run over the kept inputs
    beside-kept : table_in (table_rescue_table C l buf j (length xs) words) (entries_for k) ≡ table_of C.rule S l (take k xs)
    beside-kept =
        let M = in-theory C good l R.made in
        let N : MadeBeside C.rule S l (take k xs) (rescue_memory C l buf j (length xs)) t (table_of C.rule S l (take k xs)) = record { made = M.1; beside = refl } in
        let o = (the-check-accepts-exactly-its-own-table S l _ _ (table_rescue_table C l buf j (length xs) words) (entries_for t.count)).0 B.checks in
        let held : C.state (C.hold t) ≡ t = good.holds t in
        ap (table_in (table_rescue_table C l buf j (length xs) words)) (sym counted) ∙ o.belongs.own
        ∙ ap (λ (z : State A). entries_in S z.count (fresh S l) (bits_of (take (whole_bytes z.place) (table_rescue_memory C l buf j (length xs) (length words))))) held
        ∙ ap₂ (λ (n : ℕ) (mem : List ℕ). entries_in S n (fresh S l) (bits_of (take (whole_bytes t.place) mem))) (R.counted ∙ sym firsts) B.bytes
        ∙ sym (made-own C.rule S l N good.format good.keeps hl (below-take C.stream.format.width k xs bx))

    made-beside : MadeByBeside C l (take k xs) (table_rescue_memory C l buf j (length xs) (length words)) (C.hold t) (table_rescue_table C l buf j (length xs) words) (entries_for k)
    made-beside =
        record {
          made = subst (λ (z : List ℕ). MadeBy C l (take k xs) z (C.hold t)) (sym B.bytes) R.made;
          lent = subst (λ (n : ℕ). entries_for k ≤ entries_lent n) (sym B.long) (omega (arith, lent, R.few));
          beside = beside-kept;
        }

    pub keeps-what-arrived-with-a-table : SavesBeside C l xs j buf words R
    keeps-what-arrived-with-a-table =
        let w = with-a-table buf j (length xs) words goes.0 t goes.1 in
        let size : length (table_rescue_memory C l buf j (length xs) (length words)) ≡ length buf =
        ap length (w.1 ∙ (plain buf j (length xs) words goes.0 t goes.1).1)
        ∙ length-cut_in buf t.place (omega (arith, R.here, (says buf j (length xs) words goes.0 t goes.1).2)) in
        record {
          answers = w.0 ∙ ap (λ (n : ℕ). answered (record { writer = C.hold t; entries = entries_for n })) (R.counted ∙ sym firsts);
          made = made-beside;
          accepts = λ ys most room more.
              a-write-with-a-table-is-accepted C good l made-beside (below-take C.stream.format.width k xs bx) hl free ys (omega (arith, firsts)) (omega (arith, room, size))
              (omega (arith, firsts, more, B.long));
          goes_on = λ ys r h. a-write-adds-its-entries C good l made-beside ys r h;
          any_limit = λ lt i le most more.
              let a = R.any_limit lt i le most in
              let g = goes-with-a-table buf j i words t (a.0 ∙ R.answers) more in
              let v = with-a-table buf j i words g.0 t g.1 in
              (v.0 ∙ sym w.0, v.1 ∙ a.1 ∙ sym w.1, v.2 ∙ sym w.2);
        }
