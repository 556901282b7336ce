-- The promises of the calls, over any writer of a stream: what a write, a reopening and a grid answer and leave in lent memory. Assumes nothing.
use mathlib.Core.Path.{◌≡◌, refl, sym, ap, ap₂, ◌∙◌, subst}
use mathlib.Core.Bool.{Bool, true, false, not, ◌||◌}
use mathlib.Core.List.{List, [], ◌∷◌, ◌++◌}
use Prim.Native.Nat.{ℕ, ◌+◌, ◌*◌, ◌^◌, ◌≤◌, ◌<◌}
use native.Mathlib.Nat.{min-le_left, mul-le-mul_right}
use native.Mathlib.Omega.{arith}
use borrow.Author.Tests.{le-leb, le-ltb, leb-true, ltb-false, not-false}
use lib.Dec.{ltb}
use lib.ListN.{length, take, drop}
use lib.Seq.{length-take-le}
use Rattle.bits.specs.Bits.{Below, bits_of, whole_bytes, cut_in}
use Rattle.bits.proofs.Below.{below-nil, below-take}
use Rattle.bits.proofs.InBytes.{length-laid_in, laid_in-nothing, length-cut_in}
use Rattle.models.specs.Answers.{Said, answered, refused, answered_on, Cause, ◌when◌, judge, judged_memory, verdict, keeping, NoneHolds}
use Rattle.models.proofs.Judged.{not-answered, same_answer, none, accepted-only, answered-only}
use Rattle.models.proofs.Judged as judging
use Rattle.models.proofs.Tests.{neither}
use Rattle.stream.specs.Format.{Format, Stream, State, fresh, most_values, usable}
use Rattle.stream.specs.Write.{kept_from, kept, encode, after, written, wrote, wrote_in, stream_of}
use Rattle.stream.specs.Read.{Reading, done, stopped, read_all, Reopened, reopened, buffer_after}
use Rattle.stream.specs.Calls.{Coder, lent_bytes, values_read, values_in, drawn, drawn_in, grid_causes, grid_answer, grid_memory, reopening, new_answer, start_causes, write_causes, write_answer, write_memory, reopen_causes, resumed, reopen_answer, reopen_memory}
use Rattle.stream.specs.Made.{Made, MadeBy, state_over, ResumesAsOne, Resumes}
use Rattle.stream.specs.Needs.{longest, GoodCoder}
use Rattle.stream.proofs.Writing.{fresh-small, place_after, count-after, length-kept, wrote-append}
use Rattle.stream.proofs.Rule.{usable-says, usable-if}
use Rattle.stream.proofs.Made as spine
use Rattle.stream.proofs.AnyStream.{any-resumed}
use Rattle.stream.proofs.Reopen.{refused-reopen}
use Rattle.stream.proofs.Near.{Near, NearIn, wrote-near, all_near}

-- ---- causes in two parts

pub split : (first later : List Cause) → NoneHolds (first ++ later) → NoneHolds first × NoneHolds later
split [] later h = (tt, h)
split (n when t ∷ first) later h = let r = split first later h.1 in ((h.0, r.0), r.1)

pub joined : (first later : List Cause) → NoneHolds first → NoneHolds later → NoneHolds (first ++ later)
joined [] later f l = l
joined (n when t ∷ first) later f l = (f.0, joined first later f.1 l)

-- lent memory, which no refusal touches, is told by f as it was where it is so without a refusal: as long as it was, or what it was
pub alike-after : {X : Type 0} (f : List ℕ → X) (buf after : List ℕ) (causes : List Cause) → (NoneHolds causes → f after ≡ f buf) → f (judged_memory buf causes after) ≡ f buf
unfolding judge
alike-after f buf after [] h = h tt
alike-after f buf after (n when true ∷ causes) h = refl
alike-after f buf after (n when false ∷ causes) h = alike-after f buf after causes (λ free. h (refl, free))

pub as_long : (buf after : List ℕ) (causes : List Cause) → (NoneHolds causes → length after ≡ length buf) → length (judged_memory buf causes after) ≡ length buf
as_long = alike-after length

pub stays : (buf after : List ℕ) (causes : List Cause) → (NoneHolds causes → after ≡ buf) → judged_memory buf causes after ≡ buf
stays = alike-after (λ (z : List ℕ). z)

-- what holds where nothing refuses a reopening
pub reopen-says : (first : List Cause) (room used n k : ℕ) → NoneHolds (reopen_causes first room used n k) → (n ≤ most_values) × (k ≤ n) × (used ≤ room)
reopen-says first room used n k free =
    let later = (split first _ free).1 in
    let tests = neither (ltb n k) (ltb room used) later.1.0 in
    (ltb-false most_values n later.0, ltb-false n k tests.0, ltb-false room used tests.1)

-- what was read, and the state behind it
pub read_whole_lem : {A : Type 0} (q : Reading A) (vs : List ℕ) → values_read q ≡ answered vs → (t : State A) × (r : List Bool) × (q ≡ done vs t r)
read_whole_lem (done us t r) vs h = (t, r, ap (λ (z : List ℕ). done z t r) (same_answer h))
read_whole_lem (stopped f) vs h = absurd (not-answered h)

-- the grid draws what is read, where the output has room; later places of it stay
pub a-grid-draws : {A : Type 0} (S : Stream A) (l : ℕ) (bytes : List ℕ) (n : ℕ) (vs : List ℕ) → values_in S l bytes n ≡ answered vs → n ≤ most_values
    → (out : List ℕ) → n ≤ length out
    → (grid_answer S l bytes n (length out) ≡ answered tt) × (grid_memory S l bytes n out ≡ vs ++ drop (length vs) out)
a-grid-draws S l bytes n vs values most out long =
    let no : NoneHolds (grid_causes n (length out)) = (le-ltb most_values n most, (le-ltb (length out) n long, tt)) in (
      sym (judging.accepted refused _ (grid_causes n (length out)) no) ∙ ap drawn values,
      sym (judging.accepted (keeping out) _ (grid_causes n (length out)) no) ∙ ap (drawn_in out) values,
    )

module _ {A W : Type 0} (C : Coder A W) (good : GoodCoder C) where
  abbrev S : Stream A
  S = C.stream

  abbrev F : Format
  F = C.stream.format

  -- ---- what holds where none of the causes does

  -- the state is placed in the bytes, and there are not too many values
  pub started : (s : State A) (more bytes : ℕ) → verdict (start_causes C s more bytes) ≡ answered tt → (s.place ≤ 8 * bytes) × (s.count + more ≤ most_values)
  started s more bytes h =
      let fails = (split C.first _ (none (start_causes C s more bytes) h)).1 in
      ((usable-says F good.format bytes s (not-false _ fails.0)).0, ltb-false most_values (s.count + more) fails.1.0)

  -- and the bits after the write are in the buffer
  pub accepted : (s : State A) (xs : List ℕ) (bytes : ℕ) → verdict (write_causes C s xs bytes) ≡ answered tt
      → (s.place ≤ 8 * bytes) × (s.count + length xs ≤ most_values) × ((wrote C.rule S s xs).place ≤ 8 * bytes)
  accepted s xs bytes h =
      let fails = (split C.first _ (none (write_causes C s xs bytes) h)).1 in (
        (usable-says F good.format bytes s (not-false _ fails.0)).0,
        ltb-false most_values (s.count + length xs) fails.1.0,
        leb-true (wrote C.rule S s xs).place (8 * bytes) (not-false _ fails.1.1.0),
      )

  -- an accepted write, as the theory has it
  pub wrote_on : (s : State A) (ys buf : List ℕ) (n : W) → write_answer C s ys buf ≡ answered_on n
      → (n ≡ C.hold (wrote C.rule S s ys)) × ((wrote C.rule S s ys).place ≤ 8 * length buf) × (write_memory C s ys buf ≡ wrote_in C.rule S s ys buf)
  wrote_on s ys buf n h =
      let causes : List Cause = write_causes C s ys (lent_bytes (length buf)) in
      let a = accepted-only (C.hold s) causes (C.hold (wrote C.rule S s ys)) n h in (
        sym a.1,
        omega (arith, (accepted s ys (lent_bytes (length buf)) a.0).2, min-le_left (length buf) (2 ^ 60)),
        sym (judging.accepted (keeping buf) (wrote_in C.rule S s ys buf) causes (none causes a.0)),
      )

  -- ---- what a write leaves of the buffer's length, and what an empty one changes

  -- a write leaves the buffer as long as it was, accepted or not
  pub a-write-keeps-the-length : (s : State A) (ys buf : List ℕ) → length (write_memory C s ys buf) ≡ length buf
  a-write-keeps-the-length s ys buf =
      as_long buf _ _ (λ free.
      let room = (wrote_on s ys buf _ (sym (judging.accepted _ _ _ free))).1 in
      length-laid_in buf s.place (written C.rule S s ys) (omega (arith, room, place_after S s (kept C.rule S s ys))))

  -- "An empty write changes nothing": an accepted one answers the writer of the state that it began with, and whether or not it is accepted the buffer
  -- is what it was
  pub an-empty-write-changes-nothing : (s : State A) (buf : List ℕ) → Below 8 buf
      → ((n : W) → write_answer C s [] buf ≡ answered_on n → n ≡ C.hold s) × (write_memory C s [] buf ≡ buf)
  unfolding encode after kept_from
  an-empty-write-changes-nothing s buf small = (λ n h. (wrote_on s [] buf n h).0, stays buf _ _ (λ free. laid_in-nothing buf s.place small))

  -- a state that may be used and is near the start: where room and count limit allow, nothing refuses
  pub allowed : (s : State A) (ys buf : List ℕ) → NoneHolds C.first → usable F (length buf) s ≡ true → Near F s
      → s.count + length ys ≤ most_values → (wrote C.rule S s ys).place ≤ 8 * length buf
      → write_answer C s ys buf ≡ answered_on (C.hold (wrote C.rule S s ys))
  allowed s ys buf free may near most room =
      let bytes : ℕ = lent_bytes (length buf) in
      let ks : List ℕ = kept C.rule S s ys in
      let t : State A = wrote C.rule S s ys in
      let says = usable-says F good.format (length buf) s may in
      let counted : t.count ≤ most_values = omega (arith, count-after S s ks, length-kept S C.rule s ys, most) in
      let far : t.place ≤ 8 * 2 ^ 60 = omega (arith, wrote-near S good.format C.rule s ys near, mul-le-mul_right (longest F) counted, good.near) in
      let before : s.place ≤ t.place = omega (arith, place_after S s ks) in
      let may_here : usable F bytes s ≡ true = usable-if F good.format bytes s (omega arith) says.1 says.2 in
      sym (judging.accepted _ _ (write_causes C s ys bytes)
      (joined C.first _ free (ap not may_here, (le-ltb most_values (s.count + length ys) most, (ap not (le-leb t.place (8 * bytes) (omega arith)), tt)))))

  module _ (l : ℕ) where
    pub in-theory : {xs buf : List ℕ} {m : W} → MadeBy C l xs buf m → ((C.state m).place ≡ (state_over C l xs).place) × Made C.rule S l xs buf (state_over C l xs)
    in-theory {xs} {buf} {m} M =
        let at : (C.state m).place ≡ (state_over C l xs).place =
        ap (λ (w : W). (C.state w).place) M.writer ∙ ap (λ (t : State A). t.place) (good.holds (state_over C l xs)) in
        (at, record { state = refl; bytes = subst (λ (p : ℕ). take (whole_bytes p) buf ≡ stream_of C.rule S l xs) at M.bytes })

    -- a stream of the theory, held in words
    pub by-theory : {xs buf : List ℕ} {s : State A} (m : W) → m ≡ C.hold s → Made C.rule S l xs buf s → MadeBy C l xs buf m
    by-theory {xs} {buf} {s} m e M =
        let at : (C.state m).place ≡ s.place = ap (λ (w : W). (C.state w).place) e ∙ ap (λ (t : State A). t.place) (good.holds s) in
        record {
          writer = e ∙ ap C.hold M.state;
          bytes = ap (λ (p : ℕ). take (whole_bytes p) buf) at ∙ M.bytes;
        }

    -- a fresh writer has written nothing, whatever the buffer holds
    pub a-fresh-writer : (buf : List ℕ) (m : W) → new_answer C l ≡ answered m → MadeBy C l [] buf m
    a-fresh-writer buf m h =
        let a = answered-only C.first (answered (C.hold (fresh S l))) m h in
        by-theory m (same (C.hold (fresh S l)) a.1) (spine.made-fresh C.rule S l buf)
      where
        same : (w : W) → ◌≡◌ {A = Said W} (answered w) (answered m) → m ≡ w
        same w e = cc

    -- ---- reopening, where nothing but the stream refuses it

    pub opens-on : (buf : List ℕ) (used n k : ℕ) (t : State A) → NoneHolds C.first → n ≤ most_values → k ≤ n → used ≤ length buf
        → reopening S l (take used buf) n k ≡ reopened t
        → (reopen_answer C l buf used n k ≡ answered (C.hold t)) × (reopen_memory C l buf used n k ≡ cut_in buf t.place)
    opens-on buf used n k t free most le fits e =
        let causes : List Cause = reopen_causes C.first (length buf) used n k in
        let later : (ltb n k || ltb (length buf) used) ≡ false = ap₂ (λ (x y : Bool). x || y) (le-ltb n k le) (le-ltb (length buf) used fits) in
        let no : NoneHolds causes = joined C.first _ free (le-ltb most_values n most, (later, tt)) in (
          sym (judging.accepted refused _ causes no) ∙ ap (resumed C) e,
          sym (judging.accepted (keeping buf) _ causes no) ∙ ap (λ (q : Reopened A). buffer_after q buf) e,
        )

    -- reopening leaves the buffer as long as it was, accepted or not
    pub reopening-keeps-the-length : (buf : List ℕ) (used n k : ℕ) → l < 2 ^ F.width → length (reopen_memory C l buf used n k) ≡ length buf
    reopening-keeps-the-length buf used n k hl =
        as_long buf _ (reopen_causes C.first (length buf) used n k) (λ free.
        let says = reopen-says C.first (length buf) used n k free in
        by-reading says.0 says.1 says.2 (read_all S n (fresh S l) (bits_of (take used buf))) refl)
      where
        by-reading : n ≤ most_values → k ≤ n → used ≤ length buf → (q : Reading A) → read_all S n (fresh S l) (bits_of (take used buf)) ≡ q
            → length (buffer_after (reopening S l (take used buf) n k) buf) ≡ length buf
        by-reading most le fits (done vs t r) e =
            let R = any-resumed C.rule S good.format good.keeps l hl n k used buf le most fits vs t r e in
            ap (λ (q : Reopened A). length (buffer_after q buf)) R.opens ∙ length-cut_in buf R.state.place (omega (arith, R.placed))
        by-reading most le fits (stopped f) e = ap (λ (q : Reopened A). length (buffer_after q buf)) (refused-reopen S n k (fresh S l) (bits_of (take used buf)) f e)

    module _ {xs buf : List ℕ} {m : W} (M : MadeBy C l xs buf m) where
      -- an accepted write goes on as one fresh run, for any list, the empty one too
      pub a-write-goes-on : (ys : List ℕ) (n : W) → write_answer C (state_over C l xs) ys buf ≡ answered_on n
          → MadeBy C l (xs ++ ys) (write_memory C (state_over C l xs) ys buf) n
      a-write-goes-on ys n h =
          let a = wrote_on (state_over C l xs) ys buf n h in
          subst (λ (z : List ℕ). MadeBy C l (xs ++ ys) z n) (sym a.2) (by-theory n a.0 (spine.made-write C.rule S l (in-theory M).1 ys a.1))

      module _ (bx : Below F.width xs) (hl : l < 2 ^ F.width) (free : NoneHolds C.first) where
        -- and it is accepted, wherever room and count limit allow
        pub a-write-is-accepted : (ys : List ℕ) → length xs + length ys ≤ most_values → (state_over C l (xs ++ ys)).place ≤ 8 * length buf
            → write_answer C (state_over C l xs) ys buf ≡ answered_on (C.hold (state_over C l (xs ++ ys)))
        a-write-is-accepted ys most room =
            let s : State A = state_over C l xs in
            let next : state_over C l (xs ++ ys) ≡ wrote C.rule S s ys = wrote-append S C.rule (fresh S l) xs ys in
            let counted : s.count ≡ length xs = count-after S (fresh S l) (kept C.rule S (fresh S l) xs) ∙ omega (arith, length-kept S C.rule (fresh S l) xs) in
            let may = spine.made-usable C.rule S l (in-theory M).1 good.format good.keeps hl bx (omega arith) in
            allowed s ys buf free may (wrote-near S good.format C.rule (fresh S l) xs (omega arith)) (omega arith)
            (subst (λ (t : State A). t.place ≤ 8 * length buf) next room)
            ∙ ap (λ (t : State A). answered_on (C.hold t)) (sym next)

        module _ (few : length xs ≤ most_values) (k : ℕ) (le : k ≤ length xs) where
          abbrev used : ℕ
          used = whole_bytes (C.state m).place

          opened : (reopening S l (take used buf) (length xs) k ≡ reopened (state_over C l (take k xs)))
              × (used ≤ length buf)
              × Made C.rule S l (take k xs) (cut_in buf (state_over C l (take k xs)).place) (state_over C l (take k xs))
          opened =
              let T = in-theory M in
              let back = spine.made-reopen C.rule S l T.1 good.format good.keeps hl bx k le in (
                ap (λ (p : ℕ). reopening S l (take (whole_bytes p) buf) (length xs) k) T.0 ∙ back.0,
                subst (λ (p : ℕ). whole_bytes p ≤ length buf) (sym T.0) (spine.made-room C.rule S l T.1),
                subst (λ (q : Reopened A). Made C.rule S l (take k xs) (buffer_after q buf) (state_over C l (take k xs))) back.0 back.1,
              )

          -- reopened at any k from 0 to n, the writer is in the state that it had after its first k inputs, and the cut bytes are those of one fresh
          -- run over these
          pub reopening-goes-back : (reopen_answer C l buf used (length xs) k ≡ answered (C.hold (state_over C l (take k xs))))
              × MadeBy C l (take k xs) (reopen_memory C l buf used (length xs) k) (C.hold (state_over C l (take k xs)))
          reopening-goes-back =
              let o = opened in
              let r = opens-on buf used (length xs) k (state_over C l (take k xs)) free few le o.1 o.0 in
              (r.0, subst (λ (z : List ℕ). MadeBy C l (take k xs) z (C.hold (state_over C l (take k xs)))) (sym r.1) (by-theory (C.hold (state_over C l (take k xs))) refl o.2))

      -- the bytes in use read back as the kept values
      pub values-read-back : Below F.width xs → l < 2 ^ F.width → values_in S l (take (whole_bytes (C.state m).place) buf) (length xs) ≡ answered (kept C.rule S (fresh S l) xs)
      values-read-back bx hl =
          let T = in-theory M in
          ap (λ (p : ℕ). values_in S l (take (whole_bytes p) buf) (length xs)) T.0
          ∙ ap values_read (spine.made-read C.rule S l T.1 good.format good.keeps hl bx)

      -- so the grid draws them, where the output has room; later places of it stay
      pub grid-reads-back : Below F.width xs → l < 2 ^ F.width → length xs ≤ most_values → (out : List ℕ) → length xs ≤ length out
          → (grid_answer S l (take (whole_bytes (C.state m).place) buf) (length xs) (length out) ≡ answered tt)
          × (grid_memory S l (take (whole_bytes (C.state m).place) buf) (length xs) out ≡ kept C.rule S (fresh S l) xs ++ drop (length xs) out)
      grid-reads-back bx hl most out long =
          let vs : List ℕ = kept C.rule S (fresh S l) xs in
          let d = a-grid-draws S l (take (whole_bytes (C.state m).place) buf) (length xs) vs (values-read-back bx hl) most out long in
          (d.0, d.1 ∙ ap (λ (n : ℕ). vs ++ drop n out) (length-kept S C.rule (fresh S l) xs))

    -- reopened so, any further list that room and count limit allow is accepted, and leaves the bytes and the writer of one fresh run over the first k
    -- inputs and the list
    pub resumed-as-one-run : {xs buf : List ℕ} {m : W} (M : MadeBy C l xs buf m) → Below F.width xs → l < 2 ^ F.width → NoneHolds C.first
        → length xs ≤ most_values → (k : ℕ) → k ≤ length xs → (ys : List ℕ) → k + length ys ≤ most_values
        → (state_over C l (take k xs ++ ys)).place ≤ 8 * length buf → ResumesAsOne C l xs buf (whole_bytes (C.state m).place) k ys
    resumed-as-one-run {xs} {buf} {m} M bx hl free few k le ys most room =
        let back = reopening-goes-back M bx hl free few k le in
        let long = reopening-keeps-the-length buf (whole_bytes (C.state m).place) (length xs) k hl in
        let firsts : length (take k xs) ≡ k = length-take-le k xs le in
        let accepted = a-write-is-accepted back.1 (below-take F.width k xs bx) hl free ys (omega arith) (omega (arith, room, long)) in
        record { opens = back.0; accepts = accepted; made = a-write-goes-on back.1 ys _ accepted }

    -- "On any accepted stream, even one this writer would not write, reopening at k and writing reads back as the first k values and then the newly
    -- kept ones"
    pub any-stream-resumes : (n k used : ℕ) (buf vs : List ℕ) → NoneHolds C.first → l < 2 ^ F.width → n ≤ most_values → k ≤ n → used ≤ length buf
        → values_in S l (take used buf) n ≡ answered vs → Resumes C l n k used buf vs
    unfolding kept_from after
    any-stream-resumes n k used buf vs free hl most le fits h =
        let w = read_whole_lem (read_all S n (fresh S l) (bits_of (take used buf))) vs h in
        let R = any-resumed C.rule S good.format good.keeps l hl n k used buf le most fits vs w.0 w.1 w.2 in
        let t : State A = R.state in
        let o = opens-on buf used n k t free most le fits R.opens in
        let long : length (cut_in buf t.place) ≡ length buf = length-cut_in buf t.place (omega (arith, R.placed)) in
        let near : Near F t =
        subst (NearIn F) (R.reads [] (below-nil F.width) (omega (arith, R.placed))) (all_near S good.format (k + 0) (fresh S l) _ (fresh-small S F.width l hl) (omega arith)) in
        record {
          state = t;
          opens = o.0;
          accepts = λ ys few room.
              ap (write_answer C t ys) o.1
              ∙ allowed t ys (cut_in buf t.place) free (subst (λ (z : ℕ). usable F z t ≡ true) (sym long) R.may_be_used) near (omega (arith, R.counted)) (omega (arith, long));
          reads = λ ys by after e.
              let u = wrote_on t ys (cut_in buf t.place) after (ap (write_answer C t ys) (sym o.1) ∙ e) in
              let end : State A = wrote C.rule S t ys in
              let at : (C.state after).place ≡ end.place = ap (λ (v : W). (C.state v).place) u.0 ∙ ap (λ (z : State A). z.place) (good.holds end) in
              ap₂ (λ (p : ℕ) (z : List ℕ). values_in S l (take (whole_bytes p) z) (k + length ys)) at (ap (write_memory C t ys) o.1 ∙ u.2)
              ∙ ap values_read (R.reads ys by (omega (arith, u.1, long)));
        }
