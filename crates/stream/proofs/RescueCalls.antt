-- Rescue, as the call has it, over any writer of a stream: what it keeps of a stream that was cut at any byte, what it leaves of any bytes at all, what it
-- refuses, and that on a whole stream it is reopening at the count. Assumes nothing.
use mathlib.Core.Path.{◌≡◌, refl, sym, ap, ap₂, ◌∙◌, subst}
use mathlib.Core.Logic.{◌⊎◌, inl, inr}
use mathlib.Core.Bool.{Bool, true, false, ◌||◌}
use mathlib.Core.List.{List, [], ◌∷◌, ◌++◌, append-nil}
use Prim.Native.Nat.{ℕ, suc, ◌+◌, ◌*◌, ◌^◌, ◌≤◌, ◌<◌}
use native.Mathlib.Omega.{arith}
use borrow.Author.Tests.{le-ltb, ltb-false}
use lib.Dec.{ltb}
use lib.ListN.{length, take, replicate, length-take}
use lib.Seq.{length-take-le, take-take, take_all}
use Rattle.bits.specs.Bits.{Below, bits_of, bytes_of, whole_bytes, padding, padded, cut_in}
use Rattle.bits.proofs.Below.{below-nil, below-take}
use Rattle.bits.proofs.Bytes.{bits-front}
use Rattle.bits.proofs.InBytes.{length-cut_in, cut_in-used, cut_in-again, take-bits}
use Rattle.models.specs.Answers.{answered, refused, Cause, ◌when◌, judge, verdict, keeping, NoneHolds}
use Rattle.models.specs.declared.Fault.{Fault}
use Rattle.models.proofs.Judged.{not-answered, not-refused, same_answer, same-fault, answered-only}
use Rattle.models.proofs.Judged as judging
use Rattle.stream.specs.Format.{Format, Stream, State, fresh, most_values}
use Rattle.stream.specs.Write.{kept_from, kept, encode, after}
use Rattle.stream.specs.Read.{Reading, done, stopped, read_n, read_all, Reopened, reopened, unopened, state_read, checked, reopen, buffer_after}
use Rattle.stream.specs.Rescue.{read_whole, rescue}
use Rattle.stream.specs.Calls.{Coder, fault_at, values_read, values_in, reopening, rescuing, reopen_causes, reopen_answer, reopen_memory, resumed, rescue_causes, rescue_answer, rescue_memory}
use Rattle.stream.specs.Made.{Made, MadeBy, state_over, Rewritten}
use Rattle.stream.specs.Rescued.{ReopensWhole, ReopensWholeBy, Saves, Rescues, MeetsDamage}
use Rattle.stream.specs.Needs.{GoodCoder}
use Rattle.stream.proofs.AnyStream.{cut_left}
use Rattle.stream.proofs.Reopen.{ended-inv, any-opened, goes_on_lem}
use Rattle.stream.proofs.Made as spine
use Rattle.stream.proofs.Promises.{reopening-changes-only-the-cut-bits}
use Rattle.stream.proofs.Broken.{place-within}
use Rattle.stream.proofs.Rescue.{ArrivedOf, arrived, damaged, rescue-whole, cut_off}
use Rattle.stream.proofs.Calls.{split, joined, read_whole_lem, in-theory, by-theory, opens-on, a-write-goes-on, a-write-is-accepted}

-- the causes of a rescue are those of a reopening at the limit
pub same-causes : (first : List Cause) (room used n : ℕ) → reopen_causes first room used n n ≡ rescue_causes first room used n
same-causes first room used n =
    ap (λ (b : Bool). first ++ (3 when ltb most_values n ∷ 12 when (b || ltb room used) ∷ [])) (le-ltb n n (omega arith))

-- what holds where none of them does
pub rescue-says : (first : List Cause) (room used n : ℕ) → NoneHolds (rescue_causes first room used n) → NoneHolds first × (n ≤ most_values) × (used ≤ room)
rescue-says first room used n free =
    let parts = split first _ free in
    (parts.0, ltb-false most_values n parts.1.0, ltb-false room used parts.1.1.0)

module _ {A W : Type 0} (C : Coder A W) (good : GoodCoder C) (l : ℕ) where
  abbrev S : Stream A
  S = C.stream

  abbrev F : Format
  F = C.stream.format

  -- ---- where nothing but the stream refuses it

  module _ (buf : List ℕ) (used limit : ℕ) where
    pub by-the-stream : (q : Reopened A) → NoneHolds C.first → limit ≤ most_values → used ≤ length buf → rescuing S l (take used buf) limit ≡ q
        → (rescue_answer C l buf used limit ≡ resumed C q) × (rescue_memory C l buf used limit ≡ buffer_after q buf)
    by-the-stream q free most fits e =
        let causes : List Cause = rescue_causes C.first (length buf) used limit in
        let no : NoneHolds causes = joined C.first _ free (le-ltb most_values limit most, (le-ltb (length buf) used fits, tt)) in (
          sym (judging.accepted refused _ causes no) ∙ ap (resumed C) e,
          sym (judging.accepted (keeping buf) _ causes no) ∙ ap (λ (z : Reopened A). buffer_after z buf) e,
        )

  module _ (hl : l < 2 ^ F.width) where
    -- ---- a stream that a fresh writer made, of which the first j bytes arrived

    module _ {xs all : List ℕ} {m : W} (M : MadeBy C l xs all m) (bx : Below F.width xs) (free : NoneHolds C.first) (few : length xs ≤ most_values)
        (j : ℕ) (in_use : j ≤ whole_bytes (C.state m).place) (buf : List ℕ) (same : take j buf ≡ take j all) where
      abbrev f : State A
      f = fresh S l

      abbrev over : ℕ → State A
      over k = state_over C l (take k xs)

      made : Made C.rule S l xs all (state_over C l xs)
      made = (in-theory C good l M).1

      -- its bytes in use, and how many they are
      abbrev used : ℕ
      used = whole_bytes (state_over C l xs).place

      within : j ≤ used
      within = subst (λ (p : ℕ). j ≤ whole_bytes p) (in-theory C good l M).0 in_use

      lent : used ≤ length all
      lent = spine.made-room C.rule S l made

      long : length (take used all) ≡ used
      long = length-take-le used all lent

      reopens : (k : ℕ) → k ≤ length xs → reopen S (length xs) k f (bits_of (take used all)) ≡ reopened (over k)
      reopens k le = (spine.made-reopen C.rule S l made good.format good.keeps hl bx k le).0

      first-bytes : take j buf ≡ take j (take used all)
      first-bytes = same ∙ sym (take-take j used all within)

      fits : j ≤ length buf
      fits = omega (arith, ap length first-bytes, length-take j buf, length-take-le j (take used all) (omega (arith, long, within)))

      -- the cut leaves the bytes of one fresh run over the inputs before it
      left : (k : ℕ) → k ≤ length xs → (over k).place ≤ 8 * j → Made C.rule S l (take k xs) (cut_in buf (over k).place) (over k)
      left k le here =
          let p : ℕ = (over k).place in
          let back = (spine.made-reopen C.rule S l made good.format good.keeps hl bx k le).1 in
          let bits : take p (bits_of buf) ≡ take p (bits_of all) =
          sym (take-bits buf j p fits here) ∙ ap (λ (z : List ℕ). take p (bits_of z)) same ∙ take-bits all j p (omega (arith, within, lent)) here in
          record {
            state = refl;
            bytes =
                cut_in-used buf p (omega (arith, fits)) ∙ ap (λ (z : List Bool). bytes_of (padded z)) bits ∙ sym (cut_in-used all p (omega (arith, within, lent)))
                ∙ ap (λ (q : Reopened A). take (whole_bytes p) (buffer_after q all)) (sym (reopens k le)) ∙ back.bytes;
          }

      pub keeps-what-arrived : Saves C l xs j buf
      keeps-what-arrived =
          go (cut_off S good.format l hl (length xs) (take used all) (kept C.rule S f xs) (state_over C l xs) _
          (spine.made-read C.rule S l made good.format good.keeps hl bx) j (omega (arith, long, within)))
        where
          go : ReopensWhole S l (length xs) (take used all) j → Saves C l xs j buf
          go K =
              let k : ℕ = K.number in
              let t : State A = over k in
              let is : K.state ≡ t = cc (K.opens, reopens k K.few) in
              let here : t.place ≤ 8 * j = subst (λ (z : State A). z.place ≤ 8 * j) is K.here in
              let finds : (i : ℕ) → rescue S i f (bits_of (take j (take used all))) ≡ reopened K.state → rescuing S l (take j buf) i ≡ reopened t =
              λ i e. ap (λ (z : List ℕ). rescue S i f (bits_of z)) first-bytes ∙ e ∙ ap reopened is in
              let r = by-the-stream buf j (length xs) (reopened t) free few fits (finds (length xs) K.answers) in
              let N : MadeBy C l (take k xs) (rescue_memory C l buf j (length xs)) (C.hold t) =
              subst (λ (z : List ℕ). MadeBy C l (take k xs) z (C.hold t)) (sym r.1) (by-theory C good l (C.hold t) refl (left k K.few here)) in
              let size : length (rescue_memory C l buf j (length xs)) ≡ length buf = ap length r.1 ∙ length-cut_in buf t.place (omega (arith, fits)) in
              let firsts : length (take k xs) ≡ k = length-take-le k xs K.few in
              record {
                number = k;
                few = K.few;
                here = here;
                missing = λ lt.
                    let out : ¬ ((over (suc k)).place ≤ 8 * j) = λ h. omega (arith, K.most (suc k) (omega arith) (over (suc k)) (reopens (suc k) (omega arith)) h) in
                    omega arith;
                most = λ i le h. K.most i le (over i) (reopens i le) h;
                counted = ap (λ (z : State A). z.count) (sym is) ∙ K.counted;
                answers = r.0;
                made = N;
                accepts = λ ys most room. a-write-is-accepted C good l N (below-take F.width k xs bx) hl free ys (omega arith) (omega (arith, room, size));
                goes_on = λ ys n h. a-write-goes-on C good l N ys n h;
                any_limit = λ lt i le most.
                    let q = by-the-stream buf j i (reopened t) free most fits (finds i (K.any_limit lt i le)) in
                    (q.0 ∙ sym r.0, q.1 ∙ sym r.1);
              }

    -- ---- an accepted stream, whoever wrote it, of which the first j bytes arrived

    pub reopens-what-arrived : (n : ℕ) (all vs : List ℕ) → values_in S l all n ≡ answered vs → NoneHolds C.first → n ≤ most_values
        → (j : ℕ) → j ≤ length all → (buf : List ℕ) → take j buf ≡ take j all → ReopensWholeBy C l n all j buf
    reopens-what-arrived n all vs h free few j within buf same =
        let w = read_whole_lem (read_all S n (fresh S l) (bits_of all)) vs h in
        go (cut_off S good.format l hl n all vs w.0 w.1 w.2 j within)
      where
        whole : take (length all) all ≡ all
        whole = take_all (length all) all (omega arith)

        lent : j ≤ length buf
        lent = omega (arith, ap length same, length-take j buf, length-take-le j all within)

        opens_at : (k : ℕ) → k ≤ n → (t : State A) → reopen S n k (fresh S l) (bits_of all) ≡ reopened t → reopen_answer C l all (length all) n k ≡ answered (C.hold t)
        opens_at k le t e =
            (opens-on C good l all (length all) n k t free few le (omega arith) (ap (λ (z : List ℕ). reopen S n k (fresh S l) (bits_of z)) whole ∙ e)).0

        go : ReopensWhole S l n all j → ReopensWholeBy C l n all j buf
        go K =
            let finds : (i : ℕ) → rescue S i (fresh S l) (bits_of (take j all)) ≡ reopened K.state → rescuing S l (take j buf) i ≡ reopened K.state =
            λ i e. ap (λ (z : List ℕ). rescue S i (fresh S l) (bits_of z)) same ∙ e in
            record {
              number = K.number;
              state = K.state;
              few = K.few;
              counted = K.counted;
              answers = (by-the-stream buf j n (reopened K.state) free few lent (finds n K.answers)).0;
              opens = opens_at K.number K.few K.state K.opens;
              here = K.here;
              most = λ k le m e at.
                  let w = read_whole_lem (read_all S n (fresh S l) (bits_of all)) vs h in
                  let o = any-opened S good.format l hl n k le (bits_of all) vs w.0 w.1 w.2 in
                  let is : C.hold o.state ≡ m = same_answer (sym (opens_at k le o.state o.opens) ∙ e) in
                  let held : C.state m ≡ o.state = ap C.state (sym is) ∙ good.holds o.state in
                  K.most k le o.state o.opens (subst (λ (z : State A). z.place ≤ 8 * j) held at);
              any_limit = λ lt i le most. (by-the-stream buf j i (reopened K.state) free most lent (finds i (K.any_limit lt i le))).0;
            }

    -- ---- any bytes at all

    -- what was read, cut behind it, reads back
    pub cut-reads : (buf : List ℕ) (used : ℕ) → used ≤ length buf → (vs : List ℕ) (t : State A) (r : List Bool)
        → read_n S (length vs) (fresh S l) (bits_of (take used buf)) ≡ done vs t r
        → (t.place ≤ 8 * used)
        × (read_all S (length vs) (fresh S l) (bits_of (take (whole_bytes t.place) (cut_in buf t.place))) ≡ done vs t (replicate (padding t.place) false))
    unfolding kept_from encode after
    cut-reads buf used fits vs t r e =
        let k : ℕ = length vs in
        let bits : List Bool = bits_of (take used buf) in
        let p : ℕ = t.place in
        let at : p ≤ 8 * used = omega (arith, place-within S good.format l hl k bits vs t r e, bits-front used buf fits) in
        let here : bits_of (take (whole_bytes p) (cut_in buf p)) ≡ padded (take p bits ++ []) =
        cut_left used buf fits p at ∙ ap padded (sym (append-nil (take p bits))) in
        let count : k ≡ k + 0 = omega arith in (
          at,
          ap (λ (i : ℕ). read_all S i (fresh S l) (bits_of (take (whole_bytes p) (cut_in buf p)))) count ∙ ap (read_all S (k + 0) (fresh S l)) here
              ∙ goes_on_lem S good.format l hl C.rule good.keeps k bits vs t r e [] (below-nil F.width)
              ∙ ap (λ (z : List ℕ). done z t (replicate (padding p) false)) (append-nil vs),
        )

    pub what-is-rescued : (buf : List ℕ) (used limit : ℕ) (m : W) → rescue_answer C l buf used limit ≡ answered m → Rescues C l limit used buf m
    unfolding reopen
    what-is-rescued buf used limit m h = go (read_whole S limit (fresh S l) bits) refl (arrived S limit (fresh S l) bits) told.1
      where
        bits : List Bool
        bits = bits_of (take used buf)

        told : NoneHolds (rescue_causes C.first (length buf) used limit) × (resumed C (rescuing S l (take used buf) limit) ≡ answered m)
        told = answered-only (rescue_causes C.first (length buf) used limit) _ m h

        go : (q : Reading A) → read_whole S limit (fresh S l) bits ≡ q → ArrivedOf S limit (fresh S l) bits q → resumed C (state_read q) ≡ answered m
            → Rescues C l limit used buf m
        go (stopped g) e d i = absurd (not-answered i)
        go (done vs t r) e a i =
            let free = rescue-says C.first (length buf) used limit told.0 in
            let k : ℕ = length vs in
            let p : ℕ = t.place in
            let cut : List ℕ = cut_in buf p in
            let on = by-the-stream buf used limit (reopened t) free.0 free.1 free.2 (ap state_read e) in
            let back = cut-reads buf used free.2 vs t r a.reads in
            let size : length cut ≡ length buf = length-cut_in buf p (omega (arith, free.2, back.0)) in
            let whole : reopening S l (take (whole_bytes p) cut) k k ≡ reopened t =
            ap (λ (z : Reading A). checked z (state_read (read_n S k (fresh S l) (bits_of (take (whole_bytes p) cut))))) back.1
            ∙ ap state_read (ended-inv (read_n S k (fresh S l) (bits_of (take (whole_bytes p) cut))) vs t _ back.1) in
            let opens = opens-on C good l cut (whole_bytes p) k k t free.0 (omega (arith, a.few, free.1)) (omega arith) (omega (arith, size, back.0, free.2)) whole in
            record {
              values = vs;
              state = t;
              rest = r;
              few = a.few;
              held = sym (same_answer i);
              counted = omega (arith, a.counts);
              in_them = a.reads;
              ends = a.ends;
              reads_back = ap (λ (z : List ℕ). values_in S l (take (whole_bytes p) z) k) on.1 ∙ ap values_read back.1;
              reopens = ap (λ (z : List ℕ). reopen_answer C l z (whole_bytes p) k k) on.1 ∙ opens.0 ∙ i;
              within = back.0;
              leaves = λ small. subst (λ (z : List ℕ). Rewritten buf z p []) (sym on.1) (reopening-changes-only-the-cut-bits buf p small (omega (arith, free.2, back.0)));
              stays =
                  ap (λ (z : List ℕ). reopen_memory C l z (whole_bytes p) k k) on.1 ∙ opens.1 ∙ cut_in-again buf p (omega (arith, free.2, back.0)) ∙ sym on.1;
            }

    -- ---- a stream that arrived whole, with its count: reopening there, what is refused for it too

    pub of-a-whole-stream : (buf : List ℕ) (used n : ℕ) (vs : List ℕ) → values_in S l (take used buf) n ≡ answered vs
        → (rescue_answer C l buf used n ≡ reopen_answer C l buf used n n) × (rescue_memory C l buf used n ≡ reopen_memory C l buf used n n)
    of-a-whole-stream buf used n vs h =
        let w = read_whole_lem (read_all S n (fresh S l) (bits_of (take used buf))) vs h in
        let e : rescuing S l (take used buf) n ≡ reopening S l (take used buf) n n = rescue-whole S good.format l hl n (take used buf) vs w.0 w.1 w.2 in
        let causes = sym (same-causes C.first (length buf) used n) in (
          ap₂ (λ (cs : List Cause) (q : Reopened A). judge refused cs (resumed C q)) causes e,
          ap₂ (λ (cs : List Cause) (q : Reopened A). judge (keeping buf) cs (buffer_after q buf)) causes e,
        )

  -- ---- what is refused

  -- by the causes, or in the bytes; and the buffer is left as it was
  pub what-rescue-refuses : (buf : List ℕ) (used limit : ℕ) (φ : Fault) → rescue_answer C l buf used limit ≡ refused φ
      → (rescue_memory C l buf used limit ≡ buf)
      × ((verdict (rescue_causes C.first (length buf) used limit) ≡ refused φ)
      ⊎ ((verdict (rescue_causes C.first (length buf) used limit) ≡ answered tt) × MeetsDamage S l limit (take used buf) φ))
  unfolding judge
  what-rescue-refuses buf used limit φ = by (rescue_causes C.first (length buf) used limit)
    where
      in_bytes : (q : Reopened A) → rescuing S l (take used buf) limit ≡ q → resumed C q ≡ refused φ → (buffer_after q buf ≡ buf) × MeetsDamage S l limit (take used buf) φ
      in_bytes (reopened t) e i = absurd (not-refused i)
      in_bytes (unopened g) e i =
          let d = damaged S limit (fresh S l) (bits_of (take used buf)) g e in
          let is : φ ≡ fault_at g = sym (same-fault i) in
          (refl, record { refusal = g; reads = d.reads; told = is; number = subst (λ (z : Fault). (z.number ≡ 6) ⊎ (z.number ≡ 7)) (sym is) d.other })

      by : (causes : List Cause) → judge refused causes (resumed C (rescuing S l (take used buf) limit)) ≡ refused φ
          → (judge (keeping buf) causes (buffer_after (rescuing S l (take used buf) limit) buf) ≡ buf)
          × ((verdict causes ≡ refused φ) ⊎ ((verdict causes ≡ answered tt) × MeetsDamage S l limit (take used buf) φ))
      by [] h = let b = in_bytes (rescuing S l (take used buf) limit) refl h in (b.0, inr (refl, b.1))
      by (n when true ∷ causes) h = (refl, inl (ap refused (same-fault h)))
      by (n when false ∷ causes) h = by causes h
