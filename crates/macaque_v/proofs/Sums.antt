-- The promises on the running sum (document 02, W4), of the calls: each reopening, and each write on a writer of its bytes, keeps it equal to what the sum call
-- would answer on the bytes in use; and a wrong one that is handed in is not refused, is carried on by the same additions, and moves nothing else. Assumes
-- nothing.
use mathlib.Core.Path.{◌≡◌, refl, sym, ap, ap₂, ◌∙◌, subst}
use mathlib.Core.Bool.{Bool, true, false, not}
use mathlib.Core.List.{List, [], ◌∷◌, ◌++◌, append-nil}
use Prim.Native.Nat.{ℕ, zero, suc, ◌+◌, ◌*◌, ◌^◌, ◌≤◌, ◌<◌}
use native.Mathlib.Nat.{add-zero}
use native.Mathlib.Omega.{arith}
use borrow.Author.Tests.{le-ltb}
use lib.Dec.{T, leb}
use lib.ListN.{length, take, replicate, length-append}
use lib.Ieee.{Float, binary32, to_bits, fits}
use Rattle.bits.specs.Bits.{Below, bits_of, whole_bytes, padding, padded, laid_in, cut_in}
use Rattle.bits.proofs.Below.{below-nil, below-take}
use Rattle.bits.proofs.InBytes.{laid_in-nothing, laid_in-used, cut_in-below, take-bits}
use Rattle.models.specs.Answers.{answered, answered_on, Cause, ◌when◌, judge, judged_on, judged_memory, NoneHolds}
use Rattle.models.specs.Limits.{most_values}
use Rattle.models.specs.Causes.{bound_causes}
use Rattle.models.specs.declared.ErrorBound.{ErrorBound}
use Rattle.models.proofs.Judged.{not-answered, same_answer, answered-only}
use Rattle.models.proofs.Judged as judging
use Rattle.stream.specs.Format.{macaque, Mode, gathered, raw_next, gather_from, Stream, State, fresh, is_raw, bits_for, window_for, usable}
use Rattle.stream.specs.Write.{kept_one, kept_from, kept, bits_one, encode, after, next, written, wrote, wrote_in}
use Rattle.stream.specs.Read as reading
use Rattle.stream.specs.Read.{Reading, done, stopped, read_n, first_set, leftover, ended, read_all, buffer_after}
use Rattle.stream.specs.Calls as theory
use Rattle.stream.specs.Calls.{values_read, reopening, resumed}
use Rattle.stream.specs.Made.{Resumed}
use Rattle.stream.proofs.Formats.{macaque-good}
use Rattle.stream.proofs.Rule.{RuledIn, fresh-ruled, read-ruled, some_bits}
use Rattle.stream.proofs.Writing.{raw-once, place_after, count-after, length-kept, fresh-small, kept-below}
use Rattle.stream.proofs.Gathered.{seen-after, SeenIn, seen_read, gather-folds, both-gather}
use Rattle.stream.proofs.Reading.{Whole, WholeOf, whole}
use Rattle.stream.proofs.Reopen.{ended-inv, refused-reopen, goes_on_lem}
use Rattle.stream.proofs.Holds.{padded-back}
use Rattle.stream.proofs.AnyStream.{any-resumed}
use Rattle.stream.proofs.Calls as calls
use Rattle.stream.proofs.Promises as promises
use Rattle.coding.specs.Keep.{keep_rule}
use Rattle.coding.proofs.Keeping.{keeps}
use Rattle.macaque_v.specs.State.{gather_min_max, gather_sum, Known, gather_known, MinMax, ends_in, sum_in, mode_of, stream_in, state_of, writer_of, is_first, opening_value, opened}
use Rattle.macaque_v.specs.Write.{stream_by, rule_by, writer_at, coder_of, coder_by, wrote_by}
use Rattle.macaque_v.specs.Calls.{new_answer, lent_bytes, write_causes, write_answer, write_memory}
use Rattle.macaque_v.specs.Read.{values_in, sum_of, summed, sum_answer, reopen_causes, reopen_answer, reopen_memory}
use Rattle.macaque_v.specs.Made.{state_over, kept_of, Made, WordsSmall}
use Rattle.macaque_v.specs.Sums.{OfItsBytes, SumsAsTheCall, with_sum, carried, with_sums, CarriesTheSum}
use Rattle.macaque_v.specs.declared.MacaqueV.{MacaqueV}
use Rattle.macaque_v.specs.declared.Opening.{Opening}
use Rattle.macaque_v.proofs.Accepting.{coder-good, in-theory}
use Rattle.macaque_v.proofs.Writing.{written_count}
use Rattle.macaque_v.proofs.Held.{ends-small, window-small, sum_fits}

-- ---- a state with something else gathered is written on alike

module _ {A : Type 0} (S : Stream A) where
  abbrev pub knowing : A → State A → State A
  knowing a s = record { last = s.last; win = s.win; place = s.place; count = s.count; seen = a }

  pub encode-knowing : (a : A) (s : State A) (vs : List ℕ) → encode S (knowing a s) vs ≡ encode S s vs
  unfolding encode
  encode-knowing a s [] = refl
  encode-knowing a s (v ∷ vs) = ap (λ (bs : List Bool). bits_one S s v ++ bs) (encode-knowing (next S (knowing a s) v).seen (next S s v) vs)

  pub after-knowing : (a : A) (s : State A) (vs : List ℕ) → after S (knowing a s) vs ≡ knowing (gather_from S.gather S.mode s.count a vs) (after S s vs)
  unfolding after gather_from
  after-knowing a s [] = refl
  after-knowing a s (v ∷ vs) = after-knowing (next S (knowing a s) v).seen (next S s v) vs

-- ---- and so is one in another mode, behind a value

-- where the mode is the same at length 0, the next value is raw in both or in neither
raw-alike : (f g : Bool) (n : ℕ) → (n ≡ 0 → f ≡ g) → raw_next (mode_of f) n ≡ raw_next (mode_of g) n
raw-alike f g zero h = ap (λ (b : Bool). raw_next (mode_of b) 0) (h refl)
raw-alike f g (suc n) h = raw-once (mode_of f) n ∙ sym (raw-once (mode_of g) n)

-- a kept value more, raw or not
abbrev next_by : State Known → ℕ → Bool → State Known
next_by s v raw =
    record {
      last = v;
      win = window_for macaque raw s.win s.last v;
      place = s.place + length (bits_for macaque raw s.win s.last v);
      count = suc s.count;
      seen = gathered gather_known raw s.seen v;
    }

module _ (f g : Bool) where
  next-alike : (s : State Known) (v : ℕ) → (s.count ≡ 0 → f ≡ g) → next (stream_in f) s v ≡ next (stream_in g) s v
  next-alike s v h = ap (next_by s v) (raw-alike f g s.count h)

  kept-alike : (rule : ℕ → ℕ → ℕ) (n l : ℕ) (xs : List ℕ) → (n ≡ 0 → f ≡ g) → kept_from rule (mode_of f) n l xs ≡ kept_from rule (mode_of g) n l xs
  unfolding kept_from
  kept-alike rule n l [] h = refl
  kept-alike rule n l (x ∷ xs) h =
      ap (λ (raw : Bool). kept_one rule raw l x ∷ kept_from rule (mode_of f) (suc n) (kept_one rule raw l x) xs) (raw-alike f g n h)
      ∙ ap (λ (ks : List ℕ). kept_one rule (raw_next (mode_of g) n) l x ∷ ks) (kept-alike rule (suc n) (kept_one rule (raw_next (mode_of g) n) l x) xs (λ z. absurd (omega (arith, z))))

  after-alike : (s : State Known) (vs : List ℕ) → (s.count ≡ 0 → f ≡ g) → after (stream_in f) s vs ≡ after (stream_in g) s vs
  unfolding after
  after-alike s [] h = refl
  after-alike s (v ∷ vs) h =
      ap (λ (t : State Known). after (stream_in f) t vs) (next-alike s v h) ∙ after-alike (next (stream_in g) s v) vs (λ z. absurd (omega (arith, z)))

  encode-alike : (s : State Known) (vs : List ℕ) → (s.count ≡ 0 → f ≡ g) → encode (stream_in f) s vs ≡ encode (stream_in g) s vs
  unfolding encode
  encode-alike s [] h = refl
  encode-alike s (v ∷ vs) h =
      ap (λ (raw : Bool). bits_for macaque raw s.win s.last v ++ encode (stream_in f) (next_by s v raw) vs) (raw-alike f g s.count h)
      ∙ ap (λ (bs : List Bool). bits_one (stream_in g) s v ++ bs) (encode-alike (next (stream_in g) s v) vs (λ z. absurd (omega (arith, z))))

  wrote-alike : (rule : ℕ → ℕ → ℕ) (s : State Known) (xs : List ℕ) → (s.count ≡ 0 → f ≡ g) → wrote rule (stream_in f) s xs ≡ wrote rule (stream_in g) s xs
  wrote-alike rule s xs h = ap (after (stream_in f) s) (kept-alike rule s.count s.last xs h) ∙ after-alike s (kept rule (stream_in g) s xs) h

  written-alike : (rule : ℕ → ℕ → ℕ) (s : State Known) (xs : List ℕ) → (s.count ≡ 0 → f ≡ g) → written rule (stream_in f) s xs ≡ written rule (stream_in g) s xs
  written-alike rule s xs h = ap (encode (stream_in f) s) (kept-alike rule s.count s.last xs h) ∙ encode-alike s (kept rule (stream_in g) s xs) h

-- ---- the values of a writer's own bytes

pub whole-of-its-bytes : {o : Opening} {buf : List ℕ} {m : MacaqueV} (I : OfItsBytes o buf m) → opening_value o < 2 ^ 32
    → Whole (stream_in (is_first o)) m.length (opened o) (bits_of (take (whole_bytes m.place) buf)) I.values I.end I.rest
whole-of-its-bytes {o} {buf} {m} I hl =
    let S : Stream Known = stream_in (is_first o) in
    let bits : List Bool = bits_of (take (whole_bytes m.place) buf) in
    subst (WholeOf S m.length (opened o) bits) (ended-inv (read_n S m.length (opened o) bits) I.values I.end I.rest I.reads)
    (whole S macaque-good m.length (opened o) bits (fresh-small S 32 (opening_value o) hl))

-- they are told by its bytes
pub its-values : {o : Opening} {buf : List ℕ} {m : MacaqueV} (I : OfItsBytes o buf m) (vs : List ℕ) → values_in (take (whole_bytes m.place) buf) m.length o ≡ answered vs → I.values ≡ vs
its-values I vs h = same_answer (sym (ap values_read I.reads) ∙ h)

-- ---- where reading ends, the sum is that of the values

sum-read : (first : Bool) (l n : ℕ) (bits : List Bool) (vs : List ℕ) (t : State Known) (r : List Bool) → read_all (stream_in first) n (fresh (stream_in first) l) bits ≡ done vs t r
    → to_bits binary32 (sum_in t) ≡ sum_of first vs
sum-read first l n bits vs t r h =
    let S : Stream Known = stream_in first in
    let seen : t.seen ≡ gather_from gather_known (mode_of first) 0 gather_known.none vs =
    subst (SeenIn S (fresh S l)) (ended-inv (read_n S n (fresh S l) bits) vs t r h) (seen_read S n (fresh S l) bits) in
    ap (λ (k : Known). to_bits binary32 k.1) (seen ∙ both-gather gather_min_max gather_sum (mode_of first) 0 gather_min_max.none gather_sum.none vs)

-- so the sum of a writer of its bytes is what the sum call answers on them
pub its-sum : {o : Opening} {buf : List ℕ} {m : MacaqueV} → OfItsBytes o buf m → m.length ≤ most_values → SumsAsTheCall o buf m
unfolding sum_answer judge
its-sum {o} {buf} {m} I most =
    let same : to_bits binary32 m.sum ≡ sum_of (is_first o) I.values =
    ap (λ (s : State Known). to_bits binary32 (sum_in s)) I.state ∙ sum-read (is_first o) (opening_value o) m.length _ I.values I.end I.rest I.reads in
    rw (le-ltb most_values m.length most) (ap (λ (q : Reading Known). summed (is_first o) (values_read q)) I.reads ∙ ap answered (sym same))

-- and its words are those of a program, where its least and its greatest value are
held-of-its-bytes : {o : Opening} {buf : List ℕ} {m : MacaqueV} → OfItsBytes o buf m → opening_value o < 2 ^ 32 → m.min_value < 2 ^ 32 → m.max_value < 2 ^ 32 → WordsSmall m
unfolding fits
held-of-its-bytes {o} {buf} {m} I hl low high =
    let S : Stream Known = stream_in (is_first o) in
    let bits : List Bool = bits_of (take (whole_bytes m.place) buf) in
    let h : (opened o).last < 2 ^ 32 = fresh-small S 32 (opening_value o) hl in
    let is = ended-inv (read_n S m.length (opened o) bits) I.values I.end I.rest I.reads in
    let W = whole-of-its-bytes I hl in
    let w = window-small I.end.win (subst (RuledIn macaque) is (read-ruled S macaque-good m.length (opened o) bits h (fresh-ruled S (opening_value o)))).window in
    let seen : I.end.seen ≡ gather_from gather_known (mode_of (is_first o)) 0 gather_known.none I.values = subst (SeenIn S (opened o)) is (seen_read S m.length (opened o) bits) in
    let sum : m.sum ≡ gather_from gather_sum (mode_of (is_first o)) 0 gather_sum.none I.values =
    ap sum_in I.state ∙ ap (λ (k : Known). k.1) (seen ∙ both-gather gather_min_max gather_sum (mode_of (is_first o)) 0 gather_min_max.none gather_sum.none I.values) in
    record {
      least = low;
      greatest = high;
      last = subst (λ (s : State Known). s.last < 2 ^ 32) (sym I.state) W.small;
      leading = subst (λ (s : State Known). s.win.lead < 2 ^ 32) (sym I.state) w.0;
      trailing = subst (λ (s : State Known). s.win.trail < 2 ^ 32) (sym I.state) w.1;
      total = subst (λ (x : Float). T (fits binary32 x)) (sym sum) (sum_fits (mode_of (is_first o)) 0 gather_sum.none I.values tt);
    }

-- the least and the greatest after some values are words of 32 bits where they were before
ends_stay : (mode : Mode) (n : ℕ) (e : MinMax) (vs : List ℕ) → e.min < 2 ^ 32 → e.max < 2 ^ 32 → Below 32 vs
    → ((gather_from gather_min_max mode n e vs).min < 2 ^ 32) × ((gather_from gather_min_max mode n e vs).max < 2 ^ 32)
ends_stay mode n e vs low high by =
    subst (λ (z : MinMax). (z.min < 2 ^ 32) × (z.max < 2 ^ 32)) (sym (gather-folds gather_min_max (λ a v. refl) mode n e vs)) (ends-small e vs low high by)

-- ---- a writer that writes, stops and resumes have made

pub a-made-writer-is-of-its-bytes : {b : ErrorBound} {o : Opening} {xs buf : List ℕ} {m : MacaqueV} → Made b o xs buf m → opening_value o < 2 ^ 32 → Below 32 xs → OfItsBytes o buf m
a-made-writer-is-of-its-bytes {b} {o} {xs} {buf} {m} M hl bx =
    let S : Stream Known = stream_in (is_first o) in
    let s : State Known = state_over b o xs in
    let T = (calls.in-theory (coder_of b (is_first o)) (coder-good b (is_first o)) (opening_value o) (in-theory M)).1 in
    let count : s.count ≡ length xs = omega (arith, count-after S (opened o) (kept_of b o xs), length-kept S (keep_rule b) (opened o) xs) in
    subst (OfItsBytes o buf) (sym M.writer)
    (record {
      mode = λ z. refl;
      values = kept_of b o xs;
      end = s;
      rest = _;
      reads = ap (λ (n : ℕ). read_all S n (opened o) (bits_of (take (whole_bytes s.place) buf))) count ∙ promises.reads-back (keep_rule b) S (opening_value o) T macaque-good (keeps b 32) hl bx;
      state = refl;
    })

-- ---- a fresh writer

pub a-fresh-writer-is-of-its-bytes : (b : ErrorBound) (o : Opening) (buf : List ℕ) (m : MacaqueV) → new_answer b o ≡ answered m → OfItsBytes o buf m
unfolding new_answer bits_of read_n ended leftover first_set
a-fresh-writer-is-of-its-bytes b o buf m h =
    subst (OfItsBytes o buf) (same_answer (answered-only (bound_causes b) (answered (writer_of b (is_first o) (opened o))) m h).1)
    (record { mode = λ z. refl; values = []; end = opened o; rest = []; reads = none; state = refl })
  where
    none : read_all (stream_in (is_first o)) 0 (opened o) (bits_of (take 0 buf)) ≡ done [] (opened o) []
    none = refl

-- ---- a reopened writer, of any accepted stream

module _ (b : ErrorBound) (o : Opening) (hl : opening_value o < 2 ^ 32) (buf : List ℕ) (used n k : ℕ) where
  abbrev S : Stream Known
  S = stream_in (is_first o)

  -- the bytes that reopening cut read as the first k values, and end in the state that it found
  cut-reads : used ≤ length buf → (vs : List ℕ) (R : Resumed (keep_rule b) S (opening_value o) n k used buf vs)
      → read_all S R.state.count (opened o) (bits_of (take (whole_bytes R.state.place) (cut_in buf R.state.place))) ≡ done (take k vs ++ []) R.state (replicate (padding R.state.place) false)
  unfolding kept_from after encode
  cut-reads fits vs R =
      let t : State Known = R.state in
      let same : laid_in (cut_in buf t.place) t.place [] ≡ cut_in buf t.place = laid_in-nothing (cut_in buf t.place) t.place (cut_in-below buf t.place) in
      let count : k + 0 ≡ t.count = omega (arith, R.counted) in
      ap₂ (λ (j : ℕ) (z : List ℕ). read_all S j (opened o) (bits_of (take (whole_bytes t.place) z))) (sym count) (sym same) ∙ R.reads [] (below-nil 32) (omega (arith, R.placed))

  of-the-cut : used ≤ length buf → (vs : List ℕ) (R : Resumed (keep_rule b) S (opening_value o) n k used buf vs) → OfItsBytes o (cut_in buf R.state.place) (writer_of b (is_first o) R.state)
  of-the-cut fits vs R = record { mode = λ z. refl; values = take k vs ++ []; end = R.state; rest = _; reads = cut-reads fits vs R; state = refl }

  -- a writer that reopening answers: of its bytes, which read as the first k values; not too long, with words as a program holds them, and with the bound that was
  -- handed in
  pub record Reopened (m : MacaqueV) : Type 0 where
    pub own : OfItsBytes o (reopen_memory buf used n k o b) m
    pub few : m.length ≤ most_values
    pub held : WordsSmall m
    pub bound : m.error_bound ≡ b
    pub counted : m.length ≡ k
    pub firsts : (vs : List ℕ) → values_in (take used buf) n o ≡ answered vs → values_in (take (whole_bytes m.place) (reopen_memory buf used n k o b)) m.length o ≡ answered (take k vs)
    pub bytes : Below 8 (reopen_memory buf used n k o b)

  pub a-reopened-writer-is-of-its-bytes : (m : MacaqueV) → reopen_answer buf used n k o b ≡ answered m → Reopened m
  unfolding reopen_answer reopen_memory
  a-reopened-writer-is-of-its-bytes m h =
      let causes : List Cause = reopen_causes b (length buf) used n k in
      let a = answered-only causes (resumed (coder_of b (is_first o)) (reopening S (opening_value o) (take used buf) n k)) m h in
      let says = calls.reopen-says (bound_causes b) (length buf) used n k a.0 in
      by-reading a.0 says.0 says.1 says.2 a.1 (read_all S n (opened o) (bits_of (take used buf))) refl
    where
      by-reading : NoneHolds (reopen_causes b (length buf) used n k) → n ≤ most_values → k ≤ n → used ≤ length buf
          → resumed (coder_of b (is_first o)) (reopening S (opening_value o) (take used buf) n k) ≡ answered m
          → (q : Reading Known) → read_all S n (opened o) (bits_of (take used buf)) ≡ q
          → Reopened m
      by-reading free most le fits says (stopped f) e =
          absurd (not-answered (sym (ap (resumed (coder_of b (is_first o))) (refused-reopen S n k (opened o) (bits_of (take used buf)) f e)) ∙ says))
      by-reading free most le fits says (done vs t r) e =
          let R = any-resumed (keep_rule b) S macaque-good (keeps b 32) (opening_value o) hl n k used buf le most fits vs t r e in
          let is : writer_of b (is_first o) R.state ≡ m = same_answer (sym (ap (resumed (coder_of b (is_first o))) R.opens) ∙ says) in
          let left : reopen_memory buf used n k o b ≡ cut_in buf R.state.place =
          sym (judging.accepted _ _ (reopen_causes b (length buf) used n k) free) ∙ ap (λ (q : reading.Reopened Known). buffer_after q buf) R.opens in
          let own : OfItsBytes o (reopen_memory buf used n k o b) m =
          subst (λ (z : List ℕ). OfItsBytes o z m) (sym left) (subst (OfItsBytes o (cut_in buf R.state.place)) is (of-the-cut fits vs R)) in
          let bits : List Bool = bits_of (take used buf) in
          let W : Whole S n (opened o) bits vs t r =
          subst (WholeOf S n (opened o) bits) (ended-inv (read_n S n (opened o) bits) vs t r e) (whole S macaque-good n (opened o) bits (fresh-small S 32 (opening_value o) hl)) in
          let ends : ends_in R.state ≡ gather_from gather_min_max (mode_of (is_first o)) 0 gather_min_max.none (take k vs) =
          ap (λ (z : Known). z.0) (R.seen ∙ both-gather gather_min_max gather_sum (mode_of (is_first o)) 0 gather_min_max.none gather_sum.none (take k vs)) in
          let small : ((ends_in R.state).min < 2 ^ 32) × ((ends_in R.state).max < 2 ^ 32) =
          subst (λ (z : MinMax). (z.min < 2 ^ 32) × (z.max < 2 ^ 32)) (sym ends)
          (ends_stay (mode_of (is_first o)) 0 gather_min_max.none (take k vs) (omega arith) (omega arith) (below-take 32 k vs W.below)) in
          record {
            own = own;
            few = omega (arith, ap (λ (w : MacaqueV). w.length) is, R.counted);
            held =
                held-of-its-bytes own hl (subst (λ (w : MacaqueV). w.min_value < 2 ^ 32) is small.0) (subst (λ (w : MacaqueV). w.max_value < 2 ^ 32) is small.1);
            bound = ap (λ (w : MacaqueV). w.error_bound) (sym is);
            counted = ap (λ (w : MacaqueV). w.length) (sym is) ∙ R.counted;
            firsts = λ us h.
                ap₂ (λ (w : MacaqueV) (z : List ℕ). values_in (take (whole_bytes w.place) z) w.length o) (sym is) left
                ∙ ap values_read (cut-reads fits vs R)
                ∙ ap answered (append-nil (take k vs))
                ∙ ap (λ (z : List ℕ). answered (take k z)) (same_answer (sym (ap values_read e) ∙ h));
            bytes = subst (Below 8) (sym left) (cut_in-below buf R.state.place);
          }

  -- "Each reopening .. keeps it equal to what the sum call would answer on the used bytes", whichever stream is accepted
  pub a-reopened-sum : (m : MacaqueV) → reopen_answer buf used n k o b ≡ answered m → SumsAsTheCall o (reopen_memory buf used n k o b) m
  a-reopened-sum m h = let r = a-reopened-writer-is-of-its-bytes m h in its-sum r.own r.few

-- ---- a write on a writer of its bytes

-- a value or more takes a bit or more
bits-come : (rule : ℕ → ℕ → ℕ) (first : Bool) (t : State Known) (y : ℕ) (ys : List ℕ) → 0 < length (written rule (stream_in first) t (y ∷ ys))
unfolding kept_from encode
bits-come rule first t y ys =
    let S : Stream Known = stream_in first in
    let v : ℕ = kept_one rule (is_raw S t) t.last y in
    omega (arith, length-append (bits_one S t v) (encode S (next S t v) (kept_from rule S.mode (suc t.count) v ys)), some_bits macaque macaque-good (is_raw S t) t.win t.last v)

-- bits that are laid behind those in use are read behind them
read-on : (b : ErrorBound) (first : Bool) (l : ℕ) → l < 2 ^ 32 → (k : ℕ) (buf us : List ℕ) (t : State Known) (r : List Bool)
    → read_all (stream_in first) k (fresh (stream_in first) l) (bits_of (take (whole_bytes t.place) buf)) ≡ done us t r → t.place ≤ 8 * length buf → Below 8 buf → (ys : List ℕ) → Below 32 ys
    → (wrote (keep_rule b) (stream_in first) t ys).place ≤ 8 * length buf
    → (rest : List Bool) × (read_all (stream_in first) (k + length ys) (fresh (stream_in first) l) (bits_of (take (whole_bytes (wrote (keep_rule b) (stream_in first) t ys).place) (wrote_in (keep_rule b) (stream_in first) t ys buf)))
    ≡ done (us ++ kept (keep_rule b) (stream_in first) t ys) (wrote (keep_rule b) (stream_in first) t ys) rest)
unfolding kept_from after encode
read-on b first l hl k buf us t r h within small [] by room = (
  r,
  ap₂ (λ (j : ℕ) (z : List ℕ). read_all (stream_in first) j (fresh (stream_in first) l) (bits_of (take (whole_bytes t.place) z))) (add-zero k) (laid_in-nothing buf t.place small)
      ∙ h ∙ ap (λ (z : List ℕ). done z t r) (sym (append-nil us)),
)
read-on b first l hl k buf us t r h within small (y ∷ ys) by room =
    let S : Stream Known = stream_in first in
    let new : List Bool = written (keep_rule b) S t (y ∷ ys) in
    let end : (wrote (keep_rule b) S t (y ∷ ys)).place ≡ t.place + length new = place_after S t (kept (keep_rule b) S t (y ∷ ys)) in
    let bits : List Bool = bits_of (take (whole_bytes t.place) buf) in
    let used : whole_bytes t.place ≤ length buf = omega arith in
    let laid : bits_of (take (whole_bytes (t.place + length new)) (laid_in buf t.place new)) ≡ padded (take t.place bits ++ new) =
    ap bits_of (laid_in-used buf t.place new (omega (arith, room, end)) (bits-come (keep_rule b) first t y ys)) ∙ padded-back (take t.place (bits_of buf) ++ new)
    ∙ ap (λ (z : List Bool). padded (z ++ new)) (sym (take-bits buf (whole_bytes t.place) t.place used (omega arith))) in (
      _,
      ap (λ (p : ℕ). read_all S (k + length (y ∷ ys)) (fresh S l) (bits_of (take (whole_bytes p) (laid_in buf t.place new)))) end
          ∙ ap (read_all S (k + length (y ∷ ys)) (fresh S l)) laid
          ∙ goes_on_lem S macaque-good l hl (keep_rule b) (keeps b 32) k bits us t r (ended-inv (read_n S k (fresh S l) bits) us t r h) (y ∷ ys) by,
    )

-- what m has gathered after the kept values ks, with other ends at first: the sum is that of the bytes
module _ (first : Bool) (end : State Known) (e : MinMax) (ks : List ℕ) where
  known-apart : gather_from gather_known (mode_of first) end.count (e, sum_in end) ks
      ≡ (gather_from gather_min_max (mode_of first) end.count e ks, gather_from gather_sum (mode_of first) end.count (sum_in end) ks)
  known-apart = both-gather gather_min_max gather_sum (mode_of first) end.count e (sum_in end) ks

  sum-after : sum_in (after (stream_in first) end ks) ≡ gather_from gather_sum (mode_of first) end.count (sum_in end) ks
  sum-after =
      ap (λ (k : Known). k.1) (seen-after (stream_in first) end ks ∙ both-gather gather_min_max gather_sum (mode_of first) end.count (ends_in end) (sum_in end) ks)

  same_sum : (gather_from gather_known (mode_of first) end.count (e, sum_in end) ks).1 ≡ sum_in (after (stream_in first) end ks)
  same_sum = ap (λ (k : Known). k.1) known-apart ∙ sym sum-after

module _ {o : Opening} {buf : List ℕ} {m : MacaqueV} (I : OfItsBytes o buf m) (hl : opening_value o < 2 ^ 32) (small : Below 8 buf) (ys : List ℕ) (by : Below 32 ys) (n : MacaqueV)
    (h : write_answer m ys buf ≡ answered_on n) where
  abbrev b : ErrorBound
  b = m.error_bound

  abbrev Q : Stream Known
  Q = stream_in (is_first o)

  abbrev ks : List ℕ
  ks = kept (keep_rule b) Q I.end ys

  -- where the bytes end after the write
  abbrev end' : State Known
  end' = wrote (keep_rule b) Q I.end ys

  -- what m has gathered then
  abbrev known : Known
  known = gather_from gather_known (mode_of (is_first o)) I.end.count (ends_in (state_of m), sum_in I.end) ks

  went_on : (n ≡ writer_at m (wrote_by m ys)) × ((wrote_by m ys).place ≤ 8 * length buf) × (write_memory m ys buf ≡ wrote_in (rule_by m) (stream_by m) (state_of m) ys buf)
  unfolding write_answer write_memory
  went_on = calls.wrote_on (coder_by m) (coder-good b m.with_first) (state_of m) ys buf n h

  count-is : n.length ≡ m.length + length ys
  count-is = ap (λ (w : MacaqueV). w.length) went_on.0 ∙ written_count m ys

  few : n.length ≤ most_values
  unfolding write_answer
  few =
      let a = calls.accepted (coder_by m) (coder-good b m.with_first) (state_of m) ys (lent_bytes (length buf)) (judging.accepted-only _ _ _ n h).0 in
      omega (arith, a.1, count-is)

  -- the writer's state after it is that one, but for what it has gathered
  state-is : wrote (keep_rule b) Q (state_of m) ys ≡ knowing Q known end'
  state-is = ap (λ (s : State Known). wrote (keep_rule b) Q s ys) I.state ∙ after-knowing Q (ends_in (state_of m), sum_in I.end) I.end ks

  bytes-are : write_memory m ys buf ≡ wrote_in (keep_rule b) Q I.end ys buf
  bytes-are =
      went_on.2 ∙ ap (laid_in buf m.place) (written-alike m.with_first (is_first o) (keep_rule b) (state_of m) ys I.mode)
      ∙ ap (λ (s : State Known). wrote_in (keep_rule b) Q s ys buf) I.state ∙ ap (laid_in buf I.end.place) (encode-knowing Q (ends_in (state_of m), sum_in I.end) I.end ks)

  now-is : state_of n ≡ knowing Q known end'
  now-is = ap state_of went_on.0 ∙ wrote-alike m.with_first (is_first o) (keep_rule b) (state_of m) ys I.mode ∙ state-is

  room : end'.place ≤ 8 * length buf
  room = omega (arith, went_on.1, ap (λ (s : State Known). s.place) (wrote-alike m.with_first (is_first o) (keep_rule b) (state_of m) ys I.mode ∙ state-is))

  read : (rest : List Bool) × (read_all Q (m.length + length ys) (opened o) (bits_of (take (whole_bytes end'.place) (wrote_in (keep_rule b) Q I.end ys buf))) ≡ done (I.values ++ ks) end' rest)
  read =
      read-on b (is_first o) (opening_value o) hl m.length buf I.values I.end I.rest
      (subst (λ (p : ℕ). read_all Q m.length (opened o) (bits_of (take (whole_bytes p) buf)) ≡ done I.values I.end I.rest) (ap (λ (s : State Known). s.place) I.state) I.reads)
      (omega (arith, room, place_after Q I.end ks)) small ys by room

  pub a-write-stays-of-its-bytes : OfItsBytes o (write_memory m ys buf) n × (n.length ≤ most_values)
  a-write-stays-of-its-bytes =
      let place : n.place ≡ end'.place = ap (λ (s : State Known). s.place) now-is in (
        record {
          mode = λ z. ap (λ (w : MacaqueV). w.with_first) went_on.0 ∙ I.mode (omega (arith, z, count-is));
          values = I.values ++ ks;
          end = end';
          rest = read.0;
          reads =
              ap₂ (λ (j p : ℕ). read_all Q j (opened o) (bits_of (take (whole_bytes p) (write_memory m ys buf)))) count-is place
              ∙ ap (λ (z : List ℕ). read_all Q (m.length + length ys) (opened o) (bits_of (take (whole_bytes end'.place) z))) bytes-are
              ∙ read.1;
          state = now-is ∙ ap₂ (λ (e : MinMax) (x : Float). knowing Q (e, x) end') (ap ends_in (sym now-is)) (same_sum (is_first o) I.end (ends_in (state_of m)) ks);
        },
        few,
      )

  -- the bytes in use are read as the values before and what was kept of ys
  pub a-write-reads-on : values_in (take (whole_bytes n.place) (write_memory m ys buf)) n.length o ≡ answered (I.values ++ ks)
  a-write-reads-on =
      ap₂ (λ (j p : ℕ). values_in (take (whole_bytes p) (write_memory m ys buf)) j o) count-is (ap (λ (s : State Known). s.place) now-is)
      ∙ ap (λ (z : List ℕ). values_in (take (whole_bytes end'.place) z) (m.length + length ys) o) bytes-are
      ∙ ap values_read read.1

  -- and its words are as a program holds them, where those of m were
  pub a-written-writer-is-held : WordsSmall m → WordsSmall n
  a-written-writer-is-held s =
      let W = whole-of-its-bytes I hl in
      let below : Below 32 ks = kept-below Q 32 (keep_rule b) (keeps b 32) I.end ys W.small by in
      let e = ends_stay (mode_of (is_first o)) I.end.count (ends_in (state_of m)) ks s.least s.greatest below in
      let ends : ends_in (state_of n) ≡ gather_from gather_min_max (mode_of (is_first o)) I.end.count (ends_in (state_of m)) ks =
      ap ends_in now-is ∙ ap (λ (k : Known). k.0) (known-apart (is_first o) I.end (ends_in (state_of m)) ks) in
      held-of-its-bytes a-write-stays-of-its-bytes.0 hl (subst (λ (z : MinMax). z.min < 2 ^ 32) (sym ends) e.0) (subst (λ (z : MinMax). z.max < 2 ^ 32) (sym ends) e.1)

  -- "each write on a state whose last value, window, place, length and sum are those of its bytes, keeps it equal to what the sum call would answer"
  pub a-sum-goes-on : SumsAsTheCall o (write_memory m ys buf) n
  a-sum-goes-on = let r = a-write-stays-of-its-bytes in its-sum r.0 r.1

-- ---- "a wrong sum passed in is not refused; it is carried on by the same additions"

judged-sums : (s t : Float) (m n : MacaqueV) (causes : List Cause) → judged_on (with_sum s m) causes (with_sum t n) ≡ with_sums s t (judged_on m causes n)
unfolding judge
judged-sums s t m n [] = refl
judged-sums s t m n (k when true ∷ causes) = refl
judged-sums s t m n (k when false ∷ causes) = judged-sums s t m n causes

module _ (m : MacaqueV) (s : Float) (xs : List ℕ) where
  abbrev first : Bool
  first = m.with_first

  abbrev ms : List ℕ
  ms = kept (rule_by m) (stream_by m) (state_of m) xs

  -- with another sum, the state after is the same but for the sum, and so are the bits
  pub wrote-with-sum : wrote_by (with_sum s m) xs ≡ knowing (stream_by m) (ends_in (wrote_by m xs), carried m s xs) (wrote_by m xs)
  wrote-with-sum =
      let apart = both-gather gather_min_max gather_sum (mode_of first) m.length (ends_in (state_of m)) s ms in
      let ends : ends_in (wrote_by m xs) ≡ gather_from gather_min_max (mode_of first) m.length (ends_in (state_of m)) ms =
      ap (λ (k : Known). k.0) (seen-after (stream_by m) (state_of m) ms ∙ both-gather gather_min_max gather_sum (mode_of first) m.length (ends_in (state_of m)) m.sum ms) in
      after-knowing (stream_by m) (ends_in (state_of m), s) (state_of m) ms
      ∙ ap (λ (k : Known). knowing (stream_by m) k (wrote_by m xs)) (apart ∙ ap (λ (e : MinMax). (e, carried m s xs)) (sym ends))

  pub written-with-sum : written (rule_by m) (stream_by m) (state_of (with_sum s m)) xs ≡ written (rule_by m) (stream_by m) (state_of m) xs
  written-with-sum = encode-knowing (stream_by m) (ends_in (state_of m), s) (state_of m) ms

  -- before a raw first value it does not matter which sum it is
  pub a-first-value-sets-the-sum : m.with_first ≡ true → m.length ≡ 0 → (t : Float) → 0 < length xs → carried m s xs ≡ carried m t xs
  unfolding kept_from gather_from
  a-first-value-sets-the-sum is none t some = go xs some
    where
      go : (xs : List ℕ) → 0 < length xs → carried m s xs ≡ carried m t xs
      go [] z = absurd (omega (arith, z))
      go (x ∷ xs) z =
          let mode : Mode = mode_of m.with_first in
          let raw : raw_next mode m.length ≡ true = ap₂ (λ (f : Bool) (n : ℕ). raw_next (mode_of f) n) is none in
          let v : ℕ = kept_one (rule_by m) (raw_next mode m.length) m.last_value x in
          let vs : List ℕ = kept_from (rule_by m) mode (suc m.length) v xs in
          ap (λ (b : Bool). gather_from gather_sum mode (suc m.length) (gathered gather_sum b s v) vs) raw
          ∙ sym (ap (λ (b : Bool). gather_from gather_sum mode (suc m.length) (gathered gather_sum b t v) vs) raw)

  pub the-sum-is-carried : (buf : List ℕ) → CarriesTheSum m s xs buf
  unfolding write_answer write_memory
  the-sum-is-carried buf =
      let bytes : ℕ = lent_bytes (length buf) in
      let causes : write_causes (with_sum s m) xs bytes ≡ write_causes m xs bytes = ap (λ (p : ℕ). causes_to p) (ap (λ (t : State Known). t.place) wrote-with-sum) in
      record {
        answer =
            ap₂ (λ (cs : List Cause) (t : State Known). judged_on (with_sum s m) cs (writer_at m t)) causes wrote-with-sum
            ∙ judged-sums s (carried m s xs) m (writer_at m (wrote_by m xs)) (write_causes m xs bytes);
        memory = ap₂ (λ (cs : List Cause) (bits : List Bool). judged_memory buf cs (laid_in buf m.place bits)) causes written-with-sum;
      }
    where
      causes_to : ℕ → List Cause
      causes_to p =
          bound_causes m.error_bound
          ++ (2 when not (usable macaque (lent_bytes (length buf)) (state_of m))
          ∷ 3 when theory.too_many m.length (length xs)
          ∷ 4 when not (leb p (8 * lent_bytes (length buf)))
          ∷ [])
