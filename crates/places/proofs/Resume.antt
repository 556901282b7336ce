-- Any accepted stream with its own place table, even one that this writer would not write: reopened at k and written on, it has its own table again.
-- Assumes nothing.
use mathlib.Core.Path.{◌≡◌, refl, sym, ap, ap₂, ◌∙◌, subst}
use mathlib.Core.Bool.{Bool, false}
use mathlib.Core.List.{List, [], ◌++◌, append_assoc}
use Prim.Native.Nat.{ℕ, zero, suc, ◌+◌, ◌-◌, ◌*◌, ◌^◌, ◌≤◌, ◌<◌}
use native.Mathlib.Omega.{arith}
use lib.ListN.{length, take, drop, replicate, length-append, take-append-drop}
use lib.Seq.{drop_at, take_at, length-take-le}
use Rattle.bits.specs.Bits.{Below, bits_of, whole_bytes, padding, padded, laid_in, cut_in}
use Rattle.models.specs.Answers.{answered}
use Rattle.stream.specs.Format.{Window, Stream, State, fresh, is_raw, advance}
use Rattle.stream.specs.Write.{kept, Keeps, written, wrote, wrote_in}
use Rattle.stream.specs.Read.{Step, got, halt, Reading, done, stopped, push, follow, step_at, read_n, read_all, reopened, buffer_after}
use Rattle.places.specs.Table.{Entry, noted, entries_for, entries, unless_halted, entries_in, table_wrote, table_after, check_table}
use Rattle.stream.specs.Needs.{Good}
use Rattle.stream.proofs.OwnBits.{own}
use Rattle.stream.proofs.Writing.{fresh-small, place_after, length-kept, kept-below}
use Rattle.stream.proofs.Reading.{Whole, WholeOf, whole}
use Rattle.stream.proofs.Reopen.{any-opened}
use Rattle.stream.specs.Made.{Resumed}
use Rattle.stream.proofs.AnyStream.{cut-and-laid}
use Rattle.places.proofs.Entries.{Entered, EnteredIn, entered, entries-back}
use Rattle.places.proofs.Check.{check-says, check-own}

-- ---- the entries of n values that were read are of their own bits: what stands after them changes nothing

record Apart {A : Type 0} (S : Stream A) (n : ℕ) (s : State A) (bs r : List Bool) : Type 0 where
  front : List Bool
  cut : bs ≡ front ++ r
  alone : (r' : List Bool) → entries_in S n s (front ++ r') ≡ entries_in S n s bs

abbrev ApartIn : {A : Type 0} → Stream A → ℕ → State A → List Bool → Reading A → Type 0
ApartIn S n s bs (done vs t r) = Apart S n s bs r
ApartIn S n s bs (stopped f) = Unit

module _ {A : Type 0} (S : Stream A) (good : Good S.format) where
  apart-suc : (n : ℕ) (s : State A) (bs : List Bool) (v : ℕ) (win : Window) (u : ℕ) → step_at S s bs ≡ got v win u → s.last < 2 ^ S.format.width
      → (q : Reading A) → ApartIn S n (advance S s v win u) (drop u bs) q → ApartIn S (suc n) s bs (push v q)
  unfolding entries_in
  apart-suc n s bs v win u e h (stopped f) P = tt
  apart-suc n s bs v win u e h (done vs t r) P =
      let o = own S.format good s.win s.last h bs v win u (is_raw S s) e in
      record {
        front = take u bs ++ P.front;
        cut = sym (take-append-drop u bs) ∙ ap (λ (z : List Bool). take u bs ++ z) P.cut ∙ sym (append_assoc (take u bs) P.front r);
        alone = λ r'.
            let X : List Bool = P.front ++ r' in
            let from : (z : List Bool) → Step → List Entry =
            λ z q. noted S s ++ unless_halted q (λ y w used. entries_in S n (advance S s y w used) (drop used z)) in
            ap (entries_in S (suc n) s) (append_assoc (take u bs) P.front r')
            ∙ ap (from (take u bs ++ X)) (o.alone X)
            ∙ ap (λ (z : List Bool). noted S s ++ entries_in S n (advance S s v win u) z) (drop_at (take u bs) X u (length-take-le u bs o.there))
            ∙ ap (λ (z : List Entry). noted S s ++ z) (P.alone r')
            ∙ ap (from bs) (sym e);
      }

  apart : (n : ℕ) (s : State A) (bs : List Bool) → s.last < 2 ^ S.format.width → ApartIn S n s bs (read_n S n s bs)
  unfolding read_n entries_in
  apart zero s bs h = record { front = []; cut = refl; alone = λ r'. refl }
  apart (suc n) s bs h = go (step_at S s bs) refl (λ s' bs' h'. apart n s' bs' h')
    where
      go : (q : Step) → step_at S s bs ≡ q → ((s' : State A) (bs' : List Bool) → s'.last < 2 ^ S.format.width → ApartIn S n s' bs' (read_n S n s' bs'))
          → ApartIn S (suc n) s bs (follow s q (λ v win used. push v (read_n S n (advance S s v win used) (drop used bs))))
      go (halt m) e ih = tt
      go (got v win u) e ih =
          let o = own S.format good s.win s.last h bs v win u (is_raw S s) e in
          apart-suc n s bs v win u e h (read_n S n (advance S s v win u) (drop u bs)) (ih (advance S s v win u) (drop u bs) o.small)

-- the rest leaves one front
same-front : (a b r bs : List Bool) → bs ≡ a ++ r → bs ≡ b ++ r → a ≡ b
same-front a b r bs e f =
    let long : length b ≡ length a = omega (arith, ap length e, ap length f, length-append a r, length-append b r) in
    sym (take_at a r (length a) refl) ∙ ap (take (length a)) (sym e ∙ f) ∙ take_at b r (length a) long

module _ {A : Type 0} (S : Stream A) (good : Good S.format) (l : ℕ) (hl : l < 2 ^ S.format.width) (k : ℕ) (bits : List Bool) (us : List ℕ) (m : State A) (rm : List Bool)
    (reads : read_n S k (fresh S l) bits ≡ done us m rm) where
  -- those of the first k values are the first entries of n
  entries_below : (n : ℕ) → k ≤ n → take (entries_for k) (entries_in S n (fresh S l) bits) ≡ entries_in S k (fresh S l) bits
  entries_below n le =
      let f : State A = fresh S l in
      let E : Entered S k f bits m rm = subst (EnteredIn S k f bits) reads (entered S k f bits) in
      let up : n ≡ k + (n - k) = omega arith in
      let number : length (entries_in S k f bits) ≡ entries_for k = omega (arith, E.number, E.counted) in
      ap (λ (i : ℕ). take (entries_for k) (entries_in S i f bits)) up ∙ ap (take (entries_for k)) (E.onward (n - k))
      ∙ take_at (entries_in S k f bits) (entries_in S (n - k) m rm) (entries_for k) number

  -- ys written behind them add their entries
  pub entries-go-on : (rule : ℕ → ℕ → ℕ) → Keeps S.format.width rule → (ys : List ℕ) → Below S.format.width ys
      → entries_in S (k + length ys) (fresh S l) (padded (take m.place bits ++ written rule S m ys))
      ≡ entries_in S k (fresh S l) bits ++ entries S m (kept rule S m ys)
  unfolding padded
  entries-go-on rule K ys by =
      let f : State A = fresh S l in
      let hf : f.last < 2 ^ S.format.width = fresh-small S S.format.width l hl in
      let W : Whole S k f bits us m rm = subst (WholeOf S k f bits) reads (whole S good k f bits hf) in
      let P : Apart S k f bits rm = subst (ApartIn S k f bits) reads (apart S good k f bits hf) in
      let F : List Bool = W.front in
      let new : List Bool = written rule S m ys in
      let ks : List ℕ = kept rule S m ys in
      let z : List Bool = replicate (padding (length (take m.place bits ++ new))) false in
      let cut : take m.place bits ≡ F = ap (take m.place) W.cut ∙ take_at F rm m.place (omega (arith, W.placed)) in
      let E : Entered S k f (F ++ (new ++ z)) m (new ++ z) = subst (EnteredIn S k f (F ++ (new ++ z))) (W.alone (new ++ z)) (entered S k f (F ++ (new ++ z))) in
      ap (λ (u : List Bool). entries_in S (k + length ys) f (u ++ new ++ z)) cut
      ∙ ap (entries_in S (k + length ys) f) (append_assoc F new z)
      ∙ E.onward (length ys)
      ∙ ap₂ (λ (d e : List Entry). d ++ e)
      (ap (λ (u : List Bool). entries_in S k f (u ++ (new ++ z))) (same-front F P.front rm bits W.cut P.cut) ∙ P.alone (new ++ z))
      (ap (λ (i : ℕ). entries_in S i m (new ++ z)) (sym (length-kept S rule m ys))
      ∙ entries-back S good m ks z W.small (kept-below S S.format.width rule K m ys W.small by))

-- of a table that the check accepts, what reopening at k keeps and writing ys adds is accepted again
pub any-table-resumed : {A : Type 0} (rule : ℕ → ℕ → ℕ) (S : Stream A) → Good S.format → Keeps S.format.width rule → (l : ℕ) → l < 2 ^ S.format.width
    → (n k used : ℕ) (buf : List ℕ) → k ≤ n → used ≤ length buf → (vs : List ℕ) (t : State A) (r : List Bool)
    → read_all S n (fresh S l) (bits_of (take used buf)) ≡ done vs t r
    → (table : List Entry) → check_table S n (fresh S l) (bits_of (take used buf)) table ≡ answered tt → (R : Resumed rule S l n k used buf vs)
    → (ys : List ℕ) → Below S.format.width ys → (wrote rule S R.state ys).place ≤ 8 * length buf
    → check_table S (k + length ys) (fresh S l)
    (bits_of (take (whole_bytes (wrote rule S R.state ys).place) (wrote_in rule S R.state ys (buffer_after (reopened R.state) buf))))
    (table_wrote rule S R.state ys (table_after (reopened R.state) table)) ≡ answered tt
any-table-resumed {A} rule S good K l hl n k used buf le fits vs t r h table ok R ys by room =
    let f : State A = fresh S l in
    let m : State A = R.state in
    let bits : List Bool = bits_of (take used buf) in
    let new : List Bool = written rule S m ys in
    let ks : List ℕ = kept rule S m ys in
    let o = any-opened S good l hl n k le bits vs t r h in
    let here : o.state ≡ m = cc (o.opens, R.opens) in
    let reads : read_n S k f bits ≡ done (take k vs) m o.rest = o.reads ∙ ap (λ (s : State A). done (take k vs) s o.rest) here in
    let end : (wrote rule S m ys).place ≡ m.place + length new = place_after S m ks in
    let now : List Bool = bits_of (take (whole_bytes (wrote rule S m ys).place) (laid_in (cut_in buf m.place) m.place new)) in
    let is : now ≡ padded (take m.place bits ++ new) =
    ap (λ (z : ℕ). bits_of (take (whole_bytes z) (laid_in (cut_in buf m.place) m.place new))) end
    ∙ cut-and-laid used buf fits m.place R.placed new (omega arith) in
    check-own S (k + length ys) l now (take k vs ++ ks) (wrote rule S m ys) (replicate (padding (wrote rule S m ys).place) false) (R.reads ys by room)
    (table_wrote rule S m ys (table_after (reopened m) table))
    (ap₂ (λ (i : ℕ) (d : List Entry). take (entries_for i) d ++ entries S m ks) R.counted (check-says S n f bits table ok).own
    ∙ ap (λ (d : List Entry). d ++ entries S m ks) (entries_below S good l hl k bits (take k vs) m o.rest reads n le)
    ∙ sym (entries-go-on S good l hl k bits (take k vs) m o.rest reads rule K ys by)
    ∙ ap (entries_in S (k + length ys) f) (sym is))
