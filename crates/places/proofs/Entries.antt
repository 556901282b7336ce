-- The entries of a place table, written and read: how many there are, of one list after another, of the first values alone, and which state each is of.
-- What is written is read as the same entries. Assumes nothing.
use mathlib.Core.Path.{◌≡◌, refl, sym, ap, ◌∙◌, subst}
use mathlib.Core.Bool.{Bool, true, false, cond}
use mathlib.Core.List.{List, [], ◌∷◌, ◌++◌, append_assoc}
use mathlib.Core.Option.{none, some}
use Prim.Native.Nat.{ℕ, zero, suc, ◌+◌, ◌-◌, ◌*◌, ◌%◌, ◌^◌, ◌≤◌, ◌<◌}
use native.Mathlib.Omega.{arith}
use borrow.Author.Tests.{eqb-true, eqb-false, eq-eqb, ne_eqb}
use lib.Dec.{eqb}
use lib.ListN.{length, take, drop, get_or, get_elem?, length-append, take-append-drop}
use lib.Seq.{drop-append_seam, drop-cons, take_at, length-take-le}
use Rattle.bits.specs.Bits.{Below}
use Rattle.stream.specs.Format.{Window, opening, Gather, gathered, Mode, with_first, without_first, raw_next, opened_on, Stream, State, fresh, is_raw, advance}
use Rattle.stream.specs.Write.{bits_one, next, encode, after}
use Rattle.stream.specs.Read.{Step, got, halt, Reading, done, stopped, push, follow, step_at, read_n}
use Rattle.places.specs.Table.{spacing, Entry, entry_of, noted, entries_for, entries, unless_halted, entries_in}
use Rattle.stream.specs.Needs.{Good}
use Rattle.stream.proofs.OneValue.{read_one_lem}
use Rattle.stream.proofs.Writing.{count-after}
use Rattle.stream.proofs.Gathered.{instead, holding}

-- a count asks for the entry of each value number below it that is a multiple of 64, and for no other
pub asked-for : (i n : ℕ) → (i < entries_for n → spacing * i < n) × (spacing * i < n → i < entries_for n)
asked-for i n = (λ lt. omega arith, λ lt. omega arith)

-- one value more asks for one entry more exactly where one is noted
noted-counts : {A : Type 0} (S : Stream A) (s : State A) → entries_for s.count + length (noted S s) ≡ entries_for (suc s.count)
noted-counts S s = go (eqb (s.count % spacing) 0) refl
  where
    go : (b : Bool) → eqb (s.count % spacing) 0 ≡ b → entries_for s.count + length (cond b (entry_of S s ∷ []) []) ≡ entries_for (suc s.count)
    go true e = omega (arith, eqb-true (s.count % spacing) 0 e)
    go false e =
        let some : ¬ (s.count % spacing ≡ 0) = eqb-false (s.count % spacing) 0 e in
        omega arith

-- what an entry holds: before a raw value +0, whatever last value the state has
pub raw-entry : {A : Type 0} (S : Stream A) (s : State A) → is_raw S s ≡ true → entry_of S s ≡ record { place = s.place; last = 0; win = s.win }
raw-entry S s h = ap (λ (b : Bool). entry s.place (cond b 0 s.last) s.win) h
  where
    entry : ℕ → ℕ → Window → Entry
    entry p l w = record { place = p; last = l; win = w }

-- and in a fresh state the value that the stream opens on, in the mode with a first value +0
fresh-last : (m : Mode) (l : ℕ) → cond (raw_next m 0) 0 (opened_on m l) ≡ opened_on m l
fresh-last with_first l = refl
fresh-last without_first l = refl

pub fresh-entry : {A : Type 0} (S : Stream A) (l : ℕ) → entry_of S (fresh S l) ≡ record { place = 0; last = opened_on S.mode l; win = opening }
fresh-entry S l = let last = fresh-last S.mode l in λ i. record { place = 0; last = last i; win = opening }

-- an entry, or none
pub noted_one : {A : Type 0} (S : Stream A) (s : State A) → s.count % spacing ≡ 0 → noted S s ≡ entry_of S s ∷ []
noted_one S s e = ap (λ (b : Bool). cond b (entry_of S s ∷ []) []) (eq-eqb (s.count % spacing) 0 e)

pub noted-none : {A : Type 0} (S : Stream A) (s : State A) → (s.count % spacing ≡ 0 → ⊥) → noted S s ≡ []
noted-none S s e = ap (λ (b : Bool). cond b (entry_of S s ∷ []) []) (ne_eqb (s.count % spacing) 0 e)

noted-at : {A : Type 0} (S : Stream A) (s : State A) (i : ℕ) → s.count ≡ spacing * i → noted S s ≡ entry_of S s ∷ []
noted-at S s i h = noted_one S s (omega arith)

-- entry i of a list: behind the first i, among the first, and beyond the last
pub elem_at : {X : Type 0} (ds : List X) (e : X) (es : List X) (i : ℕ) → length ds ≡ i → get_elem? (ds ++ (e ∷ es)) i ≡ some e
elem_at ds e es i h = ap (get_elem? (ds ++ (e ∷ es))) (sym h) ∙ go ds
  where
    go : (ds : List _) → get_elem? (ds ++ (e ∷ es)) (length ds) ≡ some e
    go [] = refl
    go (d ∷ ds) = go ds

pub elem-first : {X : Type 0} (ds es : List X) (i : ℕ) → i < length ds → get_elem? (ds ++ es) i ≡ get_elem? ds i
elem-first [] es i lt = absurd (omega arith)
elem-first (d ∷ ds) es zero lt = refl
elem-first (d ∷ ds) es (suc i) lt = elem-first ds es i (omega arith)

pub elem-none : {X : Type 0} (ds : List X) (i : ℕ) → length ds ≤ i → get_elem? ds i ≡ none
elem-none [] i le = refl
elem-none (d ∷ ds) zero le = absurd (omega arith)
elem-none (d ∷ ds) (suc i) le = elem-none ds i (omega arith)

-- ---- written

module _ {A : Type 0} (S : Stream A) where
  pub entries-append : (s : State A) (us vs : List ℕ) → entries S s (us ++ vs) ≡ entries S s us ++ entries S (after S s us) vs
  unfolding entries after
  entries-append s [] vs = refl
  entries-append s (u ∷ us) vs =
      ap (λ (z : List Entry). noted S s ++ z) (entries-append (next S s u) us vs)
      ∙ sym (append_assoc (noted S s) (entries S (next S s u) us) (entries S (after S (next S s u) us) vs))

  pub entries-count : (s : State A) (vs : List ℕ) → entries_for s.count + length (entries S s vs) ≡ entries_for (s.count + length vs)
  unfolding entries
  entries-count s [] = omega arith
  entries-count s (v ∷ vs) =
      omega (arith, length-append (noted S s) (entries S (next S s v) vs), noted-counts S s, entries-count (next S s v) vs)

  module _ (l : ℕ) (vs : List ℕ) where
    pub fresh-entries : length (entries S (fresh S l) vs) ≡ entries_for (length vs)
    fresh-entries = omega (arith, entries-count (fresh S l) vs)

  -- those of the first k values
  pub take-entries : (l : ℕ) (vs : List ℕ) (k : ℕ) → k ≤ length vs → take (entries_for k) (entries S (fresh S l) vs) ≡ entries S (fresh S l) (take k vs)
  take-entries l vs k le =
      let f : State A = fresh S l in
      let us : List ℕ = take k vs in
      ap (λ (z : List ℕ). take (entries_for k) (entries S f z)) (sym (take-append-drop k vs))
      ∙ ap (take (entries_for k)) (entries-append f us (drop k vs))
      ∙ take_at (entries S f us) (entries S (after S f us) (drop k vs)) (entries_for k) (fresh-entries l us ∙ ap entries_for (length-take-le k vs le))

  -- a list that starts at a multiple of 64 starts with that entry
  pub starts_with : (s : State A) (i v : ℕ) (vs : List ℕ) → s.count ≡ spacing * i → entries S s (v ∷ vs) ≡ entry_of S s ∷ entries S (next S s v) vs
  unfolding entries
  starts_with s i v vs h = ap (λ (z : List Entry). z ++ entries S (next S s v) vs) (noted-at S s i h)

  -- entry i is of the state before value 64 * i
  pub entry-written : (l : ℕ) (vs : List ℕ) (i : ℕ) → spacing * i < length vs
      → get_elem? (entries S (fresh S l) vs) i ≡ some (entry_of S (after S (fresh S l) (take (spacing * i) vs)))
  entry-written l vs i lt =
      let f : State A = fresh S l in
      let k : ℕ = spacing * i in
      let us : List ℕ = take k vs in
      let m : State A = after S f us in
      let v : ℕ = get_or vs k 0 in
      let ws : List ℕ = drop (suc k) vs in
      let lu : length us ≡ k = length-take-le k vs (omega arith) in
      ap (λ (z : List ℕ). get_elem? (entries S f z) i) (sym (take-append-drop k vs) ∙ ap (λ (z : List ℕ). us ++ z) (drop-cons vs k 0 lt))
      ∙ ap (λ (z : List Entry). get_elem? z i) (entries-append f us (v ∷ ws))
      ∙ ap (λ (z : List Entry). get_elem? (entries S f us ++ z) i) (starts_with m i v ws (omega (arith, count-after S f us)))
      ∙ elem_at (entries S f us) (entry_of S m) (entries S (next S m v) ws) i (omega (arith, fresh-entries l us))

-- ---- read

-- what the first k values say: how many entries they have, and that those of more values follow them
pub record Entered {A : Type 0} (S : Stream A) (k : ℕ) (s : State A) (bs : List Bool) (t : State A) (r : List Bool) : Type 0 where
  pub counted : t.count ≡ s.count + k
  pub number : entries_for s.count + length (entries_in S k s bs) ≡ entries_for t.count
  pub onward : (j : ℕ) → entries_in S (k + j) s bs ≡ entries_in S k s bs ++ entries_in S j t r

abbrev pub EnteredIn : {A : Type 0} → Stream A → ℕ → State A → List Bool → Reading A → Type 0
EnteredIn S k s bs (done us t r) = Entered S k s bs t r
EnteredIn S k s bs (stopped f) = Unit

module _ {A : Type 0} (S : Stream A) where
  entered-suc : (k : ℕ) (s : State A) (bs : List Bool) (v : ℕ) (win : Window) (u : ℕ) → step_at S s bs ≡ got v win u
      → (q : Reading A) → EnteredIn S k (advance S s v win u) (drop u bs) q → EnteredIn S (suc k) s bs (push v q)
  unfolding entries_in
  entered-suc k s bs v win u e (stopped f) E = tt
  entered-suc k s bs v win u e (done us t r) E =
      let s' : State A = advance S s v win u in
      let N : List Entry = entries_in S k s' (drop u bs) in
      let goes_on : (m : ℕ) → entries_in S (suc m) s bs ≡ noted S s ++ entries_in S m s' (drop u bs) =
      λ m. ap (λ (q : Step). noted S s ++ unless_halted q (λ y w used. entries_in S m (advance S s y w used) (drop used bs))) e in
      let long : length (entries_in S (suc k) s bs) ≡ length (noted S s) + length N = ap length (goes_on k) ∙ length-append (noted S s) N in
      record {
        counted = omega (arith, E.counted);
        number = omega (arith, noted-counts S s, E.number);
        onward = λ j.
            let up : suc k + j ≡ suc (k + j) = omega arith in
            ap (λ (m : ℕ). entries_in S m s bs) up ∙ goes_on (k + j)
            ∙ ap (λ (z : List Entry). noted S s ++ z) (E.onward j)
            ∙ sym (append_assoc (noted S s) N (entries_in S j t r))
            ∙ ap (λ (z : List Entry). z ++ entries_in S j t r) (sym (goes_on k));
      }

  pub entered : (k : ℕ) (s : State A) (bs : List Bool) → EnteredIn S k s bs (read_n S k s bs)
  unfolding read_n entries_in
  entered zero s bs =
      record { counted = omega arith; number = omega arith; onward = λ j. let up : 0 + j ≡ j = omega arith in ap (λ (m : ℕ). entries_in S m s bs) up }
  entered (suc k) s bs = go (step_at S s bs) refl (λ s' bs'. entered k s' bs')
    where
      go : (q : Step) → step_at S s bs ≡ q → ((s' : State A) (bs' : List Bool) → EnteredIn S k s' bs' (read_n S k s' bs'))
          → EnteredIn S (suc k) s bs (follow s q (λ v win used. push v (read_n S k (advance S s v win used) (drop used bs))))
      go (halt m) e ih = tt
      go (got v win u) e ih = entered-suc k s bs v win u e (read_n S k (advance S s v win u) (drop u bs)) (ih (advance S s v win u) (drop u bs))

  -- a stream's own table has the number of entries its count asks for
  pub own-number : (l n : ℕ) (bs : List Bool) (vs : List ℕ) (t : State A) (r : List Bool) → read_n S n (fresh S l) bs ≡ done vs t r
      → length (entries_in S n (fresh S l) bs) ≡ entries_for n
  own-number l n bs vs t r h =
      let E : Entered S n (fresh S l) bs t r = subst (EnteredIn S n (fresh S l) bs) h (entered n (fresh S l) bs) in
      omega (arith, E.number, E.counted)

  -- and its entry i is of the state before value 64 * i
  pub entry_read : (l n i : ℕ) (bs : List Bool) → spacing * i < n → (us : List ℕ) (t : State A) (r : List Bool)
      → read_n S (spacing * i) (fresh S l) bs ≡ done us t r → get_elem? (entries_in S n (fresh S l) bs) i ≡ some (entry_of S t)
  unfolding entries_in
  entry_read l n i bs lt us t r h =
      let f : State A = fresh S l in
      let k : ℕ = spacing * i in
      let m : ℕ = n - k - 1 in
      let up : n ≡ k + suc m = omega arith in
      let E : Entered S k f bs t r = subst (EnteredIn S k f bs) h (entered k f bs) in
      let D : List Entry = entries_in S k f bs in
      let more : List Entry = unless_halted (step_at S t r) (λ v win used. entries_in S m (advance S t v win used) (drop used r)) in
      ap (λ (z : ℕ). get_elem? (entries_in S z f bs) i) up
      ∙ ap (λ (z : List Entry). get_elem? z i) (E.onward (suc m))
      ∙ ap (λ (z : List Entry). get_elem? (D ++ (z ++ more)) i) (noted-at S t i (omega (arith, E.counted)))
      ∙ elem_at D (entry_of S t) more i (omega (arith, E.number, E.counted))

  -- what was written is read with the same entries
  pub entries-back : Good S.format → (s : State A) (vs : List ℕ) (r : List Bool) → s.last < 2 ^ S.format.width → Below S.format.width vs
      → entries_in S (length vs) s (encode S s vs ++ r) ≡ entries S s vs
  unfolding entries entries_in encode
  entries-back good s [] r h b = refl
  entries-back good s (v ∷ vs) r h b =
      let B : List Bool = bits_one S s v in
      let R : List Bool = encode S (next S s v) vs ++ r in
      ap (entries_in S (suc (length vs)) s) (append_assoc B (encode S (next S s v) vs) r)
      ∙ ap (λ (q : Step). noted S s ++ unless_halted q (λ y win used. entries_in S (length vs) (advance S s y win used) (drop used (B ++ R))))
      (read_one_lem S.format good (is_raw S s) s.win s.last v R h (b 0))
      ∙ ap (λ (z : List Bool). noted S s ++ entries_in S (length vs) (next S s v) z) (drop-append_seam B R)
      ∙ ap (λ (z : List Entry). noted S s ++ z) (entries-back good (next S s v) vs r (b 0) (λ i. b (suc i)))

-- whatever a state gathers, the same entries are read
pub entries-any : {A B : Type 0} (S : Stream A) (G : Gather B) (n : ℕ) (s : State A) (b : B) (bs : List Bool)
    → entries_in S n s bs ≡ entries_in (instead S G) n (holding S G b s) bs
unfolding entries_in
entries-any S G zero s b bs = refl
entries-any {A} {B} S G (suc n) s b bs = ap (λ (z : List Entry). noted S s ++ z) (go (step_at S s bs) (λ s' b' bs'. entries-any S G n s' b' bs'))
  where
    go : (q : Step) → ((s' : State A) (b' : B) (bs' : List Bool) → entries_in S n s' bs' ≡ entries_in (instead S G) n (holding S G b' s') bs')
        → unless_halted q (λ v win used. entries_in S n (advance S s v win used) (drop used bs))
        ≡ unless_halted q (λ v win used. entries_in (instead S G) n (advance (instead S G) (holding S G b s) v win used) (drop used bs))
    go (got v win u) ih = ih (advance S s v win u) (gathered G (is_raw S s) b v) (drop u bs)
    go (halt m) ih = refl
