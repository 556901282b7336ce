-- The reading of a range with a table that the check accepts: that part of the full reading. Assumes nothing.
use mathlib.Core.Path.{◌≡◌, refl, sym, ap, ap₂, ◌∙◌, subst}
use mathlib.Core.Logic.{◌⊎◌, inl, inr}
use mathlib.Core.Bool.{Bool, true, false, cond}
use mathlib.Core.List.{List, [], ◌++◌}
use mathlib.Core.Option.{some}
use Prim.Native.Nat.{ℕ, zero, suc, ◌+◌, ◌-◌, ◌*◌, ◌^◌, ◌≤◌, ◌<◌}
use native.Mathlib.Nat.{eq-or-lt_of_le, mul-le-mul_right}
use native.Mathlib.Omega.{arith}
use borrow.Author.Tests.{le-leb, lt-ltb}
use lib.Dec.{leb, ltb}
use lib.ListN.{length, take, drop, replicate, get_elem?, length-append, length-take}
use lib.Seq.{drop-append-add, drop_at, length-take-le, take-add}
use Rattle.bits.specs.Bits.{Below, bits_of, whole_bytes, padding}
use Rattle.models.specs.Answers.{answered, refused}
use Rattle.models.proofs.Tests.{and_both}
use Rattle.stream.proofs.Branches.{or_some}
use Rattle.stream.specs.Calls.{fault_at}
use Rattle.stream.specs.Format.{Format, opening, Stream, State, fresh, is_opening, leaves_a_bit, Mode, with_first, without_first, raw_next, is_raw}
use Rattle.stream.specs.Write.{kept, Keeps}
use Rattle.stream.specs.Read.{StreamRefusal, Reading, done, stopped, read_n, read_all}
use Rattle.places.specs.Table.{Entry, last_before, entry_of, entries_in, MadeBeside, check_table, entry_before, reads_from, reads_in_all, state_from, may_start, without, read_range}
use Rattle.stream.specs.Needs.{Good, longest}
use Rattle.stream.proofs.Writing.{fresh-small}
use Rattle.stream.proofs.Reading.{prepend, then_read, read-then, Whole, WholeOf, whole}
use Rattle.stream.proofs.Formats.{Framed}
use Rattle.stream.proofs.Rule.{Ruled, RuledIn, fresh-ruled, read-ruled, framed-leaves}
use Rattle.stream.proofs.Near.{NearIn, read-near}
use Rattle.stream.proofs.Gathered.{holding, Alike, read-any}
use Rattle.stream.proofs.Reopen.{Opened, any-opened}
use Rattle.stream.proofs.Made.{made-read}
use Rattle.places.proofs.Entries.{fresh-entry, entry_read}
use Rattle.places.proofs.Check.{check-says, made-checks}
use Rattle.places.proofs.Any.{range-empty, range-reads}

-- ---- with a stream's own table

-- what a state gathers has no part in the values
alike-without : {A : Type 0} (S : Stream A) (k : ℕ) (x y : Reading A) → Alike S S.gather x y → without k x ≡ without k y
alike-without S k (done vs s r) (done us t b) e = ap (λ (z : List ℕ). answered (drop k z)) e.0
alike-without S k (done vs s r) (stopped f) e = absurd e
alike-without S k (stopped f) (done us t b) e = absurd e
alike-without S k (stopped f) (stopped g) e = ap (λ (f : StreamRefusal). refused (fault_at f)) e

-- nor have values before the k-th
without-prepend : {A : Type 0} (us : List ℕ) (k d : ℕ) (x : Reading A) → length us ≡ k → without (k + d) (prepend us x) ≡ without d x
without-prepend us k d (done vs s r) e =
    ap (λ (n : ℕ). answered (drop (n + d) (us ++ vs))) (sym e) ∙ ap answered (drop-append-add us vs d)
without-prepend us k d (stopped f) e = refl

-- the entry that holds just what the state does
abbrev plain : {A : Type 0} → State A → Entry
plain s = record { place = s.place; last = s.last; win = s.win }

-- that is the one of the state behind the first k values of a stream: before a raw value it holds +0, and later values are not raw
pub not-raw : (m : Mode) (n : ℕ) → 0 < n → raw_next m n ≡ false
not-raw without_first n h = refl
not-raw with_first zero h = absurd (omega (arith, h))
not-raw with_first (suc n) h = refl

said_plain : {A : Type 0} (S : Stream A) (l k : ℕ) (bs : List Bool) (vs : List ℕ) (s : State A) (r : List Bool) → read_n S k (fresh S l) bs ≡ done vs s r → s.count ≡ k → entry_of S s ≡ plain s
unfolding read_n
said_plain {A} S l zero bs vs s r h c =
    let is : fresh S l ≡ s = same h in
    ap (entry_of S) (sym is) ∙ fresh-entry S l ∙ ap plain is
  where
    same : done [] (fresh S l) bs ≡ done vs s r → fresh S l ≡ s
    same e = cc
said_plain {A} S l (suc k) bs vs s r h c =
    let raw : is_raw S s ≡ false = not-raw S.mode s.count (omega arith) in
    let last : last_before S s ≡ s.last = ap (λ (b : Bool). cond b 0 s.last) raw in
    λ i. record { place = s.place; last = last i; win = s.win }

-- a state that keeps the rule and stands within the bits has an entry to start from
ruled-starts : {A : Type 0} (F : Format) (bits : ℕ) (s : State A) → s.last < 2 ^ F.width → Ruled F s → s.place ≤ bits → may_start F bits (some (plain s)) ≡ true
ruled-starts F bits s small R le =
    and_both (ltb s.last (2 ^ F.width)) _ (lt-ltb s.last (2 ^ F.width) small)
    (and_both (leb s.place bits) _ (le-leb s.place bits le) (or_some (is_opening s.win) (leaves_a_bit F s.win) (go R.window)))
  where
    go : (s.win ≡ opening) ⊎ ((0 < s.count) × Framed F s.win) → (is_opening s.win ≡ true) ⊎ (leaves_a_bit F s.win ≡ true)
    go (inl e) = inl (ap is_opening e)
    go (inr g) = inr (framed-leaves F s.win g.1)

-- the values p to q − 1 of a list
drop-take : (p q : ℕ) (vs : List ℕ) → p ≤ q → p ≤ length vs → drop p (take q vs) ≡ take (q - p) (drop p vs)
drop-take p q vs le long =
    let up : q ≡ p + (q - p) = omega arith in
    ap (λ (n : ℕ). drop p (take n vs)) up ∙ ap (drop p) (take-add p (q - p) vs)
    ∙ drop_at (take p vs) (take (q - p) (drop p vs)) p (length-take-le p vs long)

-- the state behind the values before the entry at or before p: the entry that holds it, and where it stands
record Starts {A : Type 0} (S : Stream A) (p : ℕ) (bs : List Bool) (us : List ℕ) (s : State A) (rest : List Bool) : Type 0 where
  long : length us ≡ reads_from p
  counted : s.count ≡ reads_from p
  holds : entry_of S s ≡ plain s
  here : rest ≡ drop s.place bs
  within : s.place ≤ length bs
  near : s.place ≤ reads_from p * longest S.format
  may : (bits : ℕ) → s.place ≤ bits → may_start S.format bits (some (plain s)) ≡ true

module _ {A : Type 0} (S : Stream A) (good : Good S.format) (l : ℕ) (hl : l < 2 ^ S.format.width) (bs : List Bool) where
  starts-at : (p : ℕ) (us : List ℕ) (s : State A) (rest : List Bool) → read_n S (reads_from p) (fresh S l) bs ≡ done us s rest → Starts S p bs us s rest
  starts-at p us s rest h =
      let F : Format = S.format in
      let f : State A = fresh S l in
      let hf : f.last < 2 ^ F.width = fresh-small S F.width l hl in
      let k : ℕ = reads_from p in
      let W : Whole S k f bs us s rest = subst (WholeOf S k f bs) h (whole S good k f bs hf) in
      let R : Ruled F s = subst (RuledIn F) h (read-ruled S good k f bs hf (fresh-ruled S l)) in
      let near : s.place ≤ s.count * longest F = subst (NearIn F) h (read-near S good k f bs hf (omega arith)) in
      let c : s.count ≡ k = omega (arith, W.counted) in
      record {
        long = W.long;
        counted = c;
        holds = said_plain S l k bs us s rest h c;
        here = sym (ap (drop s.place) W.cut ∙ drop_at W.front rest s.place (omega (arith, W.placed)));
        within = omega (arith, W.placed, ap length W.cut, length-append W.front rest);
        near = subst (λ (n : ℕ). s.place ≤ n * longest F) c near;
        may = λ bits le. ruled-starts F bits s W.small R le;
      }

  -- with the right entry at or before p, that of the state that a reader has there: a range is that part of reading the first q values, and refused as that
  -- is, with its value and place
  pub right-range : (p q : ℕ) → p < q → (table : List Entry) (us : List ℕ) (s : State A) (rest : List Bool)
      → read_n S (reads_from p) (fresh S l) bs ≡ done us s rest → get_elem? table (entry_before p) ≡ some (entry_of S s)
      → read_range S bs table p q ≡ without p (read_n S q (fresh S l) bs)
  right-range p q lt table us s rest h at =
      let f : State A = fresh S l in
      let k : ℕ = reads_from p in
      let m : ℕ = reads_in_all p q in
      let d : ℕ = p - k in
      let to : k + d ≡ p = omega arith in
      let all : k + m ≡ q = omega arith in
      let B : Starts S p bs us s rest = starts-at p us s rest h in
      range-reads S bs table p q lt (plain s) (at ∙ ap some B.holds) (B.may (length bs) B.within)
      ∙ ap₂ (λ (i : ℕ) (u : List Bool). without d (read_n S m (state_from S i (plain s)) u)) (sym B.counted) (sym B.here)
      ∙ sym (alike-without S d (read_n S m s rest) (read_n S m (holding S S.gather S.gather.none s) rest) (read-any S S.gather m s S.gather.none rest))
      ∙ sym (without-prepend us k d (read_n S m s rest) B.long)
      ∙ ap₂ (λ (i : ℕ) (x : Reading A). without i x) to (sym (read-then S k m f bs ∙ ap (then_read S m) h))
      ∙ ap (λ (i : ℕ). without p (read_n S i f bs)) all

  -- and may start from it, judged by so many bits as hold each place that is among the stream's bits and near the start
  pub right-entry-starts : (p : ℕ) (table : List Entry) (us : List ℕ) (s : State A) (rest : List Bool)
      → read_n S (reads_from p) (fresh S l) bs ≡ done us s rest → get_elem? table (entry_before p) ≡ some (entry_of S s)
      → (bits : ℕ) → ((place : ℕ) → place ≤ length bs → place ≤ p * longest S.format → place ≤ bits)
      → may_start S.format bits (get_elem? table (entry_before p)) ≡ true
  right-entry-starts p table us s rest h at bits holds =
      let B : Starts S p bs us s rest = starts-at p us s rest h in
      let few : reads_from p ≤ p = omega arith in
      ap (may_start S.format bits) (at ∙ ap some B.holds)
      ∙ B.may bits (holds s.place B.within (omega (arith, B.near, mul-le-mul_right (longest S.format) few)))

module _ {A : Type 0} (S : Stream A) (good : Good S.format) (l : ℕ) (hl : l < 2 ^ S.format.width) (n : ℕ) (bs : List Bool) (vs : List ℕ) where
  -- of an accepted stream the entry is right
  own-entry : (p : ℕ) → p < n → (o : Opened S l n (reads_from p) bs vs) → get_elem? (entries_in S n (fresh S l) bs) (entry_before p) ≡ some (entry_of S o.state)
  own-entry p lt o = entry_read S l n (entry_before p) bs (omega arith) (take (reads_from p) vs) o.state o.rest o.reads

  opened-range : (p q : ℕ) → p < q → q ≤ n → Opened S l n (reads_from p) bs vs → Opened S l n q bs vs
      → read_range S bs (entries_in S n (fresh S l) bs) p q ≡ answered (take (q - p) (drop p vs))
  opened-range p q lt le o z =
      let f : State A = fresh S l in
      let hf : f.last < 2 ^ S.format.width = fresh-small S S.format.width l hl in
      let Q : Whole S q f bs (take q vs) z.state z.rest = subst (WholeOf S q f bs) z.reads (whole S good q f bs hf) in
      right-range S good l hl bs p q lt (entries_in S n f bs) (take (reads_from p) vs) o.state o.rest o.reads (own-entry p (omega arith) o)
      ∙ ap (without p) z.reads
      ∙ ap answered (drop-take p q vs (omega arith) (omega (arith, Q.long, length-take q vs)))

  pub own-entry-starts : (t : State A) (r : List Bool) → read_all S n (fresh S l) bs ≡ done vs t r → (p : ℕ) → p < n
      → (bits : ℕ) → ((place : ℕ) → place ≤ length bs → place ≤ p * longest S.format → place ≤ bits)
      → may_start S.format bits (get_elem? (entries_in S n (fresh S l) bs) (entry_before p)) ≡ true
  own-entry-starts t r h p lt =
      let o = any-opened S good l hl n (reads_from p) (omega arith) bs vs t r h in
      right-entry-starts S good l hl bs p (entries_in S n (fresh S l) bs) (take (reads_from p) vs) o.state o.rest o.reads (own-entry p lt o)

  -- for a table that the check accepts: the values p to q − 1 of the full reading
  pub checked-range : (t : State A) (r : List Bool) → read_all S n (fresh S l) bs ≡ done vs t r
      → (table : List Entry) → check_table S n (fresh S l) bs table ≡ answered tt → (p q : ℕ) → p ≤ q → q ≤ n
      → read_range S bs table p q ≡ answered (take (q - p) (drop p vs))
  checked-range t r h table ok p q le most = go (eq-or-lt_of_le le)
    where
      go : (p ≡ q) ⊎ (p < q) → read_range S bs table p q ≡ answered (take (q - p) (drop p vs))
      go (inl e) =
          let z : 0 ≡ q - p = omega arith in
          ap (read_range S bs table p) (sym e) ∙ range-empty S bs table p ∙ ap (λ (i : ℕ). answered (take i (drop p vs))) z
      go (inr lt) =
          ap (λ (d : List Entry). read_range S bs d p q) (check-says S n (fresh S l) bs table ok).own
          ∙ opened-range p q lt most (any-opened S good l hl n (reads_from p) (omega arith) bs vs t r h) (any-opened S good l hl n q most bs vs t r h)

-- ---- with the table that a writer made: the kept values p to q − 1

pub made_range : {A : Type 0} (rule : ℕ → ℕ → ℕ) (S : Stream A) (l : ℕ) {xs buf : List ℕ} {s : State A} {table : List Entry} → MadeBeside rule S l xs buf s table
    → Good S.format → Keeps S.format.width rule → l < 2 ^ S.format.width → Below S.format.width xs → (p q : ℕ) → p ≤ q → q ≤ length xs
    → read_range S (bits_of (take (whole_bytes s.place) buf)) table p q ≡ answered (take (q - p) (drop p (kept rule S (fresh S l) xs)))
made_range rule S l {xs} {buf} {s} {table} M good K hl bx =
    checked-range S good l hl (length xs) (bits_of (take (whole_bytes s.place) buf)) (kept rule S (fresh S l) xs) s
    (replicate (padding s.place) false) (made-read rule S l M.made good K hl bx) table (made-checks rule S l M good K hl bx)
