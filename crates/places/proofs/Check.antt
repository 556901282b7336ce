-- The check of a place table: it accepts a table exactly if the stream is accepted and the table is the stream's own; the table that a writer made is.
-- Assumes nothing.
use mathlib.Core.Path.{◌≡◌, refl, sym, ap, ap₂, ◌∙◌}
use mathlib.Core.Bool.{Bool, true, false, cond, false≢true}
use mathlib.Core.List.{List, [], ◌∷◌}
use Prim.Native.Nat.{ℕ, ◌^◌, ◌<◌}
use native.Mathlib.Omega.{arith}
use borrow.Author.Tests.{eqb-true, eq-eqb, ne_eqb}
use lib.Dec.{eqb}
use lib.ListN.{length, take, replicate}
use Rattle.bits.specs.Bits.{Below, bits_of, whole_bytes, padding, padded}
use Rattle.models.specs.Answers.{answered, refused}
use Rattle.stream.specs.Calls.{fault_at}
use Rattle.stream.specs.Format.{Stream, State, fresh}
use Rattle.stream.specs.Write.{kept, Keeps, written}
use Rattle.stream.specs.Read.{StreamRefusal, Reading, done, stopped, read_n, read_all}
use Rattle.places.specs.Table.{Entry, entries_for, entries_in, MadeBeside, Belongs, no_match, same_entry, same_entries, matched, check_table}
use Rattle.stream.specs.Needs.{Good}
use Rattle.stream.proofs.Writing.{fresh-small, length-kept, kept-below}
use Rattle.models.proofs.Tests.{and_parts, and_both}
use Rattle.stream.proofs.Reopen.{ended-inv}
use Rattle.stream.proofs.Made.{made_bits, made-read}
use Rattle.places.proofs.Entries.{own-number, entries-back}

never : ◌≡◌ {A = ℕ} 0 1 → ⊥
never e = omega arith

-- ---- the test is equality

same-entry : (d e : Entry) → same_entry d e ≡ true → d ≡ e
same-entry d e h =
    let a = and_parts (eqb d.place e.place) _ h in
    let b = and_parts (eqb d.last e.last) _ a.1 in
    let c = and_parts (eqb d.win.lead e.win.lead) _ b.1 in
    let p : d.place ≡ e.place = eqb-true d.place e.place a.0 in
    let l : d.last ≡ e.last = eqb-true d.last e.last b.0 in
    let w : d.win.lead ≡ e.win.lead = eqb-true d.win.lead e.win.lead c.0 in
    let t : d.win.trail ≡ e.win.trail = eqb-true d.win.trail e.win.trail c.1 in
    λ i. record { place = p i; last = l i; win = record { lead = w i; trail = t i } }

entry-same : (e : Entry) → same_entry e e ≡ true
entry-same e =
    and_both (eqb e.place e.place) _ (eq-eqb e.place e.place refl)
    (and_both (eqb e.last e.last) _ (eq-eqb e.last e.last refl)
    (and_both (eqb e.win.lead e.win.lead) _ (eq-eqb e.win.lead e.win.lead refl) (eq-eqb e.win.trail e.win.trail refl)))

pub same_entries_lem : (ds es : List Entry) → same_entries ds es ≡ true → ds ≡ es
same_entries_lem [] [] h = refl
same_entries_lem [] (e ∷ es) h = absurd (false≢true h)
same_entries_lem (d ∷ ds) [] h = absurd (false≢true h)
same_entries_lem (d ∷ ds) (e ∷ es) h =
    let a = and_parts (same_entry d e) (same_entries ds es) h in
    ap₂ (λ (x : Entry) (xs : List Entry). x ∷ xs) (same-entry d e a.0) (same_entries_lem ds es a.1)

pub entries-same : (es : List Entry) → same_entries es es ≡ true
entries-same [] = refl
entries-same (e ∷ es) = and_both (same_entry e e) (same_entries es es) (entry-same e) (entries-same es)

-- ---- the check

module _ {A : Type 0} (S : Stream A) (n : ℕ) where
  -- with the number of entries that the count asks for, the reading decides
  pub numbered : (s : State A) (bs : List Bool) (table : List Entry) → length table ≡ entries_for n
      → check_table S n s bs table ≡ matched (same_entries table (entries_in S n s bs)) (read_all S n s bs)
  unfolding check_table
  numbered s bs table e = rw (eq-eqb (length table) (entries_for n) e)

  pub check-number : (s : State A) (bs : List Bool) (table : List Entry) → (length table ≡ entries_for n → ⊥) → check_table S n s bs table ≡ no_match
  unfolding check_table
  check-number s bs table e = rw (ne_eqb (length table) (entries_for n) e)

  pub check-refused : (s : State A) (bs : List Bool) (table : List Entry) (f : StreamRefusal) → length table ≡ entries_for n
      → read_all S n s bs ≡ stopped f → check_table S n s bs table ≡ refused (fault_at f)
  check-refused s bs table f e h = numbered s bs table e ∙ ap (matched (same_entries table (entries_in S n s bs))) h

  -- what it accepts
  pub check-says : (s : State A) (bs : List Bool) (table : List Entry) → check_table S n s bs table ≡ answered tt → Belongs S n s bs table
  unfolding check_table
  check-says s bs table h = go (eqb (length table) (entries_for n)) (read_all S n s bs) refl (same_entries table (entries_in S n s bs)) refl h
    where
      go : (b : Bool) (q : Reading A) → read_all S n s bs ≡ q → (c : Bool) → same_entries table (entries_in S n s bs) ≡ c
          → cond b (matched c q) no_match ≡ answered tt → Belongs S n s bs table
      go true (done vs t r) e true i k = record { values = vs; state = t; rest = r; reads = e; own = same_entries_lem table (entries_in S n s bs) i }
      go true (done vs t r) e false i k = absurd (never (cc))
      go true (stopped f) e c i k = absurd (never (cc))
      go false q e c i k = absurd (never (cc))

  module _ (l : ℕ) (bs : List Bool) (vs : List ℕ) (t : State A) (r : List Bool) (h : read_all S n (fresh S l) bs ≡ done vs t r) where
    -- of an accepted stream it accepts the stream's own table
    pub check-own : (table : List Entry) → table ≡ entries_in S n (fresh S l) bs → check_table S n (fresh S l) bs table ≡ answered tt
    check-own table e =
        let f : State A = fresh S l in
        let own : List Entry = entries_in S n f bs in
        ap (check_table S n f bs) e
        ∙ numbered f bs own (own-number S l n bs vs t r (ended-inv (read_n S n f bs) vs t r h))
        ∙ ap₂ (λ (b : Bool) (q : Reading A). matched b q) (entries-same own) h

    -- and no other
    pub check-other : (table : List Entry) → (table ≡ entries_in S n (fresh S l) bs → ⊥) → check_table S n (fresh S l) bs table ≡ no_match
    unfolding check_table
    check-other table other =
        let f : State A = fresh S l in
        ap (λ (q : Reading A). cond (eqb (length table) (entries_for n)) (matched (same_entries table (entries_in S n f bs)) q) no_match) h
        ∙ go (eqb (length table) (entries_for n)) (same_entries table (entries_in S n f bs)) refl
      where
        go : (b c : Bool) → same_entries table (entries_in S n (fresh S l) bs) ≡ c → cond b (matched c (done vs t r)) no_match ≡ no_match
        go true true e = absurd (other (same_entries_lem table (entries_in S n (fresh S l) bs) e))
        go true false e = refl
        go false c e = refl

-- ---- a table that a writer made

module _ {A : Type 0} (rule : ℕ → ℕ → ℕ) (S : Stream A) (l : ℕ) {xs buf : List ℕ} {s : State A} {table : List Entry} (M : MadeBeside rule S l xs buf s table)
    (good : Good S.format) (K : Keeps S.format.width rule) (hl : l < 2 ^ S.format.width) (bx : Below S.format.width xs) where
  pub made-own : table ≡ entries_in S (length xs) (fresh S l) (bits_of (take (whole_bytes s.place) buf))
  unfolding padded
  made-own =
      let f : State A = fresh S l in
      let hf : f.last < 2 ^ S.format.width = fresh-small S S.format.width l hl in
      let ks : List ℕ = kept rule S f xs in
      let W : List Bool = written rule S f xs in
      M.beside
      ∙ sym (entries-back S good f ks (replicate (padding (length W)) false) hf (kept-below S S.format.width rule K f xs hf bx))
      ∙ ap₂ (λ (m : ℕ) (z : List Bool). entries_in S m f z) (length-kept S rule f xs) (sym (made_bits rule S l M.made good K hl bx))

  pub made-checks : check_table S (length xs) (fresh S l) (bits_of (take (whole_bytes s.place) buf)) table ≡ answered tt
  made-checks =
      check-own S (length xs) l (bits_of (take (whole_bytes s.place) buf)) (kept rule S (fresh S l) xs) s (replicate (padding s.place) false)
      (made-read rule S l M.made good K hl bx) table made-own
