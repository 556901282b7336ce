-- One value more beside a place table, for the loops of the code: the entries written and read, how many a write adds, and the test. Assumes nothing.
use mathlib.Core.Path.{◌≡◌, refl, ap, ◌∙◌, subst}
use mathlib.Core.Bool.{Bool, true, false, ◌&&◌}
use mathlib.Core.List.{List, [], ◌∷◌, ◌++◌, append-nil}
use Prim.Native.Nat.{ℕ, ◌+◌}
use native.Mathlib.Omega.{arith}
use lib.ListN.{length, drop}
use Rattle.stream.specs.Format.{Stream, State, advance}
use Rattle.stream.specs.Write.{kept_from, kept, wrote}
use Rattle.stream.specs.Read.{Step, got, halt, done, step_at, read_n}
use Rattle.places.specs.Table.{Entry, noted, entries_for, entries, unless_halted, entries_in, same_entry, same_entries}
use Rattle.stream.proofs.Writing.{length-kept, kept_append}
use Rattle.places.proofs.Entries.{entries-append, entries-count, Entered, EnteredIn, entered}

module _ {A : Type 0} (S : Stream A) where
  -- ---- writing

  pub noted_more : (rule : ℕ → ℕ → ℕ) (s : State A) (xs : List ℕ) (x : ℕ)
      → entries S s (kept rule S s (xs ++ (x ∷ []))) ≡ entries S s (kept rule S s xs) ++ noted S (wrote rule S s xs)
  unfolding entries kept_from
  noted_more rule s xs x =
      let t : State A = wrote rule S s xs in
      ap (entries S s) (kept_append S rule s xs (x ∷ []))
      ∙ entries-append S s (kept rule S s xs) (kept rule S t (x ∷ []))
      ∙ ap (λ (z : List Entry). entries S s (kept rule S s xs) ++ z) (append-nil (noted S t))

  -- how many a write adds
  pub added-count : (rule : ℕ → ℕ → ℕ) (s : State A) (xs : List ℕ)
      → entries_for s.count + length (entries S s (kept rule S s xs)) ≡ entries_for (s.count + length xs)
  added-count rule s xs = entries-count S s (kept rule S s xs) ∙ ap (λ (n : ℕ). entries_for (s.count + n)) (length-kept S rule s xs)

  -- ---- reading

  pub entries-more : (n : ℕ) (s : State A) (bs : List Bool) (vs : List ℕ) (t : State A) (r : List Bool)
      → read_n S n s bs ≡ done vs t r → entries_in S (n + 1) s bs ≡ entries_in S n s bs ++ noted S t
  unfolding entries_in
  entries-more n s bs vs t r h =
      let E : Entered S n s bs t r = subst (EnteredIn S n s bs) h (entered S n s bs) in
      E.onward 1 ∙ ap (λ (z : List Entry). entries_in S n s bs ++ (noted S t ++ z)) (last (step_at S t r))
      ∙ ap (λ (z : List Entry). entries_in S n s bs ++ z) (append-nil (noted S t))
    where
      last : (q : Step) → unless_halted q (λ v win used. entries_in S 0 (advance S t v win used) (drop used r)) ≡ []
      last (got v win u) = refl
      last (halt m) = refl

-- ---- the test, one entry more

pub same_more : (ds es : List Entry) (d e : Entry) → length ds ≡ length es
    → same_entries (ds ++ (d ∷ [])) (es ++ (e ∷ [])) ≡ (same_entries ds es && same_entry d e)
same_more [] [] d e h = alone (same_entry d e)
  where
    alone : (b : Bool) → (b && true) ≡ b
    alone true = refl
    alone false = refl
same_more [] (y ∷ es) d e h = absurd (omega arith)
same_more (x ∷ ds) [] d e h = absurd (omega arith)
same_more (x ∷ ds) (y ∷ es) d e h =
    let k : length ds ≡ length es = omega arith in
    ap (λ (b : Bool). same_entry x y && b) (same_more ds es d e k) ∙ grouped (same_entry x y) (same_entries ds es) (same_entry d e)
  where
    grouped : (a b c : Bool) → (a && (b && c)) ≡ ((a && b) && c)
    grouped true b c = refl
    grouped false b c = refl
