-- A lent output whose places from the n-th on were lent to the residuals, and whose first n then took the model's values. Assumes nothing.
use mathlib.Core.Path.{◌≡◌, refl, sym, ap, ap₂, ◌∙◌}
use mathlib.Core.List.{List, [], ◌++◌, append_assoc, append-nil}
use Prim.Native.Nat.{ℕ, ◌+◌, ◌-◌, ◌≤◌}
use native.Mathlib.Omega.{arith}
use lib.ListN.{length, take, drop, length-append, length-drop, drop_of_length-le}
use lib.Seq.{take_all, drop_at, drop-drop, length-take-le}
use borrow.Rule.Slice.PartMut.{mid_of, put_mid, put_same}
use Rattle.models.specs.Answers.{Said, answered, refused}
use Rattle.models.specs.declared.Fault.{Fault}
use Rattle.models.proofs.Judged.{not-answered, not-refused}
use Rattle.macaque_v.specs.Read.{drawn, drawn_in}
use Rattle.segment_grid.specs.Calls.{behind}

module _ (n : ℕ) (out : List ℕ) (le : n ≤ length out) where
  abbrev k : ℕ
  k = length out - n

  abbrev lent : List ℕ
  lent = mid_of n k out

  pub still-long : (part : List ℕ) → n ≤ length (put_mid n k out part)
  still-long part = omega (arith, length-append (take n out) (part ++ drop k (drop n out)), length-take-le n out le)

  placed : (ms vs : List ℕ) → length ms ≡ n → ms ++ drop n (put_mid n k out (vs ++ drop (length vs) lent)) ≡ (ms ++ vs) ++ drop (length (ms ++ vs)) out
  placed ms vs long =
      let rest : List ℕ = drop n out in
      let all : take k rest ≡ rest = take_all k rest (omega (arith, length-drop n out)) in
      let none : drop k rest ≡ [] = drop_of_length-le rest {i = k} (omega (arith, length-drop n out)) in
      let front : drop n (put_mid n k out (vs ++ drop (length vs) lent)) ≡ (vs ++ drop (length vs) lent) ++ drop k rest =
      drop_at (take n out) ((vs ++ drop (length vs) lent) ++ drop k rest) n (length-take-le n out le) in
      let behind-all : (vs ++ drop (length vs) lent) ++ drop k rest ≡ vs ++ drop (length vs) rest =
      ap₂ (λ (a b : List ℕ). (vs ++ drop (length vs) a) ++ b) all none ∙ append-nil (vs ++ drop (length vs) rest) in
      let many : n + length vs ≡ length (ms ++ vs) = omega (arith, length-append ms vs) in
      ap (λ (a : List ℕ). ms ++ a) (front ∙ behind-all)
      ∙ sym (append_assoc ms vs (drop (length vs) rest))
      ∙ ap (λ (a : List ℕ). (ms ++ vs) ++ a) (drop-drop (length vs) n out ∙ ap (λ (j : ℕ). drop j out) many)

  -- the residuals were read
  pub when-drawn : (q : Said (List ℕ)) → answered tt ≡ drawn q → (ms part : List ℕ) → length ms ≡ n → part ≡ drawn_in lent q
      → (answered tt ≡ drawn (behind ms q)) × (ms ++ drop n (put_mid n k out part) ≡ drawn_in out (behind ms q))
  when-drawn (answered vs) h ms part long e = (refl, ap (λ (p : List ℕ). ms ++ drop n (put_mid n k out p)) e ∙ placed ms vs long)
  when-drawn (refused m) h ms part long e = absurd (not-refused h)

  -- they were refused: the output is as it was
  pub when-stopped : (q : Said (List ℕ)) (f : Fault) → refused f ≡ drawn q → (ms part : List ℕ) → part ≡ drawn_in lent q
      → (refused f ≡ drawn (behind ms q)) × (put_mid n k out part ≡ drawn_in out (behind ms q))
  when-stopped (answered vs) f h ms part e = absurd (not-answered h)
  when-stopped (refused j) f h ms part e = (h, ap (put_mid n k out) e ∙ put_same n k out)
