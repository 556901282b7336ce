-- A loop that copies a list to the front of another: what stands after a turn, and at the end. Assumes nothing.
use mathlib.Core.Path.{◌≡◌, refl, sym, ap, ap₂, ◌∙◌}
use mathlib.Core.List.{List, [], ◌∷◌, ◌++◌}
use mathlib.Core.Bool.{Bool, cond}
use Prim.Native.Nat.{ℕ, ◌+◌, ◌<◌, ◌≤◌}
use native.Mathlib.Omega.{arith}
use borrow.Author.Tests.{le-leb}
use lib.ListN.{length, take, drop, set, get_or}
use Rattle.std.proofs.lemmas.List.{take_more_set, take_more, drop-set-lt, take-append-drop, drop-drop, take_all}
use Rattle.exports.specs.Inner.Put.{front_after}

-- one more at the front
pub taken-more : {T : Type 0} (row ws : List T) (i : ℕ) (x : T) → i < length row → i < length ws → x ≡ get_or ws i x → take i row ≡ take i ws → take (i + 1) (set row i x) ≡ take (i + 1) ws
taken-more row ws i x r w is same =
    take_more_set row i x r ∙ ap (λ l. l ++ x ∷ []) same ∙ ap (λ y. take i ws ++ y ∷ []) is ∙ sym (take_more ws i x w)

-- and one fewer behind
pub left-less : {T : Type 0} (row before : List T) (i : ℕ) (x : T) → drop i row ≡ drop i before → drop (i + 1) (set row i x) ≡ drop (i + 1) before
left-less row before i x same =
    drop-set-lt (i + 1) row i x (omega arith) ∙ sym (drop-drop 1 i row) ∙ ap (drop 1) same ∙ drop-drop 1 i before

-- all of them
pub all-there : {T : Type 0} (row ws before : List T) (i : ℕ) → i ≡ length ws → length ws ≤ length before → take i row ≡ take i ws → drop i row ≡ drop i before → row ≡ front_after ws before
unfolding front_after
all-there row ws before i all fits front behind =
    sym (take-append-drop i row)
    ∙ ap₂ (λ x y. x ++ y) (front ∙ take_all i ws (omega (arith, all))) (behind ∙ ap (λ n. drop n before) all)
    ∙ ap (λ (b : Bool). cond b (ws ++ drop (length ws) before) before) (sym (le-leb (length ws) (length before) fits))
