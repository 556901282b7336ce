-- What is kept, step by step, and that it is of 32 bits. Assumes nothing.
use mathlib.Core.Path.{◌≡◌, sym, ap, ◌∙◌}
use mathlib.Core.Bool.{Bool, true, false, cond}
use Prim.Native.Nat.{ℕ, zero, suc, ◌-◌, ◌^◌, ◌≤◌, ◌<◌}
use native.Mathlib.Nat.{div-mul-le_self, lt_of_le_of_lt}
use native.Mathlib.Omega.{arith}
use Rattle.stream.specs.Write.{Keeps}
use Rattle.models.specs.declared.ErrorBound.{ErrorBound}
use Rattle.coding.specs.Keep.{may_replace, cleared, shortened, most_cleared, is_lossless, keep_rule}

module _ (b : ErrorBound) (x : ℕ) where
  -- ---- one test more

  pub shortened-yes : (s : ℕ) → 0 < s → may_replace b x (cleared s x) ≡ true → shortened b s x ≡ cleared s x
  unfolding shortened
  shortened-yes zero p e = absurd (omega arith)
  shortened-yes (suc s) p e = ap (λ (t : Bool). cond t (cleared (suc s) x) (shortened b s x)) e

  pub shortened-no : (s : ℕ) → 0 < s → may_replace b x (cleared s x) ≡ false → shortened b s x ≡ shortened b (s - 1) x
  unfolding shortened
  shortened-no zero p e = absurd (omega arith)
  shortened-no (suc s) p e =
      let z : suc s - 1 ≡ s = omega arith in
      ap (λ (t : Bool). cond t (cleared (suc s) x) (shortened b s x)) e ∙ ap (λ (n : ℕ). shortened b n x) (sym z)

  -- ---- of 32 bits

  shortened-le : (s : ℕ) → shortened b s x ≤ x
  unfolding shortened
  shortened-le zero = omega arith
  shortened-le (suc s) = go (may_replace b x (cleared (suc s) x)) (shortened-le s)
    where
      go : (t : Bool) → shortened b s x ≤ x → cond t (cleared (suc s) x) (shortened b s x) ≤ x
      go true h = div-mul-le_self x (2 ^ suc s)
      go false h = h

-- what is kept of values of any width is of that width: for each bound, the lossy ones too
pub keeps : (b : ErrorBound) (w : ℕ) → Keeps w (keep_rule b)
unfolding keep_rule
keeps b w l x hl hx = go (is_lossless b) (may_replace b x l)
  where
    go : (s t : Bool) → cond s x (cond t l (shortened b most_cleared x)) < 2 ^ w
    go true t = hx
    go false true = hl
    go false false = lt_of_le_of_lt (shortened-le b x most_cleared) hx
