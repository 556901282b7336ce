-- A writer that writes, stops and resumes have made has words of 32 bits and a sum that is an f32, as a program holds them. Assumes nothing.
use mathlib.Core.Path.{◌≡◌, sym, subst}
use mathlib.Core.Bool.{Bool, true, false, cond}
use mathlib.Core.List.{List, [], ◌∷◌, foldl}
use mathlib.Core.Logic.{◌⊎◌, inl, inr}
use Prim.Native.Nat.{ℕ, suc, ◌^◌, ◌<◌}
use native.Mathlib.Omega.{arith}
use lib.Ieee as Ieee
use lib.Dec.{T}
use lib.Ieee.{Float, binary32, of_bits, fits}
use lib.Ieee.Bits.{of_bits-fits}
use lib.Ieee.Fits.{add-fits}
use Rattle.bits.specs.Bits.{Below}
use Rattle.models.specs.Floats.{better, min_bits, max_bits}
use Rattle.models.specs.declared.ErrorBound.{ErrorBound}
use Rattle.stream.specs.Format.{Window, Mode, gathered, raw_next, gather_from, Stream, State, macaque, opening}
use Rattle.stream.specs.Write.{after, next}
use Rattle.stream.proofs.Formats.{macaque-good, Framed}
use Rattle.stream.proofs.Writing.{fresh-small, kept-below}
use Rattle.stream.proofs.Rule.{fresh-ruled, after-ruled}
use Rattle.coding.specs.Keep.{keep_rule}
use Rattle.coding.proofs.Keeping.{keeps}
use Rattle.macaque_v.specs.State.{MinMax, min_max_with, gather_min_max, gather_sum, mode_of, stream_in, writer_of, is_first, opening_value, opened}
use Rattle.macaque_v.specs.Made.{state_over, kept_of, WordsSmall}
use Rattle.macaque_v.specs.declared.Opening.{Opening}
use Rattle.macaque_v.proofs.Promises.{ends-of-the-kept, sum-of-the-kept}

-- of two patterns one wins
better-small : (beats : Float → Float → Bool) (a b : ℕ) → a < 2 ^ 32 → b < 2 ^ 32 → better beats (of_bits binary32) a b < 2 ^ 32
better-small beats a b ha hb = by_tests (Ieee.is_nan (of_bits binary32 a)) (beats (of_bits binary32 b) (of_bits binary32 a))
  where
    by_tests : (s t : Bool) → cond s b (cond t b a) < 2 ^ 32
    by_tests true t = hb
    by_tests false true = hb
    by_tests false false = ha

pub ends-small : (e : MinMax) (vs : List ℕ) → e.min < 2 ^ 32 → e.max < 2 ^ 32 → Below 32 vs
    → ((foldl min_max_with e vs).min < 2 ^ 32) × ((foldl min_max_with e vs).max < 2 ^ 32)
unfolding min_bits max_bits
ends-small e [] a b h = (a, b)
ends-small e (v ∷ vs) a b h = ends-small (min_max_with e v) vs (better-small Ieee.lt e.min v a (h 0)) (better-small (λ (x y : Float). Ieee.lt y x) e.max v b (h 0)) (λ i. h (suc i))

-- a sum is an f32, whatever is added
pub sum_fits : (mode : Mode) (n : ℕ) (s : Float) (vs : List ℕ) → T (fits binary32 s) → T (fits binary32 (gather_from gather_sum mode n s vs))
unfolding gather_from
sum_fits mode n s [] h = h
sum_fits mode n s (v ∷ vs) h = sum_fits mode (suc n) (gathered gather_sum (raw_next mode n) s v) vs (one (raw_next mode n))
  where
    one : (raw : Bool) → T (fits binary32 (gathered gather_sum raw s v))
    one true = of_bits-fits binary32 v
    one false = add-fits binary32 s (of_bits binary32 v)

pub last-small : {A : Type 0} (S : Stream A) (s : State A) (vs : List ℕ) → s.last < 2 ^ 32 → Below 32 vs → (after S s vs).last < 2 ^ 32
unfolding after
last-small S s [] h b = h
last-small S s (v ∷ vs) h b = last-small S (next S s v) vs (b 0) (λ i. b (suc i))

pub window-small : {N : Type 0} (w : Window) → (w ≡ opening) ⊎ (N × Framed macaque w) → (w.lead < 2 ^ 32) × (w.trail < 2 ^ 32)
window-small w (inl e) = (subst (λ (z : Window). z.lead < 2 ^ 32) (sym e) (omega arith), subst (λ (z : Window). z.trail < 2 ^ 32) (sym e) (omega arith))
window-small w (inr f) = (omega (arith, f.1.some), omega (arith, f.1.some))

module _ (b : ErrorBound) (o : Opening) (xs : List ℕ) (hl : opening_value o < 2 ^ 32) (bx : Below 32 xs) where
  kept_small : Below 32 (kept_of b o xs)
  kept_small = kept-below (stream_in (is_first o)) 32 (keep_rule b) (keeps b 32) (opened o) xs (fresh-small (stream_in (is_first o)) 32 (opening_value o) hl) bx

  pub made_held : WordsSmall (writer_of b (is_first o) (state_over b o xs))
  unfolding fits
  made_held =
      let S = stream_in (is_first o) in
      let f = fresh-small S 32 (opening_value o) hl in
      let e = ends-small gather_min_max.none (kept_of b o xs) (omega arith) (omega arith) kept_small in
      let seen = ends-of-the-kept b o xs in
      let w = window-small (state_over b o xs).win (after-ruled S macaque-good (opened o) (kept_of b o xs) f kept_small (fresh-ruled S (opening_value o))).window in
      record {
        least = subst (λ (z : MinMax). z.min < 2 ^ 32) (sym seen) e.0;
        greatest = subst (λ (z : MinMax). z.max < 2 ^ 32) (sym seen) e.1;
        last = last-small S (opened o) (kept_of b o xs) f kept_small;
        leading = w.0;
        trailing = w.1;
        total = subst (λ (x : Float). T (fits binary32 x)) (sym (sum-of-the-kept b o xs)) (sum_fits (mode_of (is_first o)) 0 gather_sum.none (kept_of b o xs) tt);
      }
