-- What was put into a word is read back from it; and whatever the words, what is read is of its format. Assumes nothing.
use mathlib.Core.Path.{◌≡◌, refl, sym, ap, ◌∙◌}
use mathlib.Core.Bool.{Bool, true, false, ◌&&◌}
use mathlib.Core.List.{List, ◌∷◌}
use Prim.Native.Nat.{ℕ, suc, ◌-◌, ◌%◌, ◌^◌}
use native.Mathlib.Nat.{mod-eq_of_lt}
use native.Mathlib.Omega.{arith}
use borrow.Author.Tests.{lt-ltb, le-ltb, ltb-true, ltb-false}
use lib.Dec.{T, eqb, leb, ltb}
use lib.IntN.{ℤ, pos, negsuc}
use lib.ListN.{length, get_or}
use lib.Ieee.{Float, binary32, fits, of_bits, to_bits}
use lib.Ieee.Bits.{of_bits-to_bits, to_bits-lt, of_bits-fits}
use lib.Ieee.Fits.{nan-fits}
use mir.Syntax.{w64}
use mir.Val.{SFits, of_z}
use mir.ValLaws.{to_z-of_z}
use Rattle.models.specs.Bound.{BoundHeld}
use Rattle.models.specs.declared.ErrorBound.{ErrorBound}
use Rattle.models.specs.declared.ErrorBound.TheVariants.{Lossless, Absolute, Relative}
use Rattle.models.proofs.Tests.{by-test}
use Rattle.exports.specs.Face.{bound_of, word_of}
use Rattle.exports.specs.Words.{bound_kind, bound_bits, small, bound_in, bound_front, time_in, word_of_time}
use Rattle.exports.proofs.Signed.{read-signed}

-- ---- a 32-bit value
pub is-small : (x : Float) → T (fits binary32 x) → small (to_bits binary32 x) ≡ true
is-small x ok = lt-ltb (to_bits binary32 x) (2 ^ 32) (to_bits-lt binary32 x ok)

pub value-back : (x : Float) → T (fits binary32 x) → of_bits binary32 (to_bits binary32 x % 2 ^ 32) ≡ x
value-back x ok = ap (of_bits binary32) (mod-eq_of_lt (to_bits-lt binary32 x ok)) ∙ of_bits-to_bits binary32 x ok

-- ---- a bound
pub bound-back : (b : ErrorBound) → BoundHeld b → bound_in (bound_kind b) (bound_bits b) ≡ b
unfolding bound_in bound_of
bound-back Lossless ok = refl
bound-back (Absolute e) ok = rw (is-small e ok) (ap Absolute (of_bits-to_bits binary32 e ok))
bound-back (Relative e) ok = rw (is-small e ok) (ap Relative (of_bits-to_bits binary32 e ok))

pub bound-of-held : (kind bits : ℕ) → BoundHeld (bound_of kind bits)
unfolding bound_of
bound-of-held kind bits =
    let value = of_bits-fits binary32 bits in
    by-test BoundHeld (eqb kind 0) _ _ (λ h. tt) (λ h.
    by-test BoundHeld (eqb kind 1) _ _ (λ h. value) (λ h.
    by-test BoundHeld (eqb kind 2) _ _ (λ h. value) (λ h. nan-fits binary32)))

pub bound-in-held : (kind bits : ℕ) → BoundHeld (bound_in kind bits)
unfolding bound_in
bound-in-held kind bits = by-test BoundHeld (small kind && small bits) _ _ (λ h. bound-of-held kind bits) (λ h. nan-fits binary32)

pub bound-front : (kind bits : ℕ) (rest : List ℕ) → bound_front (kind ∷ bits ∷ rest) ≡ bound_in kind bits
unfolding bound_front
bound-front kind bits rest = rw (le-ltb (length (kind ∷ bits ∷ rest)) 2 (omega arith))

pub bound-front-held : (row : List ℕ) → BoundHeld (bound_front row)
unfolding bound_front
bound-front-held row = by-test BoundHeld (ltb (length row) 2) _ _ (λ h. tt) (λ h. bound-in-held (get_or row 0 0) (get_or row 1 0))

-- ---- a timestamp
same_word : (t : ℤ) → word_of_time t ≡ of_z w64 t
unfolding word_of_time
same_word (pos n) = refl
same_word (negsuc n) = refl

pub time-back : (t : ℤ) → SFits w64 t → time_in (word_of_time t) ≡ t
time-back t ok = ap time_in (same_word t) ∙ sym (read-signed (of_z w64 t)) ∙ to_z-of_z w64 t ok

pub time-in-fits : (w : ℕ) → SFits w64 (time_in w)
unfolding time_in
time-in-fits w =
    by-test (SFits w64) (ltb w (2 ^ 63)) (pos w) (negsuc (2 ^ 64 - suc w))
    (λ h. record { sfits = ltb-true w (2 ^ 63) h })
    (λ h. record { sfits = omega (arith, ltb-false w (2 ^ 63) h) })

-- ---- a flag
pub flag_small : (f : Bool) → leb (word_of f) 1 ≡ true
flag_small true = refl
flag_small false = refl

pub flag-back : (f : Bool) → eqb (word_of f) 1 ≡ f
flag-back true = refl
flag-back false = refl
