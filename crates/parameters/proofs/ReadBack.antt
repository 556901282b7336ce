-- Parameters read back bit for bit, each NaN as 7FC00000, against the finished minimum and maximum; and which form is written. Assumes nothing.
use mathlib.Core.Path.{◌≡◌, refl, ap, ◌∙◌}
use mathlib.Core.Bool.{true, false≢true}
use mathlib.Core.List.{List}
use Prim.Native.Nat.{ℕ, ◌<◌, ◌≤◌, ◌^◌}
use borrow.Author.Tests.{eqb-true, eq-eqb, le-ltb}
use lib.Dec.{eqb}
use lib.Ieee.{binary32, of_bits, to_bits}
use lib.Ieee.Bits.{of_bits-to_bits, to_bits-lt, of_bits-fits}
use lib.ListN.{length, take, drop}
use lib.Seq.{take_at}
use Rattle.models.specs.Answers.{Said, answered, refused, judge}
use Rattle.models.specs.Floats.{min_bits, max_bits, plain_bits}
use Rattle.models.proofs.Tests.{and_left, and_right, by-test}
use Rattle.parameters.specs.Forms.{Ends, form_bytes, gives, gives_ends, rusts_for_pmc_mean, rusts_for_swing, pmc_mean_form, swing_form, swing_from, pmc_mean_from}
use Rattle.parameters.specs.declared.Form.{Form}
use Rattle.parameters.specs.Calls.{bytes_after}
use Rattle.parameters.proofs.Read.{value_read, both_read}

-- ---- a pattern as it is answered

pub plain-twice : (bits : ℕ) → plain_bits (plain_bits bits) ≡ plain_bits bits
unfolding plain_bits
plain-twice bits = ap (to_bits binary32) (of_bits-to_bits binary32 (of_bits binary32 bits) (of_bits-fits binary32 bits))

pub plain-small : (bits : ℕ) → plain_bits bits < 256 ^ 4
unfolding plain_bits
plain-small bits = to_bits-lt binary32 (of_bits binary32 bits) (of_bits-fits binary32 bits)

-- ---- what the test on the Rust's form tells

given : (value : ℕ) (s : Said ℕ) → gives value s ≡ true → s ≡ answered value
given value (answered read) h = ap answered (eqb-true read value h)
given value (refused n) h = absurd (false≢true h)

gives-it : (value : ℕ) (s : Said ℕ) → s ≡ answered value → gives value s ≡ true
gives-it value s h = rw h (eq-eqb value value refl)

given-ends : (a b : ℕ) (s : Said Ends) → gives_ends a b s ≡ true → s ≡ answered (a, b)
given-ends a b (answered read) h =
    let first : read.0 ≡ a = eqb-true _ _ (and_left _ _ h) in
    let last : read.1 ≡ b = eqb-true _ _ (and_right (eqb read.0 a) _ h) in
    rw (← first, ← last)
given-ends a b (refused n) h = absurd (false≢true h)

gives-them : (a b : ℕ) (s : Said Ends) → s ≡ answered (a, b) → gives_ends a b s ≡ true
gives-them a b s h = rw (h, eq-eqb a a refl, eq-eqb b b refl)

-- ---- PMC-Mean

module _ (value low high : ℕ) where
  abbrev pmc_mean_read : List ℕ → Said ℕ
  pmc_mean_read = pmc_mean_from (min_bits (plain_bits value) low) (max_bits (plain_bits value) high)

  -- "parameters read back bit for bit"
  pub pmc-mean-reads-back : pmc_mean_read (form_bytes (pmc_mean_form value low high)) ≡ answered (plain_bits value)
  unfolding pmc_mean_form
  pmc-mean-reads-back =
      by-test (λ (f : Form). pmc_mean_read (form_bytes f) ≡ answered (plain_bits value)) (gives (plain_bits value) (pmc_mean_read (form_bytes (rusts_for_pmc_mean (plain_bits value) low high)))) _ _
      (λ e. given (plain_bits value) _ e)
      (λ e. value_read _ _ (plain_bits value) (plain-small value) ∙ ap answered (plain-twice value))

  -- the Rust's form is written exactly where it reads back so
  pub pmc-mean-as-the-rust : pmc_mean_read (form_bytes (rusts_for_pmc_mean (plain_bits value) low high)) ≡ answered (plain_bits value)
      → pmc_mean_form value low high ≡ rusts_for_pmc_mean (plain_bits value) low high
  unfolding pmc_mean_form
  pmc-mean-as-the-rust h = rw (gives-it (plain_bits value) _ h)

-- ---- Swing

module _ (first last low high : ℕ) where
  abbrev swing_read : List ℕ → Said Ends
  swing_read =
      swing_from (min_bits (min_bits (plain_bits first) (plain_bits last)) low) (max_bits (max_bits (plain_bits first) (plain_bits last)) high)

  pub swing-reads-back : swing_read (form_bytes (swing_form first last low high)) ≡ answered (plain_bits first, plain_bits last)
  unfolding swing_form
  swing-reads-back =
      by-test (λ (f : Form). swing_read (form_bytes f) ≡ answered (plain_bits first, plain_bits last)) (gives_ends (plain_bits first) (plain_bits last) (swing_read (form_bytes (rusts_for_swing (plain_bits first) (plain_bits last) low high)))) _ _
      (λ e. given-ends (plain_bits first) (plain_bits last) _ e)
      (λ e. both_read _ _ (plain_bits first) (plain_bits last) (plain-small first) (plain-small last) ∙ rw (plain-twice first, plain-twice last))

  pub swing-as-the-rust : swing_read (form_bytes (rusts_for_swing (plain_bits first) (plain_bits last) low high)) ≡ answered (plain_bits first, plain_bits last)
      → swing_form first last low high ≡ rusts_for_swing (plain_bits first) (plain_bits last) low high
  unfolding swing_form
  swing-as-the-rust h = rw (gives-them (plain_bits first) (plain_bits last) _ h)

-- ---- the bytes that a call leaves: the written ones stand at the front
pub written-first : (bytes out : List ℕ) → length bytes ≤ length out → take (length bytes) (bytes_after bytes out) ≡ bytes
unfolding bytes_after judge
written-first bytes out h = rw (le-ltb (length out) (length bytes) h) (take_at bytes (drop (length bytes) out) (length bytes) refl)
