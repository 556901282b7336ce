-- The bits ahead of a place in one word: its fields, that it holds the stream's bits, and that a value is read of its first 45 bits. Assumes nothing.
use mathlib.Core.Path.{◌≡◌, sym, ap, ◌∙◌}
use mathlib.Core.Bool.{Bool}
use mathlib.Core.List.{List, ◌++◌}
use Prim.Native.Nat.{ℕ, ◌+◌, ◌-◌, ◌*◌, ◌/◌, ◌%◌, ◌^◌, ◌≤◌}
use native.Mathlib.Omega.{arith}
use lib.ListN.{length, take, drop, length-drop}
use lib.Pow.{shl_exact, shl-shr}
use lib.Seq.{take_at, take_all, take-take, length-take-le}
use Rattle.bits.specs.Bits.{field, field_at, bits_of}
use Rattle.bits.proofs.Bytes.{length-bits_of}
use Rattle.bits.proofs.Fields.{length-field, field-split, field-value, field_at-lt, field_at-field}
use Rattle.bits.proofs.Words.{shl-shr-word}
use Rattle.stream.specs.Format.{macaque, Window}
use Rattle.stream.specs.Read.{read_one}
use Rattle.stream.proofs.Formats.{macaque-good}
use Rattle.stream.proofs.FirstBits.{field-in-front, read-of-first}
use Rattle.coding.specs.Inner.Ahead.{bits_in, IsAhead}

-- ---- fields

-- the `width` bits of a word behind its first `skip`, with m behind them
pub part-over : (word skip width m : ℕ) → skip + (width + m) ≡ 64 → word / 2 ^ m % 2 ^ width ≡ field_at skip width (field 64 word)
part-over word skip width m e =
    let F : List Bool = field skip (word / 2 ^ (width + m)) in
    sym (ap (λ (n : ℕ). field_at skip width (field n word)) (sym e)
    ∙ ap (field_at skip width) (field-split skip (width + m) word ∙ ap (λ (z : List Bool). F ++ z) (field-split width m word))
    ∙ field_at-field skip width (word / 2 ^ m) F (field m word) (length-field skip (word / 2 ^ (width + m))))

-- `(word << skip) >> (64 - width)`
pub part-is : (word skip width : ℕ) → skip + width ≤ 64 → (word * 2 ^ skip) % 2 ^ 64 / 2 ^ (64 - width) ≡ field_at skip width (field 64 word)
part-is word skip width h =
    let m : ℕ = 64 - (skip + width) in
    let e : skip + (width + m) ≡ 64 = omega arith in
    shl-shr-word word skip width m e ∙ part-over word skip width m e

module _ (word left : ℕ) (h : left ≤ 45) where
  pub bits-in-long : length (bits_in word left) ≡ left
  bits-in-long = length-take-le left (field 64 word) (omega (arith, length-field 64 word))

  -- a part of the word is a field of the bits in it
  pub part_in : (r skip width : ℕ) → r ≡ field_at skip width (field 64 word) → skip + width ≤ left → field_at skip width (bits_in word left) ≡ r
  part_in r skip width e f = field-in-front left (field 64 word) skip width f ∙ sym e

-- ---- the bits ahead

module _ (bytes : List ℕ) (place n : ℕ) (h : place + n ≤ 8 * length bytes) (most : n ≤ 64) where
  rest-long : length (drop place (bits_of bytes)) ≡ 8 * length bytes - place
  rest-long = length-drop place (bits_of bytes) ∙ ap (λ (k : ℕ). k - place) (length-bits_of bytes)

  -- n bits from the place on, moved to the top of a word
  pub moved : take n (field 64 (field_at place n (bits_of bytes) * 2 ^ (64 - n))) ≡ take n (drop place (bits_of bytes))
  moved =
      let v : ℕ = field_at place n (bits_of bytes) in
      let m : ℕ = 64 - n in
      let e : n + m ≡ 64 = omega arith in
      let long : length (take n (drop place (bits_of bytes))) ≡ n = length-take-le n (drop place (bits_of bytes)) (omega (arith, rest-long)) in
      ap (λ (k : ℕ). take n (field k (v * 2 ^ m))) (sym e)
      ∙ ap (take n) (field-split n m (v * 2 ^ m))
      ∙ take_at (field n (v * 2 ^ m / 2 ^ m)) (field m (v * 2 ^ m)) n (length-field n (v * 2 ^ m / 2 ^ m))
      ∙ ap (field n) (shl-shr v m)
      ∙ ap (λ (k : ℕ). field k v) (sym long)
      ∙ field-value (take n (drop place (bits_of bytes)))

  -- of 45 bits or more, the first 45
  pub ahead-of-more : (word : ℕ) → word ≡ field_at place n (bits_of bytes) * 2 ^ (64 - n) → 45 ≤ n → IsAhead bytes place word 45
  ahead-of-more word e w =
      ap (λ (x : ℕ). take 45 (field 64 x)) e
      ∙ sym (take-take 45 n (field 64 (field_at place n (bits_of bytes) * 2 ^ (64 - n))) w)
      ∙ ap (take 45) moved ∙ take-take 45 n (drop place (bits_of bytes)) w

  -- fewer than 45: all that there are
  pub ahead-of-all : (word : ℕ) → word ≡ field_at place n (bits_of bytes) * 2 ^ (64 - n) → n ≤ 45 → place + n ≡ 8 * length bytes
      → IsAhead bytes place word n
  ahead-of-all word e w f =
      let rest : List Bool = drop place (bits_of bytes) in
      ap (λ (x : ℕ). take n (field 64 x)) e ∙ moved
      ∙ take_all n rest (omega (arith, rest-long)) ∙ sym (take_all 45 rest (omega (arith, rest-long)))

  -- `v << (64 - n)`
  pub moved_up : (v : ℕ) → v ≡ field_at place n (bits_of bytes) → (v * 2 ^ (64 - n)) % 2 ^ 64 ≡ field_at place n (bits_of bytes) * 2 ^ (64 - n)
  moved_up v e =
      ap (λ (x : ℕ). (x * 2 ^ (64 - n)) % 2 ^ 64) e ∙ shl_exact n (64 - n) 64 (field_at-lt place n (bits_of bytes)) (omega arith)

-- ---- a value is read of its first 45 bits

pub read-of-45 : (raw : Bool) (win : Window) (l : ℕ) (b : List Bool) → read_one macaque raw win l (take 45 b) ≡ read_one macaque raw win l b
read-of-45 raw win l b = read-of-first macaque macaque-good win l b raw
