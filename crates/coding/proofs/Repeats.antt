-- The word ahead of a place: as far as it goes like 1010.., it begins with repeats; and they stand at the place. Assumes nothing.
use mathlib.Core.Path.{◌≡◌, refl, sym, ap, ap₂, ◌∙◌, subst}
use mathlib.Core.Bool.{Bool, true, false, false≢true}
use mathlib.Core.List.{List, [], ◌∷◌}
use Prim.Native.Nat.{ℕ, zero, suc, ◌+◌, ◌-◌, ◌*◌, ◌/◌, ◌^◌, ◌≤◌, ◌<◌}
use native.Mathlib.Nat.{div-eq_of_lt, lt_of_lt_of_le, le_trans, le_of_eq, min-le_right}
use native.Mathlib.Omega.{arith}
use lib.Bits.{bit_xor, xor_zero_l, xor_shr, xor_lt}
use lib.Count.{count_leading_zeros, leading_length}
use lib.Dec.{lit<}
use lib.ListN.{length, take, drop, length-take, length-drop}
use lib.Pow.{pow_mono}
use lib.Seq.{take_at, take-take}
use Rattle.bits.specs.Bits.{field, field_at, bits_of}
use Rattle.bits.proofs.Bytes.{length-bits_of}
use Rattle.bits.proofs.Counts.{xor-undo}
use Rattle.bits.proofs.Fields.{length-field, field-split}
use Rattle.coding.specs.Inner.Ahead.{repeated, AtTop, RepeatsAt, IsAhead, IsWord}
use Rattle.coding.proofs.Words.{bits-in-long, moved, ahead-of-more}

-- the first k of more
front-repeated : (k m : ℕ) → take (2 * k) (repeated (k + m)) ≡ repeated k
unfolding repeated
front-repeated zero m = refl
front-repeated (suc k) m =
    let e : 2 * suc k ≡ suc (suc (2 * k)) = omega arith in
    let f : suc k + m ≡ suc (k + m) = omega arith in
    ap₂ (λ (a b : ℕ). take a (repeated b)) e f ∙ ap (λ (z : List Bool). true ∷ false ∷ z) (front-repeated k m)

pattern-is : field 64 0xAAAA_AAAA_AAAA_AAAA ≡ repeated 32
unfolding field repeated
pattern-is = refl

top-bits : (a m v : ℕ) → take a (field (a + m) v) ≡ field a (v / 2 ^ m)
top-bits a m v = ap (take a) (field-split a m v) ∙ take_at (field a (v / 2 ^ m)) (field m v) a (length-field a (v / 2 ^ m))

same-where-xor-is-0 : (a b : ℕ) → bit_xor a b ≡ 0 → a ≡ b
same-where-xor-is-0 a b e = sym (xor-undo a b) ∙ ap (λ (x : ℕ). bit_xor x b) e ∙ xor_zero_l b

pub at_top : (word k : ℕ) → word < 2 ^ 64 → 2 * k ≤ count_leading_zeros 64 (bit_xor word 0xAAAA_AAAA_AAAA_AAAA) → take (2 * k) (field 64 word) ≡ repeated k
at_top word k w h =
    let P : ℕ = 0xAAAA_AAAA_AAAA_AAAA in
    let x : ℕ = bit_xor word P in
    let long = leading_length 64 x (xor_lt 64 word P w (lit< tt)) in
    let m : ℕ = 64 - 2 * k in
    let all : 2 * k + m ≡ 64 = omega (arith, long.1) in
    let small : x < 2 ^ m = lt_of_lt_of_le long.2 (pow_mono (omega (arith, long.1))) in
    let high : word / 2 ^ m ≡ P / 2 ^ m = same-where-xor-is-0 (word / 2 ^ m) (P / 2 ^ m) (sym (xor_shr word P m) ∙ div-eq_of_lt small) in
    let half : 32 ≡ k + (32 - k) = omega (arith, all) in
    ap (λ (n : ℕ). take (2 * k) (field n word)) (sym all) ∙ top-bits (2 * k) m word
    ∙ ap (field (2 * k)) high
    ∙ sym (ap (λ (n : ℕ). take (2 * k) (field n P)) (sym all) ∙ top-bits (2 * k) m P)
    ∙ ap (take (2 * k)) pattern-is
    ∙ ap (λ (n : ℕ). take (2 * k) (repeated n)) half
    ∙ front-repeated k (32 - k)

-- a word that begins with repeats begins with fewer of them too
pub fewer-at-top : (word k j : ℕ) → AtTop word k → j ≤ k → AtTop word j
fewer-at-top word k j t h =
    let e : k ≡ j + (k - j) = omega arith in
    record {
      bits =
          sym (take-take (2 * j) (2 * k) (field 64 word) (omega arith))
          ∙ ap (take (2 * j)) (t.bits ∙ ap repeated e)
          ∙ front-repeated j (k - j);
      most = omega (arith, t.most);
    }

pub none_at_top : (word : ℕ) → AtTop word 0
unfolding repeated
none_at_top word = record { bits = refl; most = omega arith }

-- ---- the word ahead

-- of n bits from the place on, where those are no fewer than 28 repeats take
pub word-ahead : (bytes : List ℕ) (place n : ℕ) → place + n ≤ 8 * length bytes → n ≤ 64 → 56 ≤ n
    → (word : ℕ) → word ≡ field_at place n (bits_of bytes) * 2 ^ (64 - n) → IsWord bytes place word
word-ahead bytes place n h most w word e =
    record {
      kept = λ _. ahead-of-more bytes place n h most word e (omega arith);
      same = λ k t.
          let less : 2 * k ≤ n = omega (arith, t.most) in
          record {
            bits =
                sym (take-take (2 * k) n (drop place (bits_of bytes)) less)
                ∙ ap (take (2 * k)) (sym (moved bytes place n h most))
                ∙ take-take (2 * k) n (field 64 (field_at place n (bits_of bytes) * 2 ^ (64 - n))) less
                ∙ ap (λ (x : ℕ). take (2 * k) (field 64 x)) (sym e)
                ∙ t.bits;
            there = omega arith;
            most = t.most;
          };
    }

-- the repeats that the bits ahead begin with stand at the place
pub repeats-ahead : (bytes : List ℕ) (place word left : ℕ) → left ≤ 45 → place ≤ 8 * length bytes → IsAhead bytes place word left → (k : ℕ) → AtTop word k → 2 * k ≤ left
    → RepeatsAt bytes place k
repeats-ahead bytes place word left few h A k t less =
    let rest : List Bool = drop place (bits_of bytes) in
    let long : left ≤ length rest =
    le_trans (le_of_eq (sym (bits-in-long word left few) ∙ ap length A ∙ length-take 45 rest)) (min-le_right 45 (length rest)) in
    record {
      bits =
          sym (take-take (2 * k) 45 rest (omega (arith, few)))
          ∙ ap (take (2 * k)) (sym A)
          ∙ take-take (2 * k) left (field 64 word) less
          ∙ t.bits;
      there = omega (arith, long, length-drop place (bits_of bytes), length-bits_of bytes);
      most = t.most;
    }

second : List Bool → Bool
second [] = false
second (x ∷ []) = false
second (x ∷ y ∷ l) = y

-- a word that begins with `11` begins with no repeat
no-repeat : (k : ℕ) → take (2 * k) (field 64 0xC000_0000_0000_0000) ≡ repeated k → k ≡ 0
unfolding field repeated second
no-repeat zero e = refl
no-repeat (suc k) e =
    let d : suc (suc (2 * k)) ≡ 2 * suc k = omega arith in
    absurd (false≢true (sym (ap second (ap (λ (n : ℕ). take n (field 64 0xC000_0000_0000_0000)) d ∙ e))))

pub no-word-ahead : (bytes : List ℕ) (place : ℕ) → place ≤ 8 * length bytes → IsWord bytes place 0xC000_0000_0000_0000
unfolding repeated
no-word-ahead bytes place h =
    record {
      kept = λ small. absurd (omega arith);
      same = λ k t. subst (RepeatsAt bytes place) (sym (no-repeat k t.bits)) (record { bits = refl; there = omega arith; most = omega arith });
    }
