-- The laws of fields: what was put into a field is its value, how fields join and split, and fields at a place of bits. Each once for every width.
-- Assumes nothing.
use Prim.Native.Nat.{ℕ, zero, suc, ◌+◌, ◌*◌, ◌/◌, ◌%◌, ◌^◌, ◌≤◌, ◌<◌}
use mathlib.Core.Path.{◌≡◌, refl, sym, ap, ap₂, ◌∙◌}
use mathlib.Core.Bool.{Bool, true, false, false≢true}
use mathlib.Core.List.{List, [], ◌∷◌, ◌++◌}
use native.Mathlib.Nat.{mod-one, mod-lt, zero-add, suc-add, add-suc, add_comm, add_assoc, add-zero, add-mul, mul_assoc, zero-div, zero-mul, zero-lt-suc, lt_of_lt_of_le, pow-succ', mul-add-mod_self_right}
use native.Mathlib.Numerals.{one-add, add-one}
use native.Mathlib.Omega.{arith}
use lib.ListN.{length, take, drop, replicate, length-append, length-drop, length-take}
use lib.Seq.{take_at, drop_at, take-add, drop-drop, take-append-le, drop-append-le, length-take-le}
use lib.Arith.{digits_lt}
use lib.Pow as Pow
use lib.Pow.{pow_pos, pow-add, pow_mono, mod-pow-add, mod-mod-pow, shr-shr, shl_lt, high, low}
use Rattle.bits.specs.Bits.{bit, digit, field, value, field_at, starts}

-- ---- one digit

pub digit-bit : (d : ℕ) → d < 2 → digit (bit d) ≡ d
digit-bit zero h = refl
digit-bit (suc zero) h = refl
digit-bit (suc (suc d)) h = absurd (omega arith)

bit-digit : (b : Bool) → bit (digit b % 2) ≡ b
bit-digit true = refl
bit-digit false = refl

digit_lt : (b : Bool) → digit b < 2
digit_lt true = omega arith
digit_lt false = omega arith

-- ---- a field

pub length-field : (w v : ℕ) → length (field w v) ≡ w
unfolding field
length-field zero v = refl
length-field (suc w) v = ap suc (length-field w v)

pub value-field : (w v : ℕ) → value (field w v) ≡ v % 2 ^ w
unfolding field value
value-field zero v = sym (mod-one v)
value-field (suc w) v =
    rw (length-field w v, value-field w v, digit-bit (v / 2 ^ w % 2) (mod-lt (v / 2 ^ w) (zero-lt-suc 1)))
    (sym (mod-pow-add v 1 w) ∙ ap (λ (x : ℕ). v % 2 ^ x) (one-add w))

-- the a high digits, and the b low ones
pub field-split : (a b v : ℕ) → field (a + b) v ≡ field a (v / 2 ^ b) ++ field b v
unfolding field
field-split zero b v = rw zero-add
field-split (suc a) b v = rw (suc-add a b, field-split a b v, shr-shr v b a, add_comm b a)

field-mods : (w j v : ℕ) → field w (v % 2 ^ (j + w)) ≡ field w v
unfolding field
field-mods zero j v = refl
field-mods (suc w) j v =
    let e : j + suc w ≡ suc j + w = add-suc j w ∙ sym (suc-add j w) in
    let d : v % 2 ^ (suc j + w) / 2 ^ w % 2 ≡ v / 2 ^ w % 2 =
    ap (λ (x : ℕ). x % 2) (Pow.field v (suc j) w) ∙ ap (λ (x : ℕ). v / 2 ^ w % 2 ^ x % 2) (sym (add-one j)) ∙ mod-mod-pow (v / 2 ^ w) j 1 in
    rw (e, d, field-mods w (suc j) v)

-- only the w lowest digits count
pub field-mod : (w v : ℕ) → field w (v % 2 ^ w) ≡ field w v
field-mod w v = ap (λ (x : ℕ). field w (v % 2 ^ x)) (sym (zero-add w)) ∙ field-mods w zero v

pub field-low : (x w v : ℕ) → field w (x * 2 ^ w + v) ≡ field w v
field-low x w v = sym (field-mod w (x * 2 ^ w + v)) ∙ ap (field w) (mul-add-mod_self_right x (2 ^ w) v) ∙ field-mod w v

pub field-zero : (w : ℕ) → field w 0 ≡ replicate w false
unfolding field
field-zero zero = refl
field-zero (suc w) = rw (zero-div (2 ^ w), field-zero w)

-- digits of two numbers, put together as one
pub field-join : (a b h v : ℕ) → v < 2 ^ b → field (a + b) (h * 2 ^ b + v) ≡ field a h ++ field b v
field-join a b h v hv = field-split a b (h * 2 ^ b + v) ∙ ap₂ (λ (x y : List Bool). x ++ y) (ap (field a) (high h b hv)) (field-low h b v)

-- o digits of k, n of p, and m zeros, put together as one number
pub field-made : (o n m k p : ℕ) → p < 2 ^ n → field (o + (n + m)) (k * 2 ^ (n + m) + p * 2 ^ m) ≡ field o k ++ (field n p ++ replicate m false)
field-made o n m k p hp =
    field-join o (n + m) k (p * 2 ^ m) (shl_lt n m hp)
    ∙ ap (λ (z : List Bool). field o k ++ z)
    (ap (field (n + m)) (sym (add-zero (p * 2 ^ m))) ∙ field-join n m p 0 (pow_pos m) ∙ ap (λ (z : List Bool). field n p ++ z) (field-zero m))

-- ---- the value

pub value-lt : (bs : List Bool) → value bs < 2 ^ length bs
unfolding value
value-lt [] = zero-lt-suc 0
value-lt (b ∷ bs) = rw (pow-succ' 2 (length bs)) (digits_lt (digit_lt b) (value-lt bs))

pub field-value : (bs : List Bool) → field (length bs) (value bs) ≡ bs
unfolding field value
field-value [] = refl
field-value (b ∷ bs) =
    ap₂ (λ (x : Bool) (t : List Bool). x ∷ t)
    (ap (λ (x : ℕ). bit (x % 2)) (high (digit b) (length bs) (value-lt bs)) ∙ bit-digit b)
    (field-low (digit b) (length bs) (value bs) ∙ field-value bs)

pub value-append : (a b : List Bool) → value (a ++ b) ≡ value a * 2 ^ length b + value b
unfolding value
value-append [] b = sym (ap (λ (x : ℕ). x + value b) (zero-mul (2 ^ length b)) ∙ zero-add (value b))
value-append (x ∷ a) b = rw (length-append a b, pow-add 2 (length a) (length b), value-append a b, add-mul, mul_assoc (digit x) (2 ^ length a) (2 ^ length b), add_assoc)

-- ---- the field at a place

pub field_at-lt : (i k : ℕ) (bs : List Bool) → field_at i k bs < 2 ^ k
field_at-lt i k bs = lt_of_lt_of_le (value-lt (take k (drop i bs))) (pow_mono (omega (arith, length-take k (drop i bs))))

-- a field that stands after i bits
pub field_at-field : (i k n : ℕ) (p r : List Bool) → length p ≡ i → field_at i k (p ++ (field k n ++ r)) ≡ n % 2 ^ k
field_at-field i k n p r e = rw (drop_at p (field k n ++ r) i e, take_at (field k n) r k (length-field k n)) (value-field k n)

-- what stands behind a field does not enter it
pub field_at-left : (i k : ℕ) (p r : List Bool) → i + k ≤ length p → field_at i k (p ++ r) ≡ field_at i k p
field_at-left i k p r h =
    rw (drop-append-le i p r (omega arith), take-append-le k (drop i p) r (omega (arith, length-drop i p)))

-- two fields, one behind the other
pub field_at-add : (bs : List Bool) (i a b : ℕ) → i + (a + b) ≤ length bs
    → field_at i (a + b) bs ≡ field_at i a bs * 2 ^ b + field_at (i + a) b bs
field_at-add bs i a b h =
    let len : length (take b (drop (i + a) bs)) ≡ b = length-take-le b (drop (i + a) bs) (omega (arith, length-drop (i + a) bs)) in
    rw (take-add a b (drop i bs), drop-drop a i bs, value-append, len)

-- w bits out of more: o before them, and m behind
pub field_at-part : (bs : List Bool) (i o w m : ℕ) → i + (o + (w + m)) ≤ length bs
    → field_at i (o + (w + m)) bs / 2 ^ m % 2 ^ w ≡ field_at (i + o) w bs
field_at-part bs i o w m h =
    let A = field_at i o bs in
    let B = field_at (i + o) w bs in
    let C = field_at (i + o + w) m bs in
    let all : field_at i (o + (w + m)) bs ≡ (A * 2 ^ w + B) * 2 ^ m + C =
    field_at-add bs i o (w + m) h
    ∙ ap₂ (λ (x y : ℕ). A * x + y) (pow-add 2 w m) (field_at-add bs (i + o) w m (omega arith))
    ∙ sym (add_assoc (A * (2 ^ w * 2 ^ m)) (B * 2 ^ m) C)
    ∙ ap (λ (x : ℕ). x + C) (ap (λ (x : ℕ). x + B * 2 ^ m) (sym (mul_assoc A (2 ^ w) (2 ^ m))) ∙ sym (add-mul (A * 2 ^ w) B (2 ^ m))) in
    ap (λ (x : ℕ). x / 2 ^ m % 2 ^ w) all
    ∙ ap (λ (x : ℕ). x % 2 ^ w) (high (A * 2 ^ w + B) m (field_at-lt (i + o + w) m bs))
    ∙ low A w (field_at-lt (i + o) w bs)

-- ---- a word at the head of bits

pub starts-split : (w bs : List Bool) → starts w bs ≡ true → (r : List Bool) × (bs ≡ w ++ r)
unfolding starts
starts-split [] bs h = (bs, refl)
starts-split (true ∷ w) [] h = absurd (false≢true h)
starts-split (false ∷ w) [] h = absurd (false≢true h)
starts-split (true ∷ w) (true ∷ bs) h = let t = starts-split w bs h in (t.0, ap (λ (z : List Bool). true ∷ z) t.1)
starts-split (false ∷ w) (false ∷ bs) h = let t = starts-split w bs h in (t.0, ap (λ (z : List Bool). false ∷ z) t.1)
starts-split (true ∷ w) (false ∷ bs) h = absurd (false≢true h)
starts-split (false ∷ w) (true ∷ bs) h = absurd (false≢true h)
