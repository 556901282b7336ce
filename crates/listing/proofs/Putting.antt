-- Text that is put into a line, byte after byte and part after part. Assumes nothing.
use mathlib.Core.Path.{◌≡◌, refl, sym, ap, ap₂, ◌∙◌}
use mathlib.Core.Bool.{Bool, true, false, cond}
use mathlib.Core.List.{List, [], ◌∷◌, ◌++◌, append_assoc}
use Prim.Native.Nat.{ℕ, zero, suc, ◌+◌, ◌-◌, ◌*◌, ◌/◌, ◌%◌, ◌^◌, ◌≤◌, ◌<◌}
use native.Mathlib.Nat.{add-zero, zero-add}
use Rattle.std.proofs.Math.Nat.{one-le-pow, pow-succ'}
use native.Mathlib.Omega.{arith}
use borrow.Author.Tests.{lt-ltb, le-ltb}
use lib.Dec.{ltb, lit≤}
use lib.ListN.{length, take, drop, set, length-append}
use lib.Seq.{sets, sets-eq, set_comm, drop-drop, take_at}
use borrow.Rule.Slice.PartMut.{put_mid}
use Rattle.std.specs.Prelude.{Option, Some, None}
use Rattle.std.specs.Option.{unwrap_or, IfNone, IfSome}
use Rattle.models.specs.declared.Fault.{Fault}
use Rattle.listing.specs.Text.{digit_text, digits_of, places_up_to, places, decimal, hexadecimal, kind_word, lead_text, total_word, refused_word}
use Rattle.listing.specs.Text.{field, last_field, row_text, total_text, refused_text, laid}
use Rattle.listing.specs.Inner.Lines.{Put}
use Rattle.listing.specs.declared.Kind.{Kind}
use Rattle.listing.specs.declared.Kind.TheVariants.{Raw, Same, New, Keep}
use Rattle.listing.specs.declared.Fields.{Fields}

-- ---- runs of stores

pub sets-append : (l : List ℕ) (i : ℕ) (xs ys : List ℕ) → sets l i (xs ++ ys) ≡ sets (sets l i xs) (i + length xs) ys
sets-append l i [] ys = ap (λ (k : ℕ). sets l k ys) (sym (add-zero i))
sets-append l i (x ∷ xs) ys =
    let e : suc i + length xs ≡ i + suc (length xs) = omega arith in
    sets-append (set l i x) (suc i) xs ys ∙ ap (λ (k : ℕ). sets (sets (set l i x) (suc i) xs) k ys) e

-- a store behind a run may come before it
sets-later : (l : List ℕ) (i p x : ℕ) (xs : List ℕ) → i + length xs ≤ p → sets (set l p x) i xs ≡ set (sets l i xs) p x
sets-later l i p x [] h = refl
sets-later l i p x (y ∷ ys) h =
    let apart : ¬ (p ≡ i) = omega arith in
    let more : suc i + length ys ≤ p = omega arith in
    ap (λ (z : List ℕ). sets z (suc i) ys) (set_comm l p i x y apart) ∙ sets-later (set l i y) (suc i) p x ys more

-- ---- parts of a line

pub put_then : {old mid new : List ℕ} {i a r : ℕ} (t u : List ℕ) → Put old i t mid a → Put mid a u new r → Put old i (t ++ u) new r
put_then {old} {mid} {new} {i} {a} {r} t u P Q =
    record {
      is = Q.is ∙ ap₂ (λ (l : List ℕ) (k : ℕ). sets l k u) P.is P.ends ∙ sym (sets-append old i t u);
      ends = omega (arith, P.ends, Q.ends, length-append t u);
    }

-- a byte more
pub put_byte : {old mid : List ℕ} {i a : ℕ} (t : List ℕ) (b r : ℕ) → mid ≡ sets old i t → a ≡ i + length t → r ≡ a + 1 → Put old i (t ++ (b ∷ [])) (set mid a b) r
put_byte {old} {mid} {i} {a} t b r is e more =
    put_then t (b ∷ []) (record { is = is; ends = e }) (record { is = refl; ends = more })

-- from the front on
pub put-laid : {old new : List ℕ} {r : ℕ} (t : List ℕ) → Put old 0 t new r → (r ≡ length t) × (new ≡ laid t old)
put-laid {old} {new} {r} t P = (P.ends ∙ zero-add (length t), P.is)

-- ---- words

-- a word in the place of as many bytes
pub word-put : (l : List ℕ) (at : ℕ) (bytes : List ℕ) → at + length bytes ≤ length l → put_mid at (at + length bytes - at) l bytes ≡ sets l at bytes
word-put l at bytes h =
    let k : at + length bytes - at ≡ length bytes = omega arith in
    rw k
    (ap (λ (rest : List ℕ). take at l ++ (bytes ++ rest)) (drop-drop (length bytes) at l)
    ∙ sym (append_assoc (take at l) bytes (drop (at + length bytes) l))
    ∙ sym (sets-eq bytes l at h))

-- ---- numbers

pub length_digits : (b k n : ℕ) → length (digits_of b k n) ≡ k
unfolding digits_of
length_digits b zero n = refl
length_digits b (suc k) n = omega (arith, length-append (digits_of b k (n / b)) (digit_text (n % b) ∷ []), length_digits b k (n / b))

-- the last digit comes first
pub digits_step : (l : List ℕ) (at b k n : ℕ) → sets (set l (at + k) (digit_text (n % b))) at (digits_of b k (n / b)) ≡ sets l at (digits_of b (suc k) n)
unfolding digits_of
digits_step l at b k n =
    let d : ℕ = digit_text (n % b) in
    let ds : List ℕ = digits_of b k (n / b) in
    let e : length ds ≡ k = length_digits b k (n / b) in
    let behind : at + length ds ≤ at + k = omega arith in
    sets-later l at (at + k) d ds behind
    ∙ ap (λ (j : ℕ). set (sets l at ds) (at + j) d) (sym e)
    ∙ sym (sets-append l at ds (d ∷ []))

-- a number between two powers of ten has one digit more than the lower one's zeros
pub places-between : (m k n : ℕ) → 10 ^ k ≤ n → n < 10 * 10 ^ k → k ≤ m → places_up_to m n ≡ suc k
unfolding places_up_to
places-between zero zero n low high h = refl
places-between zero (suc k) n low high h = absurd (omega arith)
places-between (suc m) zero n low high h = rw (lt-ltb n 10 (omega arith))
places-between (suc m) (suc k) n low high h =
    let some : 1 ≤ 10 ^ k = one-le-pow k 10 (omega arith) in
    let more : 10 ^ suc k ≡ 10 * 10 ^ k = pow-succ' 10 k in
    rw (le-ltb n 10 (omega arith)) (ap suc (places-between m k (n / 10) (omega arith) (omega arith) (omega arith)))

-- and 0 has one
pub places-by : (n : ℕ) (o : Option ℕ) → IfNone o (n ≡ 0) → IfSome o (λ k. 10 ^ k ≤ n) → IfSome o (λ k. n < 10 * 10 ^ k) → IfSome o (λ k. k < 20)
    → (unwrap_or o 0 + 1 ≡ places n) × (unwrap_or o 0 + 1 ≤ 20)
unfolding places_up_to
places-by n None none low high most = (rw none, omega arith)
places-by n (Some k) none low high most = (omega (arith, places-between 19 k n low high (omega arith)), omega arith)

-- ---- how long a line is: no more than 80 bytes

places-most : (m n : ℕ) → places_up_to m n ≤ suc m
unfolding places_up_to
places-most zero n = omega arith
places-most (suc m) n = go (ltb n 10) (places-most m (n / 10))
  where
    go : (t : Bool) → places_up_to m (n / 10) ≤ suc m → cond t 1 (suc (places_up_to m (n / 10))) ≤ suc (suc m)
    go true h = omega arith
    go false h = omega arith

pub decimal-most : (n : ℕ) → length (decimal n) ≤ 20
decimal-most n = omega (arith, length_digits 10 (places n) n, places-most 19 n)

pub length-field : (t : List ℕ) → length (field t) ≡ length t + 1
length-field t = length-append t (32 ∷ [])

pub length_last : (t : List ℕ) → length (last_field t) ≡ length t + 1
length_last t = length-append t (10 ∷ [])

kind-most : (k : Kind) → length (kind_word k) ≤ 4
kind-most Raw = lit≤ tt
kind-most Same = lit≤ tt
kind-most New = lit≤ tt
kind-most Keep = lit≤ tt

lead-most : (k : Kind) (lead : ℕ) → length (lead_text k lead) ≤ 20
lead-most Raw lead = lit≤ tt
lead-most Same lead = lit≤ tt
lead-most New lead = decimal-most lead
lead-most Keep lead = decimal-most lead

pub row-most : (n : ℕ) (row : Fields) → length (row_text n row) ≤ 80
unfolding row_text
row-most n row =
    let t1 : List ℕ = field (decimal n) in
    let t2 : List ℕ = field (kind_word row.kind) in
    let t3 : List ℕ = field (lead_text row.kind row.lead) in
    let t4 : List ℕ = field (decimal row.bits) in
    let t5 : List ℕ = last_field (hexadecimal row.value) in
    let l1 : length t1 ≤ 21 = omega (arith, length-field (decimal n), decimal-most n) in
    let l2 : length t2 ≤ 5 = omega (arith, length-field (kind_word row.kind), kind-most row.kind) in
    let l3 : length t3 ≤ 21 = omega (arith, length-field (lead_text row.kind row.lead), lead-most row.kind row.lead) in
    let l4 : length t4 ≤ 21 = omega (arith, length-field (decimal row.bits), decimal-most row.bits) in
    let l5 : length t5 ≤ 9 = omega (arith, length_last (hexadecimal row.value), length_digits 16 8 row.value) in
    omega (arith, length-append (t1 ++ t2 ++ t3 ++ t4) t5, length-append (t1 ++ t2 ++ t3) t4, length-append (t1 ++ t2) t3, length-append t1 t2)

-- a number behind other text
next-most : (text : List ℕ) (n k : ℕ) → length text ≤ k → length (text ++ field (decimal n)) ≤ k + 21
next-most text n k h = omega (arith, length-append text (field (decimal n)), length-field (decimal n), decimal-most n)

pub last-most : (text : List ℕ) (n k : ℕ) → length text ≤ k → length (text ++ last_field (decimal n)) ≤ k + 21
last-most text n k h = omega (arith, length-append text (last_field (decimal n)), length_last (decimal n), decimal-most n)

pub total-most : (n : ℕ) → length (total_text n) ≤ 80
unfolding total_text
total-most n = omega (arith, last-most (field total_word) n 6 (lit≤ tt))

pub refused-most : (f : Fault) → length (refused_text f) ≤ 71
unfolding refused_text
refused-most f =
    let a : List ℕ = field refused_word ++ field (decimal f.number) in
    last-most (a ++ field (decimal f.value)) f.place 50 (next-most a f.value 29 (next-most (field refused_word) f.number 8 (lit≤ tt)))

-- what is printed of a line is the text that was put into it
pub text-laid : (text line : List ℕ) → length line ≡ 80 → length text ≤ 80 → take (length text) (laid text line) ≡ text
text-laid text line e h =
    let room : 0 + length text ≤ length line = omega arith in
    ap (take (length text)) (sets-eq text line 0 room) ∙ take_at text (drop (0 + length text) line) (length text) refl
