-- The code of a value as one field, or as a header and the value's bits, so that a writer puts it with one call or two; and how many bits values take at
-- most. Over any format, with the numbers of the two. Assumes nothing.
use mathlib.Core.Path.{◌≡◌, sym, ap, ap₂, ◌∙◌}
use mathlib.Core.Bool.{Bool, true, false}
use mathlib.Core.List.{List, [], ◌∷◌, ◌++◌, append_assoc}
use Prim.Native.Nat.{ℕ, ◌+◌, ◌*◌, ◌/◌, ◌%◌, ◌^◌, ◌≤◌, ◌<◌}
use native.Mathlib.Nat.{zero-mul, zero-add, suc-mul, mod-lt, mod-eq_of_lt}
use native.Mathlib.Omega.{arith}
use lib.Bits.{bit_xor}
use lib.ListN.{length, length-append}
use lib.Pow.{pow_pos}
use Rattle.bits.specs.Bits.{field, value}
use Rattle.bits.proofs.Fields.{length-field, field-join, field-mod, field-value}
use Rattle.stream.specs.Format.{Format, macaque, gorilla, Kind, same, keep, new, word_of, Window, span, lead_of, trail_of, window_of, kind_of, body_of, code_of, bits_for, Gather, Mode, Stream, macaque_of, State, is_raw}
use Rattle.stream.specs.Write.{bits_one, next, encode}
use Rattle.stream.specs.Needs.{Good, longest}
use Rattle.stream.proofs.Formats.{macaque-good}
use Rattle.stream.proofs.OneValue.{lead-lt, inside, cut-lt}

-- ---- the code by its kind

abbrev code_by : Format → Window → ℕ → Kind → List Bool
code_by F win x k = word_of F k ++ body_of F win x k

-- how many bits the header of a new window has, and their number
abbrev pub head_bits : Format → ℕ
head_bits F = length F.new_word + F.lead_bits + F.count_bits

abbrev pub head_of : Format → ℕ → ℕ → ℕ
head_of F a m = (value F.new_word * 2 ^ F.lead_bits + a) * 2 ^ F.count_bits + m % 2 ^ F.count_bits

module _ (F : Format) (win : Window) (x : ℕ) where
  pub code_same : kind_of F win x ≡ same → code_of F win x ≡ F.same_word ++ []
  unfolding body_of
  code_same e = ap (code_by F win x) e

  -- the word, and the window's bits
  pub code-keep : kind_of F win x ≡ keep → x / 2 ^ win.trail < 2 ^ span F win
      → code_of F win x ≡ field (length F.keep_word + span F win) (value F.keep_word * 2 ^ span F win + x / 2 ^ win.trail)
  unfolding body_of
  code-keep e h =
      let w : List Bool = F.keep_word in
      let m : ℕ = span F win in
      let y : ℕ = x / 2 ^ win.trail in
      ap (code_by F win x) e ∙ ap (λ (z : List Bool). z ++ field m y) (sym (field-value w)) ∙ sym (field-join (length w) m (value w) y h)

  -- the word, the leading zeros and how many bits are meaningful as one field; and these bits
  pub code-new-parts : kind_of F win x ≡ new
      → code_of F win x
      ≡ field (head_bits F) (head_of F (lead_of F x) (span F (window_of F x))) ++ field (span F (window_of F x)) (x / 2 ^ trail_of F x)
  unfolding body_of
  code-new-parts e =
      let w : List Bool = F.new_word in
      let a : ℕ = lead_of F x in
      let m : ℕ = span F (window_of F x) in
      let f1 : List Bool = field F.lead_bits a in
      let f2 : List Bool = field F.count_bits m in
      let f3 : List Bool = field m (x / 2 ^ trail_of F x) in
      ap (code_by F win x) e
      ∙ sym (append_assoc w (f1 ++ f2) f3) ∙ ap (λ (z : List Bool). z ++ f3) (sym (append_assoc w f1 f2))
      ∙ ap₂ (λ (y z : List Bool). y ++ f1 ++ z ++ f3) (sym (field-value w)) (sym (field-mod F.count_bits m))
      ∙ ap (λ (z : List Bool). z ++ field F.count_bits (m % 2 ^ F.count_bits) ++ f3) (sym (field-join (length w) F.lead_bits (value w) a (lead-lt F x)))
      ∙ ap (λ (z : List Bool). z ++ f3)
      (sym (field-join (length w + F.lead_bits) F.count_bits (value w * 2 ^ F.lead_bits + a) (m % 2 ^ F.count_bits) (mod-lt m (pow_pos F.count_bits))))

  -- and all as one
  pub code-new : kind_of F win x ≡ new → 0 < x → x < 2 ^ F.width
      → code_of F win x
      ≡ field (head_bits F + span F (window_of F x)) (head_of F (lead_of F x) (span F (window_of F x)) * 2 ^ span F (window_of F x) + x / 2 ^ trail_of F x)
  code-new e p h =
      let m : ℕ = span F (window_of F x) in
      let y : ℕ = x / 2 ^ trail_of F x in
      code-new-parts e ∙ sym (field-join (head_bits F) m (head_of F (lead_of F x) m) y (cut-lt F x (lead_of F x) (trail_of F x) p h (omega arith) (omega arith)))

-- ---- the two formats

module _ (win : Window) (x : ℕ) where
  -- `10`
  pub macaque-same : kind_of macaque win x ≡ same → code_of macaque win x ≡ field 2 2
  unfolding field
  macaque-same e = code_same macaque win x e

  -- `0`, and the window's bits
  pub macaque-keep : kind_of macaque win x ≡ keep → x / 2 ^ win.trail < 2 ^ span macaque win
      → code_of macaque win x ≡ field (1 + span macaque win) (x / 2 ^ win.trail)
  unfolding value
  macaque-keep e h =
      let m : ℕ = span macaque win in
      let y : ℕ = x / 2 ^ win.trail in
      code-keep macaque win x e h ∙ ap (field (1 + m)) (ap (λ (z : ℕ). z + y) (zero-mul (2 ^ m)) ∙ zero-add y)

  -- `11`, the leading zeros, how many bits are meaningful, and these
  pub macaque-new : kind_of macaque win x ≡ new → 0 < x → x < 2 ^ 32
      → code_of macaque win x
      ≡ field (13 + span macaque (window_of macaque x))
      (((3 * 2 ^ 5 + lead_of macaque x) * 2 ^ 6 + span macaque (window_of macaque x)) * 2 ^ span macaque (window_of macaque x) + x / 2 ^ trail_of macaque x)
  unfolding value
  macaque-new e p h =
      let a : ℕ = lead_of macaque x in
      let m : ℕ = span macaque (window_of macaque x) in
      let small : m < 2 ^ 6 = omega (arith, inside macaque x p h) in
      code-new macaque win x e p h ∙ ap (λ (z : ℕ). field (13 + m) (((3 * 2 ^ 5 + a) * 2 ^ 6 + z) * 2 ^ m + x / 2 ^ trail_of macaque x)) (mod-eq_of_lt small)

  -- `0`; `10` and the window's bits; `11`, 5 bits of leading, 6 of meaningful count, where 0 stands for 64, and the bits
  pub gorilla-same : kind_of gorilla win x ≡ same → code_of gorilla win x ≡ field 1 0
  unfolding field
  gorilla-same e = code_same gorilla win x e

  pub gorilla-keep : kind_of gorilla win x ≡ keep → x / 2 ^ win.trail < 2 ^ span gorilla win
      → code_of gorilla win x ≡ field (2 + span gorilla win) (2 * 2 ^ span gorilla win + x / 2 ^ win.trail)
  unfolding value
  gorilla-keep e h = code-keep gorilla win x e h

  pub gorilla-new : kind_of gorilla win x ≡ new
      → code_of gorilla win x
      ≡ field 13 ((3 * 2 ^ 5 + lead_of gorilla x) * 2 ^ 6 + span gorilla (window_of gorilla x) % 2 ^ 6)
      ++ field (span gorilla (window_of gorilla x)) (x / 2 ^ trail_of gorilla x)
  unfolding value
  gorilla-new e = code-new-parts gorilla win x e

-- ---- how many bits a value takes at most

code-long : (F : Format) → Good F → (win : Window) (x : ℕ) (k : Kind) → length (code_by F win x k) ≤ longest F
unfolding body_of
code-long F good win x same = omega (arith, good.most same, length-append F.same_word [])
code-long F good win x keep =
    let y : ℕ = x / 2 ^ win.trail in
    omega (arith, good.most keep, length-append F.keep_word (field (span F win) y), length-field (span F win) y)
code-long F good win x new =
    let f1 : List Bool = field F.lead_bits (lead_of F x) in
    let m : ℕ = span F (window_of F x) in
    let f2 : List Bool = field F.count_bits m in
    let f3 : List Bool = field m (x / 2 ^ trail_of F x) in
    omega (arith, length-append F.new_word (f1 ++ f2 ++ f3), length-append (f1 ++ f2) f3, length-append f1 f2, length-field F.lead_bits (lead_of F x), length-field F.count_bits m, length-field m (x / 2 ^ trail_of F x))

pub one-long : (F : Format) → Good F → (raw : Bool) (win : Window) (l v : ℕ) → length (bits_for F raw win l v) ≤ longest F
unfolding bits_for
one-long F good true win l v = omega (arith, length-field F.width v)
one-long F good false win l v = code-long F good win (bit_xor v l) (kind_of F win (bit_xor v l))

pub all-long : {A : Type 0} (S : Stream A) → Good S.format → (s : State A) (vs : List ℕ) → length (encode S s vs) ≤ length vs * longest S.format
unfolding encode
all-long S good s [] = omega arith
all-long S good s (v ∷ vs) =
    omega (arith, suc-mul (length vs) (longest S.format), length-append (bits_one S s v) (encode S (next S s v) vs), one-long S.format good (is_raw S s) s.win s.last v, all-long S good (next S s v) vs)

-- at most 45 bits a value in MacaqueV
pub values-long : {A : Type 0} (mode : Mode) (G : Gather A) (s : State A) (vs : List ℕ) → length (encode (macaque_of mode G) s vs) ≤ 45 * length vs
values-long mode G s vs = omega (arith, all-long (macaque_of mode G) macaque-good s vs)
