-- One value read of the first bits of a word, branch by branch: each field is a part of the word. Assumes nothing.
use mathlib.Core.Path.{◌≡◌, refl, sym, ap, ap₂, ◌∙◌, subst}
use mathlib.Core.Logic.{◌⊎◌}
use mathlib.Core.Bool.{Bool, true, false}
use mathlib.Core.List.{List}
use mathlib.Core.Option.{some}
use Prim.Native.Nat.{ℕ, ◌+◌, ◌-◌, ◌*◌, ◌/◌, ◌%◌, ◌^◌, ◌≤◌, ◌<◌}
use native.Mathlib.Nat.{one-mul, div-eq_of_lt, lt_of_lt_of_le}
use native.Mathlib.Omega.{arith}
use lib.Bits.{bit_xor, bit_and, and_mask, xor_comm}
use lib.Dec.{lit<}
use lib.ListN.{length, take, drop}
use lib.Pow.{pow_mono, shl_exact, shr_lt, shr-shr, shr_mod, split}
use Rattle.bits.specs.Bits.{field, field_at, bits_of}
use Rattle.stream.specs.Format.{macaque, keep, new, Window, window_in, unset, span}
use Rattle.stream.specs.Read.{got, halt, read_word, count_of, read_one}
use Rattle.stream.proofs.Formats.{macaque-good}
use Rattle.stream.proofs.FirstBits.{field-in-front}
use Rattle.stream.proofs.Branches.{macaque-told}
use Rattle.stream.proofs.Branches as branch
use Rattle.coding.specs.Inner.Ahead.{bits_in, IsPart, IsWord}
use Rattle.coding.proofs.Words.{bits-in-long, part-over, part_in}

module _ (word left : ℕ) (most : left ≤ 45) (win : Window) (l : ℕ) where
  abbrev bits : List Bool
  bits = bits_in word left

  long : length bits ≡ left
  long = bits-in-long word left most

  -- ---- a first value

  pub raw-cut : left < 32 → halt 5 ≡ read_one macaque true win l (bits_in word left)
  raw-cut h = sym (branch.raw-cut macaque win l bits (omega (arith, long)))

  pub raw-got : (v : ℕ) → IsPart word 0 32 v → 32 ≤ left → got v win 32 ≡ read_one macaque true win l (bits_in word left)
  raw-got v p h = sym (branch.raw-got macaque win l bits (omega (arith, long)) ∙ ap (λ (y : ℕ). got y win 32) (part_in word left most v 0 32 p.is h))

  -- ---- a coded value

  pub at-end : left < 1 → halt 5 ≡ read_one macaque false win l (bits_in word left)
  at-end h = sym (branch.no_word macaque win l bits (branch.word_end macaque-good macaque-told bits (omega (arith, long))))

  -- `0`
  module _ (there : 1 ≤ left) (e : field_at 0 1 (field 64 word) ≡ 0) where
    is-keep : read_word macaque bits ≡ some keep
    is-keep = branch.word-zero macaque-good macaque-told bits (omega (arith, long)) (part_in word left most 0 0 1 (sym e) there)

    pub keep-unset : unset win ≡ true → halt 6 ≡ read_one macaque false win l (bits_in word left)
    keep-unset u = sym (branch.keep-unset macaque win l bits is-keep u)

    pub keep-cut : unset win ≡ false → left < 1 + span macaque win → halt 5 ≡ read_one macaque false win l (bits_in word left)
    keep-cut u c = sym (branch.keep-cut macaque win l bits is-keep u (omega (arith, long)))

    pub keep-got : (y : ℕ) → IsPart word 1 (span macaque win) y → unset win ≡ false → win.lead + win.trail < 32 → 1 + span macaque win ≤ left
        → got (bit_xor ((y * 2 ^ win.trail) % 2 ^ 32) l) win (1 + span macaque win) ≡ read_one macaque false win l (bits_in word left)
    keep-got y p u f c =
        let at : ℕ → _ = λ (n : ℕ). got (bit_xor n l) win (1 + span macaque win) in
        ap at (shl_exact (span macaque win) win.trail 32 p.small (omega arith))
        ∙ sym (branch.keep-got macaque win l bits is-keep u (omega (arith, long))
        ∙ ap (λ (n : ℕ). at (n * 2 ^ win.trail)) (part_in word left most y 1 (span macaque win) p.is c))

  module _ (e : ¬ (field_at 0 1 (field 64 word) ≡ 0)) where
    not-zero : 1 ≤ left → ¬ (field_at 0 1 bits ≡ 0)
    not-zero h z = e (sym (part_in word left most (field_at 0 1 (field 64 word)) 0 1 (λ i. field_at 0 1 (field 64 word)) h) ∙ z)

    pub word_cut : 1 ≤ left → left < 2 → halt 5 ≡ read_one macaque false win l (bits_in word left)
    word_cut s h = sym (branch.no_word macaque win l bits (branch.word_cut macaque-good macaque-told bits (omega (arith, long)) (not-zero s)))

    -- `10`
    pub is_same : 2 ≤ left → field_at 1 1 (field 64 word) ≡ 0 → got l win 2 ≡ read_one macaque false win l (bits_in word left)
    is_same h f =
        sym (branch.is_same macaque win l bits
        (branch.word-ten macaque-good macaque-told bits (omega (arith, long)) (not-zero (omega arith)) (part_in word left most 0 1 1 (sym f) h)))

    -- `11`
    module _ (two : 2 ≤ left) (f : ¬ (field_at 1 1 (field 64 word) ≡ 0)) where
      is-new : read_word macaque bits ≡ some new
      is-new =
          branch.word-eleven macaque-good macaque-told bits (omega (arith, long)) (not-zero (omega arith))
          (λ z. f (sym (part_in word left most (field_at 1 1 (field 64 word)) 1 1 (λ i. field_at 1 1 (field 64 word)) two) ∙ z))

      pub header-cut : left < 13 → halt 5 ≡ read_one macaque false win l (bits_in word left)
      header-cut c = sym (branch.header-cut macaque win l bits is-new (omega (arith, long)))

      module _ (a m : ℕ) (pa : IsPart word 2 5 a) (pm : IsPart word 7 6 m) (c : 13 ≤ left) where
        ia : field_at 2 5 bits ≡ a
        ia = part_in word left most a 2 5 pa.is (omega arith)

        im : count_of macaque (field_at 7 6 bits) ≡ m
        im = branch.macaque-count (field_at 7 6 bits) ∙ part_in word left most m 7 6 pm.is (omega arith)

        pub header-wrong : (m ≡ 0) ⊎ (32 < a + m) → halt 7 ≡ read_one macaque false win l (bits_in word left)
        header-wrong w = sym (branch.header-wrong macaque win l bits is-new (omega (arith, long)) a m ia im w)

        pub new-cut : 0 < m → a + m ≤ 32 → left < 13 + m → halt 5 ≡ read_one macaque false win l (bits_in word left)
        new-cut p r d = sym (branch.new-cut macaque win l bits is-new (omega (arith, long)) a m ia im p r (omega (arith, long)))

        pub new-got : (y : ℕ) → IsPart word 13 m y → 0 < m → a + m ≤ 32 → 13 + m ≤ left
            → got (bit_xor ((y * 2 ^ (32 - a - m)) % 2 ^ 32) l) (window_in a (32 - a - m)) (13 + m) ≡ read_one macaque false win l (bits_in word left)
        new-got y py p r d =
            let at : ℕ → _ = λ (n : ℕ). got (bit_xor n l) (window_in a (32 - a - m)) (13 + m) in
            ap at (shl_exact m (32 - a - m) 32 py.small (omega arith))
            ∙ sym (branch.new-got macaque win l bits is-new (omega (arith, long)) a m ia im p r (omega (arith, long))
            ∙ ap (λ (n : ℕ). at (n * 2 ^ (32 - a - m))) (part_in word left most y 13 m py.is d))

-- ---- a word that begins with `0`

-- `1 << trail`
pub one_up : (trail : ℕ) → trail < 32 → (1 * 2 ^ trail) % 2 ^ 32 ≡ 2 ^ trail
one_up trail h = shl_exact {a = 1} 1 trail 32 (lit< tt) (omega arith) ∙ one-mul (2 ^ trail)

mask-off : (x trail : ℕ) → trail < 32 → x - bit_and x ((1 * 2 ^ trail) % 2 ^ 32 - 1) ≡ x / 2 ^ trail * 2 ^ trail
mask-off x trail h =
    ap (λ (k : ℕ). x - bit_and x (k - 1)) (one_up trail h)
    ∙ ap (λ (k : ℕ). x - k) (and_mask x trail)
    ∙ go (x / 2 ^ trail * 2 ^ trail) (x % 2 ^ trail) (split x trail)
  where
    go : (a b : ℕ) → a + b ≡ x → x - b ≡ a
    go a b e = omega arith

module _ (word lead trail : ℕ) (small : word < 2 ^ 63) (held : lead + trail < 32) where
  abbrev shifted : ℕ
  shifted = word / 2 ^ (31 + lead)

  pub shifted_fits : shifted < 2 ^ 32
  shifted_fits =
      let e : (32 - lead) + (31 + lead) ≡ 63 = omega arith in
      lt_of_lt_of_le (shr_lt (32 - lead) (31 + lead) (subst (λ (n : ℕ). word < 2 ^ n) (sym e) small)) (pow_mono {i = 32 - lead} {j = 32} (omega arith))

  -- the bits in the window, over their zeros
  pub in-place-is : shifted - bit_and shifted ((1 * 2 ^ trail) % 2 ^ 32 - 1) ≡ field_at 1 (32 - lead - trail) (field 64 word) * 2 ^ trail
  in-place-is =
      let w : ℕ = 32 - lead - trail in
      let m : ℕ = 31 + lead + trail in
      let e : w + m ≡ 63 = omega arith in
      let f : 1 + (w + m) ≡ 64 = omega arith in
      mask-off shifted trail (omega arith)
      ∙ ap (λ (x : ℕ). x * 2 ^ trail)
      (shr-shr word (31 + lead) trail
      ∙ sym (shr_mod w m (subst (λ (n : ℕ). word < 2 ^ n) (sym e) small))
      ∙ part-over word 1 w m f)

  -- and they say the value at the place
  pub kept-says : (bytes : List ℕ) (place last y : ℕ) → IsWord bytes place word → unset (window_in lead trail) ≡ false → y ≡ field_at 1 (32 - lead - trail) (field 64 word) * 2 ^ trail
      → read_one macaque false (window_in lead trail) last (take 45 (drop place (bits_of bytes))) ≡ got (bit_xor last y) (window_in lead trail) (33 - lead - trail)
  kept-says bytes place last y W set e =
      let win : Window = window_in lead trail in
      let none : field_at 0 1 (field 64 word) ≡ 0 = sym (part-over word 0 1 63 refl) ∙ ap (λ (x : ℕ). x % 2) (div-eq_of_lt small) in
      let long : length (bits_in word 45) ≡ 45 = bits-in-long word 45 (omega arith) in
      let used : 1 + (32 - lead - trail) ≡ 33 - lead - trail = omega arith in
      ap (read_one macaque false win last) (sym (W.kept small))
      ∙ branch.keep-got macaque win last (bits_in word 45)
      (branch.word-zero macaque-good macaque-told (bits_in word 45) (omega (arith, long)) (part_in word 45 (omega arith) 0 0 1 (sym none) (omega arith)))
      set (omega (arith, long))
      ∙ ap (λ (n : ℕ). got (bit_xor (n * 2 ^ trail) last) win (1 + span macaque win)) (field-in-front 45 (field 64 word) 1 (32 - lead - trail) (omega arith))
      ∙ ap₂ (λ (n k : ℕ). got n win k) (ap (λ (n : ℕ). bit_xor n last) (sym e) ∙ xor_comm y last) used
