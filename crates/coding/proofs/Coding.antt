-- The three kinds of code as the numbers that the writer works out: a repeat, in the window, with a new window. Assumes nothing.
use mathlib.Core.Path.{◌≡◌, sym, ap, ap₂, ◌∙◌, subst}
use mathlib.Core.Bool.{Bool, true, false, cond, ◌&&◌}
use Prim.Native.Nat.{ℕ, ◌+◌, ◌-◌, ◌*◌, ◌/◌, ◌%◌, ◌^◌, ◌≤◌, ◌<◌}
use native.Mathlib.Nat.{mod-eq_of_lt, lt_of_lt_of_le}
use native.Mathlib.Omega.{arith}
use borrow.Author.Tests.{leb-true, ne_eqb}
use lib.Arith.{digits_lt}
use lib.Bits.{bit_or, or_shifted}
use lib.Count.{count_leading_zeros, count_trailing_zeros}
use lib.Dec.{leb}
use lib.Pow.{pow-add, pow_mono}
use Rattle.bits.specs.Bits.{field}
use Rattle.bits.proofs.Counts.{ends-apart}
use Rattle.models.proofs.Tests.{and_parts}
use Rattle.stream.specs.Format.{macaque, same, keep, new, Window, lead_of, trail_of, fits, kind_of, window_by, window_in}
use Rattle.stream.proofs.OneValue.{cut-lt}
use Rattle.stream.proofs.WhichKind.{kind-same, macaque-lead, macaque-trail}
use Rattle.stream.proofs.CodeWords.{macaque-same, macaque-keep, macaque-new}
use Rattle.coding.specs.Inner.Code.{CodedXor}

-- ---- a header over m meaningful bits, put together by a shift

pub header-lt : (a m low : ℕ) → a < 32 → m ≤ 32 → low < 2 ^ m → ((3 * 2 ^ 5 + a) * 2 ^ 6 + m) * 2 ^ m + low < 2 ^ (13 + m)
header-lt a m low ha hm hl =
    let h : (3 * 2 ^ 5 + a) * 2 ^ 6 + m < 2 ^ 13 = omega arith in
    subst (λ (z : ℕ). ((3 * 2 ^ 5 + a) * 2 ^ 6 + m) * 2 ^ m + low < z) (sym (pow-add 2 13 m)) (digits_lt h hl)

pub header_is : (head a m low : ℕ) → a < 32 → m ≤ 32 → low < 2 ^ m → head ≡ (3 * 2 ^ 5 + a) * 2 ^ 6 + m
    → bit_or (head * 2 ^ m % 2 ^ 64) low ≡ ((3 * 2 ^ 5 + a) * 2 ^ 6 + m) * 2 ^ m + low
header_is head a m low ha hm hl e =
    let h : ℕ = (3 * 2 ^ 5 + a) * 2 ^ 6 + m in
    let room : 13 + m ≤ 64 = omega arith in
    let whole : h * 2 ^ m + low < 2 ^ 64 = lt_of_lt_of_le (header-lt a m low ha hm hl) (pow_mono room) in
    let fit : h * 2 ^ m < 2 ^ 64 = omega arith in
    ap (λ (z : ℕ). bit_or (z * 2 ^ m % 2 ^ 64) low) e ∙ ap (λ (z : ℕ). bit_or z low) (mod-eq_of_lt fit) ∙ or_shifted h m low hl

-- ---- the kinds

module _ (lead trail x : ℕ) (p : 0 < x) (h : x < 2 ^ 32) where
  -- the tests that the writer makes choose the kind
  kind-by : (b : Bool) → (leb lead (count_leading_zeros 32 x) && leb trail (count_trailing_zeros 32 x)) ≡ b → kind_of macaque (window_in lead trail) x ≡ cond b keep new
  unfolding kind_of
  kind-by b e =
      let no0 : ¬ (x ≡ 0) = omega arith in
      ap (λ (t : Bool). cond t same (cond (fits macaque (window_in lead trail) x) keep new)) (ne_eqb x 0 no0)
      ∙ ap (λ (t : Bool). cond t keep new) (ap₂ (λ (a t : ℕ). leb lead a && leb trail t) (macaque-lead x p h) (macaque-trail x) ∙ e)

  -- a window that x fits lies within its own
  pub fits-window : (leb lead (count_leading_zeros 32 x) && leb trail (count_trailing_zeros 32 x)) ≡ true → (lead ≤ count_leading_zeros 32 x) × (trail ≤ count_trailing_zeros 32 x)
  fits-window e =
      let t = and_parts (leb lead (count_leading_zeros 32 x)) (leb trail (count_trailing_zeros 32 x)) e in
      (leb-true lead (count_leading_zeros 32 x) t.0, leb-true trail (count_trailing_zeros 32 x) t.1)

  pub zeros-apart : count_leading_zeros 32 x + count_trailing_zeros 32 x < 32
  zeros-apart = ends-apart 32 x p h

  -- the meaningful bits of x fit their count
  pub own_bits : x / 2 ^ count_trailing_zeros 32 x < 2 ^ (32 - count_leading_zeros 32 x - count_trailing_zeros 32 x)
  own_bits =
      let a : count_leading_zeros 32 x ≤ lead_of macaque x = omega (arith, macaque-lead x p h) in
      let t : count_trailing_zeros 32 x ≤ trail_of macaque x = omega (arith, macaque-trail x) in
      cut-lt macaque x (count_leading_zeros 32 x) (count_trailing_zeros 32 x) p h a t

  module _ (e : (leb lead (count_leading_zeros 32 x) && leb trail (count_trailing_zeros 32 x)) ≡ true) where
    in_window : x / 2 ^ trail < 2 ^ (32 - lead - trail)
    in_window =
        let f = fits-window e in
        let a : lead ≤ lead_of macaque x = omega (arith, macaque-lead x p h, f.0) in
        let t : trail ≤ trail_of macaque x = omega (arith, macaque-trail x, f.1) in
        cut-lt macaque x lead trail p h a t

    pub keep-code : CodedXor (window_in lead trail) x (record { width = 33 - lead - trail; bits = x / 2 ^ trail; lead = lead; trail = trail })
    unfolding window_by
    keep-code =
        let win : Window = window_in lead trail in
        let f = fits-window e in
        let k : kind_of macaque win x ≡ keep = kind-by true e in
        let room : lead + trail < 32 = omega (arith, f.0, f.1, zeros-apart) in
        let one : 1 + (32 - lead - trail) ≡ 33 - lead - trail = omega arith in
        let more : 32 - lead - trail ≤ 33 - lead - trail = omega arith in
        record {
          digits = ap (λ (n : ℕ). field n (x / 2 ^ trail)) (sym one) ∙ sym (macaque-keep win x k in_window);
          small = lt_of_lt_of_le in_window (pow_mono more);
          window = sym (ap (window_by macaque win x) k);
          some = omega arith;
          short = omega arith;
        }

  pub new-code : (bits : ℕ) → (leb lead (count_leading_zeros 32 x) && leb trail (count_trailing_zeros 32 x)) ≡ false
      → bits ≡ ((3 * 2 ^ 5 + count_leading_zeros 32 x) * 2 ^ 6 + (32 - count_leading_zeros 32 x - count_trailing_zeros 32 x)) * 2 ^ (32 - count_leading_zeros 32 x - count_trailing_zeros 32 x) + x / 2 ^ count_trailing_zeros 32 x
      → CodedXor (window_in lead trail) x
      (record { width = 13 + (32 - count_leading_zeros 32 x - count_trailing_zeros 32 x); bits = bits; lead = count_leading_zeros 32 x; trail = count_trailing_zeros 32 x })
  unfolding window_by
  new-code bits e is =
      let win : Window = window_in lead trail in
      let a : ℕ = count_leading_zeros 32 x in
      let t : ℕ = count_trailing_zeros 32 x in
      let k : kind_of macaque win x ≡ new = kind-by false e in
      let ends : count_leading_zeros 32 x + count_trailing_zeros 32 x < 32 = zeros-apart in
      let code : ℕ → ℕ → ℕ → ℕ = λ a t m. ((3 * 2 ^ 5 + a) * 2 ^ 6 + m) * 2 ^ m + x / 2 ^ t in
      record {
        digits =
            ap (field (13 + (32 - a - t))) is
            ∙ sym (macaque-new win x k p h
            ∙ ap₂ (λ (a t : ℕ). field (13 + (32 - a - t)) (((3 * 2 ^ 5 + a) * 2 ^ 6 + (32 - a - t)) * 2 ^ (32 - a - t) + x / 2 ^ t)) (macaque-lead x p h) (macaque-trail x));
        small = subst (λ (z : ℕ). z < 2 ^ (13 + (32 - a - t))) (sym is) (header-lt a (32 - a - t) (x / 2 ^ t) (omega arith) (omega arith) own_bits);
        window = sym (ap (window_by macaque win x) k ∙ ap₂ window_in (macaque-lead x p h) (macaque-trail x));
        some = omega arith;
        short = omega arith;
      }

pub same_code : (lead trail x : ℕ) → x ≡ 0 → CodedXor (window_in lead trail) x (record { width = 2; bits = 2; lead = lead; trail = trail })
unfolding window_by
same_code lead trail x e =
    let win : Window = window_in lead trail in
    let k : kind_of macaque win x ≡ same = kind-same macaque win x e in
    record {
      digits = sym (macaque-same win x k);
      small = omega arith;
      window = sym (ap (window_by macaque win x) k);
      some = omega arith;
      short = omega arith;
    }
