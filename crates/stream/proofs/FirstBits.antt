-- One value is read of its first bits, as many as the longest code has: what comes behind them changes nothing. Assumes nothing.
use mathlib.Core.Path.{◌≡◌, refl, sym, ap, ap₂, ◌∙◌}
use mathlib.Core.Bool.{Bool, true, false, cond, ◌&&◌, ◌||◌, beq}
use mathlib.Core.List.{List, [], ◌∷◌}
use mathlib.Core.Option.{Option, none, some}
use Prim.Native.Nat.{ℕ, zero, suc, ◌+◌, ◌-◌, ◌*◌, ◌^◌, ◌≤◌}
use native.Mathlib.Nat.{zero-add, suc-add}
use native.Mathlib.Omega.{arith}
use borrow.Author.Tests.{le-leb, lt-leb, leb-true, leb-false, ltb-false}
use lib.Bits.{bit_xor}
use lib.Dec.{eqb, leb, ltb}
use lib.ListN.{length, take, drop, length-take}
use lib.Seq.{take-nil, take-take}
use Rattle.bits.specs.Bits.{value, field_at, starts}
use Rattle.stream.specs.Format.{Format, Kind, same, keep, new, Window, unset, span}
use Rattle.stream.specs.Read.{Step, got, halt, need, read_raw, read_word, meaningful, count_of, window_read, read_header, read_body, read_one}
use Rattle.stream.specs.Needs.{Good, longest}

drop-take : {A : Type 0} (i m : ℕ) (l : List A) → drop i (take (i + m) l) ≡ take m (drop i l)
drop-take zero m l = rw zero-add
drop-take (suc i) m [] = ap (λ (n : ℕ). drop (suc i) (take n [])) (suc-add i m) ∙ sym (take-nil m)
drop-take (suc i) m (x ∷ l) = rw suc-add (drop-take i m l)

-- ---- the first n bits: a field in them, a word, a count of bits that are needed

module _ (n : ℕ) (b : List Bool) where
  pub field-in-front : (i k : ℕ) → i + k ≤ n → field_at i k (take n b) ≡ field_at i k b
  field-in-front i k h =
      let e : i + (n - i) ≡ n = omega arith in
      ap (λ (m : ℕ). field_at i k (take m b)) (sym e)
      ∙ ap (λ (z : List Bool). value (take k z)) (drop-take i (n - i) b)
      ∙ ap value (take-take k (n - i) (drop i b) (omega arith))

  need-in-front : (k : ℕ) (r : Step) → k ≤ n → need k (take n b) r ≡ need k b r
  need-in-front k r h = ap (λ (t : Bool). cond t r (halt 5)) (go (leb k (length b)) refl)
    where
      go : (t : Bool) → leb k (length b) ≡ t → leb k (length (take n b)) ≡ leb k (length b)
      go true e = le-leb k (length (take n b)) (omega (arith, length-take n b, leb-true k (length b) e)) ∙ sym e
      go false e = lt-leb k (length (take n b)) (omega (arith, length-take n b, leb-false k (length b) e)) ∙ sym e

starts-in-front : (w : List Bool) (n : ℕ) (b : List Bool) → length w ≤ n → starts w (take n b) ≡ starts w b
unfolding starts
starts-in-front [] n b h = refl
starts-in-front (x ∷ w) zero b h = absurd (omega arith)
starts-in-front (x ∷ w) (suc n) [] h = refl
starts-in-front (x ∷ w) (suc n) (y ∷ b) h = ap (λ (t : Bool). beq x y && t) (starts-in-front w n b (omega arith))

-- ---- one value

module _ (F : Format) (good : Good F) (win : Window) (l : ℕ) (b : List Bool) where
  abbrev c : List Bool
  c = take (longest F) b

  word-in-front : read_word F c ≡ read_word F b
  unfolding read_word
  word-in-front =
      let test : (k : Kind) (w : List Bool) → length w ≤ length F.new_word → starts w c ≡ starts w b =
      λ k w h. starts-in-front w (longest F) b (omega arith) in
      ap₂ (λ (s t : Bool). cond s (some same) (cond t (some keep) (cond (starts F.new_word c) (some new) none)))
      (test same F.same_word (good.most same)) (test keep F.keep_word (good.most keep))
      ∙ ap (λ (t : Bool). cond (starts F.same_word b) (some same) (cond (starts F.keep_word b) (some keep) (cond t (some new) none)))
      (test new F.new_word (good.most new))

  meaningful-in-front : (w : Window) (h m : ℕ) → h + m ≤ longest F → meaningful F l w h m c ≡ meaningful F l w h m b
  meaningful-in-front w h m e =
      need-in-front (longest F) b (h + m) _ e
      ∙ ap (λ (y : ℕ). need (h + m) b (got (bit_xor (y * 2 ^ w.trail) l) w (h + m))) (field-in-front (longest F) b h m e)

  header-in-front : (a m h : ℕ) → h + F.width ≤ longest F → read_header F l a m h c ≡ read_header F l a m h b
  header-in-front a m h e = go (eqb m 0) (ltb F.width (a + m)) refl
    where
      go : (s t : Bool) → ltb F.width (a + m) ≡ t
          → cond (s || t) (halt 7) (meaningful F l (window_read F a m) h m c) ≡ cond (s || t) (halt 7) (meaningful F l (window_read F a m) h m b)
      go true t f = refl
      go false true f = refl
      go false false f = meaningful-in-front (window_read F a m) h m (omega (arith, ltb-false F.width (a + m) f))

  body-in-front : (k : Option Kind) → read_body F win l c k ≡ read_body F win l b k
  unfolding read_body
  body-in-front none = refl
  body-in-front (some same) = refl
  body-in-front (some keep) =
      ap (cond (unset win) (halt 6)) (meaningful-in-front win (length F.keep_word) (span F win) (omega (arith, good.most keep)))
  body-in-front (some new) =
      let n : ℕ = length F.new_word in
      let h : ℕ = n + F.lead_bits + F.count_bits in
      need-in-front (longest F) b h _ (omega arith)
      ∙ ap (need h b)
      (ap₂ (λ (y z : ℕ). read_header F l y (count_of F z) h c) (field-in-front (longest F) b n F.lead_bits (omega arith))
      (field-in-front (longest F) b (n + F.lead_bits) F.count_bits (omega arith))
      ∙ header-in-front (field_at n F.lead_bits b) (count_of F (field_at (n + F.lead_bits) F.count_bits b)) h (omega arith))

  pub read-of-first : (raw : Bool) → read_one F raw win l c ≡ read_one F raw win l b
  unfolding read_one read_raw
  read-of-first true =
      need-in-front (longest F) b F.width _ (omega arith)
      ∙ ap (λ (y : ℕ). need F.width b (got y win F.width)) (field-in-front (longest F) b 0 F.width (omega arith))
  read-of-first false = ap (read_body F win l c) word-in-front ∙ body-in-front (read_word F b)
