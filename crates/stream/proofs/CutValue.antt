-- One value that the bits end inside: reading it is 5, or what follows the bits changes nothing. So what is damage in the first bits of a stream is
-- damage in the stream. And a value is refused by 5, 6 or 7 only. Assumes nothing.
use mathlib.Core.Path.{◌≡◌, refl, sym, ap, ap₂, ◌∙◌, subst}
use mathlib.Core.Logic.{◌⊎◌, inl, inr}
use mathlib.Core.Bool.{Bool, true, false, cond, ◌||◌}
use mathlib.Core.List.{List, ◌++◌, append_assoc}
use mathlib.Core.Option.{Option, none, some}
use Prim.Native.Nat.{ℕ, ◌+◌, ◌*◌, ◌^◌, ◌≤◌}
use native.Mathlib.Omega.{arith}
use borrow.Author.Tests.{leb-true}
use lib.Bits.{bit_xor}
use lib.Dec.{eqb, leb, ltb}
use lib.ListN.{length, length-append}
use Rattle.bits.specs.Bits.{field_at}
use Rattle.bits.proofs.Fields.{field_at-left}
use Rattle.stream.specs.Format.{Format, Kind, same, keep, new, word_of, Window, unset, span}
use Rattle.stream.specs.Read.{Step, got, halt, need, read_raw, read_word, meaningful, count_of, window_read, read_header, read_body, read_one}
use Rattle.stream.specs.Needs.{Good}
use Rattle.stream.proofs.OneValue.{enough}
use Rattle.stream.proofs.OwnBits.{word-inv}

-- `before` is what the first bits give, and `all` what they give with others behind them
abbrev pub Early : Step → Step → Type 0
Early before all = (before ≡ halt 5) ⊎ (all ≡ before)

early-need : (n : ℕ) (p r : List Bool) (a b : Step) → (n ≤ length p → Early a b) → Early (need n p a) (need n (p ++ r) b)
early-need n p r a b f = go (leb n (length p)) refl
  where
    go : (c : Bool) → leb n (length p) ≡ c → Early (cond c a (halt 5)) (need n (p ++ r) b)
    go false e = inl refl
    go true e =
        let le : n ≤ length p = leb-true n (length p) e in
        subst (Early a) (sym (enough n (p ++ r) b (omega (arith, length-append p r)))) (f le)

early-cond : (c : Bool) (n : ℕ) (a b : Step) → Early a b → Early (cond c (halt n) a) (cond c (halt n) b)
early-cond true n a b e = inr refl
early-cond false n a b e = e

module _ (F : Format) (win : Window) (l : ℕ) (p r : List Bool) where
  early-raw : Early (read_raw F win p) (read_raw F win (p ++ r))
  unfolding read_raw
  early-raw =
      early-need F.width p r (got (field_at 0 F.width p) win F.width) (got (field_at 0 F.width (p ++ r)) win F.width)
      (λ le. inr (ap (λ (z : ℕ). got z win F.width) (field_at-left 0 F.width p r (omega arith))))

  early-meaningful : (w : Window) (h m : ℕ) → Early (meaningful F l w h m p) (meaningful F l w h m (p ++ r))
  early-meaningful w h m =
      early-need (h + m) p r (got (bit_xor (field_at h m p * 2 ^ w.trail) l) w (h + m)) (got (bit_xor (field_at h m (p ++ r) * 2 ^ w.trail) l) w (h + m))
      (λ le. inr (ap (λ (z : ℕ). got (bit_xor (z * 2 ^ w.trail) l) w (h + m)) (field_at-left h m p r le)))

  early-body : (k : Kind) → Early (read_body F win l p (some k)) (read_body F win l (p ++ r) (some k))
  unfolding read_body
  early-body same = inr refl
  early-body keep =
      let h : ℕ = length F.keep_word in
      early-cond (unset win) 6 (meaningful F l win h (span F win) p) (meaningful F l win h (span F win) (p ++ r)) (early-meaningful win h (span F win))
  early-body new =
      let h : ℕ = length F.new_word in
      let H : ℕ = h + F.lead_bits + F.count_bits in
      let a : List Bool → ℕ = field_at h F.lead_bits in
      let m : List Bool → ℕ = λ bs. count_of F (field_at (h + F.lead_bits) F.count_bits bs) in
      early-need H p r (read_header F l (a p) (m p) H p) (read_header F l (a (p ++ r)) (m (p ++ r)) H (p ++ r))
      (λ le. subst (Early (read_header F l (a p) (m p) H p))
      (sym (ap₂ (λ (y z : ℕ). read_header F l y z H (p ++ r)) (field_at-left h F.lead_bits p r (omega arith))
      (ap (count_of F) (field_at-left (h + F.lead_bits) F.count_bits p r (omega arith)))))
      (early-cond (eqb (m p) 0 || ltb F.width (a p + m p)) 7 (meaningful F l (window_read F (a p) (m p)) H (m p) p)
      (meaningful F l (window_read F (a p) (m p)) H (m p) (p ++ r)) (early-meaningful (window_read F (a p) (m p)) H (m p))))

  -- the code word may be cut too: then none is read, and that is 5
  pub early-one : Good F → (raw : Bool) → Early (read_one F raw win l p) (read_one F raw win l (p ++ r))
  unfolding read_one read_body
  early-one good true = early-raw
  early-one good false = go (read_word F p) refl
    where
      go : (k : Option Kind) → read_word F p ≡ k → Early (read_body F win l p k) (read_body F win l (p ++ r) (read_word F (p ++ r)))
      go none e = inl refl
      go (some k) e =
          let t = word-inv F p k e in
          let word : read_word F (p ++ r) ≡ some k =
          ap (λ (z : List Bool). read_word F (z ++ r)) t.1 ∙ ap (read_word F) (append_assoc (word_of F k) t.0 r) ∙ good.words k (t.0 ++ r) in
          subst (λ (z : Option Kind). Early (read_body F win l p (some k)) (read_body F win l (p ++ r) z)) (sym word) (early-body k)

-- ---- the numbers by which a value is refused

abbrev pub Numbered : Step → Type 0
Numbered (got v w u) = Unit
Numbered (halt n) = (5 ≤ n) × (n ≤ 7)

numbered-cond : (c : Bool) (a b : Step) → Numbered a → Numbered b → Numbered (cond c a b)
numbered-cond true a b x y = x
numbered-cond false a b x y = y

numbered-need : (n : ℕ) (bs : List Bool) (q : Step) → Numbered q → Numbered (need n bs q)
numbered-need n bs q x = numbered-cond (leb n (length bs)) q (halt 5) x (omega arith, omega arith)

module _ (F : Format) (win : Window) (l : ℕ) (bs : List Bool) where
  numbered-meaningful : (w : Window) (h m : ℕ) → Numbered (meaningful F l w h m bs)
  numbered-meaningful w h m = numbered-need (h + m) bs (got (bit_xor (field_at h m bs * 2 ^ w.trail) l) w (h + m)) tt

  numbered-body : (k : Option Kind) → Numbered (read_body F win l bs k)
  unfolding read_body
  numbered-body none = (omega arith, omega arith)
  numbered-body (some same) = tt
  numbered-body (some keep) =
      let h : ℕ = length F.keep_word in
      numbered-cond (unset win) (halt 6) (meaningful F l win h (span F win) bs) (omega arith, omega arith) (numbered-meaningful win h (span F win))
  numbered-body (some new) =
      let h : ℕ = length F.new_word in
      let H : ℕ = h + F.lead_bits + F.count_bits in
      let a : ℕ = field_at h F.lead_bits bs in
      let m : ℕ = count_of F (field_at (h + F.lead_bits) F.count_bits bs) in
      numbered-need H bs (read_header F l a m H bs)
      (numbered-cond (eqb m 0 || ltb F.width (a + m)) (halt 7) (meaningful F l (window_read F a m) H m bs) (omega arith, omega arith)
      (numbered-meaningful (window_read F a m) H m))

  pub numbered-one : (raw : Bool) → Numbered (read_one F raw win l bs)
  unfolding read_one read_raw
  numbered-one true = numbered-need F.width bs (got (field_at 0 F.width bs) win F.width) tt
  numbered-one false = numbered-body (read_word F bs)
