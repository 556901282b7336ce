-- The cost of a model is the nearest f32 to a fraction, so that costs never put two models in another order than the fractions do: they can only tie. Assumes nothing.
use mathlib.Core.Path.{◌≡◌, refl, sym, ap, ◌∙◌}
use mathlib.Core.Bool.{Bool, true, false, true≢false, false≢true}
use mathlib.Core.Logic.{⊎_elim}
use Prim.Native.Nat.{ℕ, ◌+◌, ◌*◌, ◌≤◌, ◌<◌}
use native.Mathlib.Nat.{mul-pos, mul-one, mul_comm, mul_assoc, mul_left_comm, mul-le-mul}
use native.Mathlib.Omega.{arith}
use borrow.Author.Tests.{ltb-true, ltb-false, eqb-true, le-ltb, ne_eqb}
use lib.Dec.{T, eqb, ltb}
use lib.Ieee as Ieee
use lib.Ieee.{Float, Format, binary32, nan, inf, fin, up, down, round}
use lib.Ieee.Bits.{is_true}
use lib.Ieee.Exact.{HasValue}
use lib.Ieee.Back.{round_whole}
use lib.Ieee.Scale.{round_same}
use lib.Ieee.Order.{round_mono}
use lib.Ieee.Fits.{down_pos, round-fits}
use lib.Ieee.Positive.{positive, between}
use Rattle.numbers.proofs.OneWay.{same_number}
use Rattle.models.specs.Limits.{cost, most_values, most_metadata}
use Rattle.models.proofs.Tests.{and_left, and_right, or-either, or-one}
use Rattle.swing.proofs.Order.{at_most}
use Rattle.types.specs.Choice.{swing_wins}
use Rattle.types.specs.Fair.{won_by_costs}

-- ---- a quotient of whole numbers
nonzero : (n u b d : ℕ) → n * u * 1 ≡ b * d → 0 < b → 0 < d → (n ≡ 0 → ⊥)
nonzero n u b d e B D z =
    let none : n * u ≡ 0 = ap (λ (k : ℕ). k * u) z ∙ omega arith in
    omega (arith, mul-pos B D, mul-one (n * u))

crossed : (x y a b d e : ℕ) → x * 1 ≡ a * e → y * 1 ≡ b * d → x * d * b ≡ a * (y * e)
crossed x y a b d e p q =
    ap (λ (k : ℕ). k * d * b) (sym (mul-one x) ∙ p)
    ∙ (simp (mul_assoc, mul_comm, mul_left_comm))
    ∙ ap (λ (k : ℕ). a * (k * e)) (sym q ∙ mul-one y)

div-whole : (f : Format) (x y : Float) (a b : ℕ) → HasValue x false a 1 → HasValue y false b 1 → 0 < b → Ieee.div f x y ≡ round f false a b
unfolding Ieee.div
div-whole f nan y a b p q B = absurd p
div-whole f (inf s) y a b p q B = absurd p
div-whole f (fin true m e) y a b p q B = absurd (true≢false p.0)
div-whole f (fin false m e) nan a b p q B = absurd q
div-whole f (fin false m e) (inf t) a b p q B = absurd q
div-whole f (fin false m e) (fin true n d) a b p q B = absurd (true≢false q.0)
div-whole f (fin false m e) (fin false n d) a b p q B =
    let some = nonzero n (up d) b (down d) q.1 B (down_pos d) in
    let full : 0 < n * up d * down e = mul-pos (omega (arith, mul-one (n * up d), q.1, mul-pos B (down_pos d))) (down_pos e) in
    rw (ne_eqb n 0 some) (round_same f false (m * up e * down d) (n * up d * down e) a b full B (crossed (m * up e) (n * up d) a b (down d) (down e) p.1 q.1))

cost-is : (bytes values : ℕ) → bytes ≤ most_values → values ≤ most_values → 0 < values → cost bytes values ≡ round binary32 false bytes values
unfolding cost Ieee.of_int
cost-is bytes values hb hv some =
    div-whole binary32 _ _ bytes values (round_whole binary32 false bytes (omega arith)) (round_whole binary32 false values (omega arith)) some

-- ---- what is at most another is not above it
not-above : (x y : Float) → Ieee.le x y ≡ true → Ieee.lt y x ≡ false
unfolding Ieee.le Ieee.lt Ieee.eq
not-above nan y h = absurd (false≢true h)
not-above (inf s) nan h = absurd (false≢true h)
not-above (inf true) (inf true) h = refl
not-above (inf true) (inf false) h = refl
not-above (inf false) (inf true) h = absurd (false≢true h)
not-above (inf false) (inf false) h = refl
not-above (inf true) (fin t n d) h = refl
not-above (inf false) (fin t n d) h = absurd (false≢true h)
not-above (fin s m e) nan h = absurd (false≢true h)
not-above (fin s m e) (inf true) h = absurd (false≢true h)
not-above (fin s m e) (inf false) h = refl
not-above (fin false m e) (fin false n d) h = le-ltb (n * up d * down e) (m * up e * down d) (at_most (m * up e * down d) (n * up d * down e) _ h)
not-above (fin false m e) (fin true n d) h =
    let a = m * up e * down d in
    let b = n * up d * down e in
    le-ltb 0 (b + a) (omega (arith, eqb-true a b (and_left (eqb a b) (eqb a 0) h), eqb-true a 0 (and_right (eqb a b) (eqb a 0) h)))
not-above (fin true m e) (fin false n d) h = refl
not-above (fin true m e) (fin true n d) h =
    let a = m * up e * down d in
    let b = n * up d * down e in
    le-ltb a b (⊎_elim (λ l. omega (arith, ltb-true b a l)) (λ k. omega (arith, eqb-true a b (and_left (eqb a b) _ k))) (or-either (ltb b a) _ h))

-- ---- a cost is a number above 0, since it lies between the least and the greatest that there are
above_zero : (bytes values : ℕ) → 1 ≤ bytes → bytes ≤ most_values → 1 ≤ values → values ≤ most_values → T (positive (round binary32 false bytes values))
unfolding round
above_zero bytes values some few one many =
    between (round binary32 false 1 most_values) (round binary32 false bytes values) (round binary32 false most_values 1) tt tt
    (round_mono binary32 1 most_values bytes values (omega arith) one (omega (arith, mul-le-mul some many)))
    (round_mono binary32 bytes values most_values 1 one (omega arith) (omega (arith, mul-le-mul few one)))

-- ---- the laws: by costs Swing wins only where it does by whole numbers, and where it does by these alone the costs are the same
module _ (m pmc swing : ℕ) (some_pmc : 1 ≤ pmc) (pmc_fits : pmc ≤ most_values) (some_swing : 1 ≤ swing) (swing_fits : swing ≤ most_values) (size : m ≤ most_metadata) where
  pmc-cost : cost m pmc ≡ round binary32 false m pmc
  pmc-cost = cost-is m pmc (omega (arith, size)) pmc_fits some_pmc

  swing-cost : cost (m + 1) swing ≡ round binary32 false (m + 1) swing
  swing-cost = cost-is (m + 1) swing (omega (arith, size)) swing_fits some_swing

  dearer-loses : m * swing ≤ (m + 1) * pmc → won_by_costs m pmc swing ≡ false
  unfolding won_by_costs
  dearer-loses h =
      rw (pmc-cost, swing-cost) (not-above (round binary32 false m pmc) (round binary32 false (m + 1) swing) (is_true _ (round_mono binary32 m pmc (m + 1) swing some_pmc some_swing h)))

  pub still-wins : won_by_costs m pmc swing ≡ true → swing_wins m pmc swing ≡ true
  unfolding swing_wins
  still-wins won = go (ltb ((m + 1) * pmc) (m * swing)) refl
    where
      go : (t : Bool) → ltb ((m + 1) * pmc) (m * swing) ≡ t → t ≡ true
      go true e = refl
      go false e = sym (dearer-loses (ltb-false ((m + 1) * pmc) (m * swing) e)) ∙ won

  pub wins-at-a-tie : 1 ≤ m → swing_wins m pmc swing ≡ true → won_by_costs m pmc swing ≡ false → cost (m + 1) swing ≡ cost m pmc
  unfolding swing_wins won_by_costs Ieee.le
  wins-at-a-tie some wins lost =
      let less : (m + 1) * pmc < m * swing = ltb-true ((m + 1) * pmc) (m * swing) wins in
      let low : Float = round binary32 false (m + 1) swing in
      let high : Float = round binary32 false m pmc in
      let most : Ieee.le low high ≡ true = is_true _ (round_mono binary32 (m + 1) swing m pmc some_swing some_pmc (omega (arith, less))) in
      let tie : Ieee.eq low high ≡ true = or-one (Ieee.lt low high) (Ieee.eq low high) (rw (pmc-cost, swing-cost) at lost) most in
      swing-cost
      ∙ same_number binary32 low high (above_zero (m + 1) swing (omega (arith, some)) (omega (arith, size)) some_swing swing_fits) (above_zero m pmc some (omega (arith, size)) some_pmc pmc_fits)
      (round-fits binary32 false (m + 1) swing) (round-fits binary32 false m pmc) tie
      ∙ sym pmc-cost
