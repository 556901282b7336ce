-- What is left behind a stream's last value, as code finds it: nothing, or the place of the first set padding bit, else that of the first bit of the
-- first further byte. Assumes nothing.
use mathlib.Core.Path.{◌≡◌, refl, sym, ap, ◌∙◌}
use mathlib.Core.Bool.{Bool, true, false, cond}
use mathlib.Core.List.{List, [], ◌∷◌, ◌++◌}
use mathlib.Core.Option.{Option, none, some}
use Prim.Native.Nat.{ℕ, suc, ◌+◌, ◌*◌, ◌%◌, ◌^◌, ◌≤◌, ◌<◌}
use native.Mathlib.Nat.{pow-suc}
use native.Mathlib.Omega.{arith}
use borrow.Author.Tests.{lt-ltb, le-ltb, ltb-true}
use lib.Count.{count_leading_zeros, leading_length, leading_unique}
use lib.Dec.{ltb}
use lib.ListN.{length, length-append}
use lib.Pow.{pow_pos}
use lib.Seq.{length-take-le, take_at, take_all}
use Rattle.bits.specs.Bits.{value}
use Rattle.bits.proofs.Fields.{value-lt}
use Rattle.models.proofs.Tests.{never}
use Rattle.stream.specs.Format.{State}
use Rattle.stream.specs.Read.{done, stopped, first_set, padding_of, or_further, leftover, ended_by, ended}

-- ---- a set bit

none-set : (p : ℕ) (bs : List Bool) → value bs ≡ 0 → first_set p bs ≡ none
unfolding first_set value
none-set p [] e = refl
none-set p (true ∷ bs) e = absurd (omega (arith, pow_pos (length bs)))
none-set p (false ∷ bs) e = none-set (suc p) bs (omega arith)

-- the first set bit stands behind the leading zeros
some-set : (p : ℕ) (bs : List Bool) → ¬ (value bs ≡ 0) → first_set p bs ≡ some (p + count_leading_zeros (length bs) (value bs))
unfolding first_set value
some-set p [] e = absurd (e refl)
some-set p (true ∷ bs) e =
    let v : ℕ = 1 * 2 ^ length bs + value bs in
    let z : 0 ≡ count_leading_zeros (suc (length bs)) v =
    leading_unique (suc (length bs)) v 0 (suc (length bs)) (omega arith) (omega (arith, pow-suc 2 (length bs), value-lt bs)) (omega (arith, pow-suc 2 (length bs))) in
    let q : p ≡ p + count_leading_zeros (suc (length bs)) v = omega arith in
    ap some q
some-set p (false ∷ bs) e =
    let v : ℕ = 0 * 2 ^ length bs + value bs in
    let same : v ≡ value bs = omega arith in
    let m = leading_length (length bs) (value bs) (value-lt bs) in
    let z : suc (count_leading_zeros (length bs) (value bs)) ≡ count_leading_zeros (suc (length bs)) v =
    leading_unique (suc (length bs)) v (suc (count_leading_zeros (length bs) (value bs))) m.0 (omega (arith, m.1)) (omega (arith, m.2)) (omega (arith, m.3)) in
    let q : suc p + count_leading_zeros (length bs) (value bs) ≡ p + count_leading_zeros (suc (length bs)) v = omega arith in
    some-set (suc p) bs (λ u. e (omega arith)) ∙ ap some q

-- ---- what stands behind a place p

module _ (p : ℕ) (rest : List Bool) where
  -- a set padding bit
  pub padding-found : ¬ (value (padding_of rest) ≡ 0) → leftover p rest ≡ some (p + count_leading_zeros (length rest % 8) (value (padding_of rest)))
  unfolding leftover
  padding-found e =
      ap (or_further p (length rest)) (some-set p (padding_of rest) e)
      ∙ ap (λ (n : ℕ). some (p + count_leading_zeros n (value (padding_of rest)))) (length-take-le (length rest % 8) rest (omega arith))

  module _ (e : value (padding_of rest) ≡ 0) where
    no-padding : leftover p rest ≡ cond (ltb (length rest) 8) none (some (p + length rest % 8))
    unfolding leftover
    no-padding = ap (or_further p (length rest)) (none-set p (padding_of rest) e)

    -- no set padding bit, and a further byte
    pub bytes-found : 8 ≤ length rest → leftover p rest ≡ some (p + length rest % 8)
    bytes-found h = no-padding ∙ ap (λ (b : Bool). cond b none (some (p + length rest % 8))) (le-ltb (length rest) 8 h)

    -- what stands there is less than a byte, of zeros
    pub nothing-found : length rest < 8 → leftover p rest ≡ none
    nothing-found h = no-padding ∙ ap (λ (b : Bool). cond b none (some (p + length rest % 8))) (lt-ltb (length rest) 8 h)

-- ---- and from what is found

-- a set bit stands at the place or behind it
set-behind : (p : ℕ) (bs : List Bool) (q : ℕ) → first_set p bs ≡ some q → p ≤ q
unfolding first_set
set-behind p [] q e = absurd (never (cc))
set-behind p (true ∷ bs) q e = let at : p ≡ q = cc in omega arith
set-behind p (false ∷ bs) q e = omega (arith, set-behind (suc p) bs q e)

module _ (p : ℕ) (rest : List Bool) where
  -- so does whatever is left
  pub left_behind : (q : ℕ) → leftover p rest ≡ some q → p ≤ q
  unfolding leftover
  left_behind q e = go (first_set p (padding_of rest)) refl e
    where
      further : (b : Bool) → cond b none (some (p + length rest % 8)) ≡ some q → p ≤ q
      further true e = absurd (never (cc))
      further false e = let at : p + length rest % 8 ≡ q = cc in omega arith

      go : (o : Option ℕ) → first_set p (padding_of rest) ≡ o → or_further p (length rest) o ≡ some q → p ≤ q
      go (some r) found e = set-behind p (padding_of rest) q (found ∙ e)
      go none found e = further (ltb (length rest) 8) e

  -- where nothing is left, no padding bit is set and there is no further byte
  pub nothing-behind : leftover p rest ≡ none → (first_set p (padding_of rest) ≡ none) × (length rest < 8)
  unfolding leftover
  nothing-behind e = go (first_set p (padding_of rest)) refl e
    where
      further : (b : Bool) → ltb (length rest) 8 ≡ b → cond b none (some (p + length rest % 8)) ≡ none → length rest < 8
      further true t e = ltb-true (length rest) 8 t
      further false t e = absurd (never (cc))

      go : (o : Option ℕ) → first_set p (padding_of rest) ≡ o → or_further p (length rest) o ≡ none → (first_set p (padding_of rest) ≡ none) × (length rest < 8)
      go (some r) found e = absurd (never (cc))
      go none found e = (found, further (ltb (length rest) 8) refl e)

  -- and whole bytes behind it are left, from their first bit on
  pub bytes-behind : leftover p rest ≡ none → (more : List Bool) → length more % 8 ≡ 0 → 0 < length more → leftover p (rest ++ more) ≡ some (p + length rest)
  unfolding leftover
  bytes-behind e more whole any =
      let n = nothing-behind e in
      let long : length (rest ++ more) ≡ length rest + length more = length-append rest more in
      let rem : length (rest ++ more) % 8 ≡ length rest = omega (arith, n.1) in
      let pad : padding_of (rest ++ more) ≡ padding_of rest =
      take_at rest more (length (rest ++ more) % 8) (sym rem) ∙ sym (take_all (length rest % 8) rest (omega (arith, n.1))) in
      ap (λ (z : List Bool). or_further p (length (rest ++ more)) (first_set p z)) pad
      ∙ ap (or_further p (length (rest ++ more))) n.0
      ∙ ap (λ (b : Bool). cond b none (some (p + length (rest ++ more) % 8))) (le-ltb (length (rest ++ more)) 8 (omega arith))
      ∙ ap (λ (k : ℕ). some (p + k)) rem

-- ---- and what that makes of a stream whose values vs were read, t the state behind them: "8 comes last"

module _ {A : Type 0} (vs : List ℕ) (t : State A) (rest : List Bool) where
  -- a set padding bit is 8 at its place
  pub padding-left : ¬ (value (padding_of rest) ≡ 0)
      → ended (done vs t rest)
      ≡ stopped (record { no = 8; value = t.count; place = t.place + count_leading_zeros (length rest % 8) (value (padding_of rest)) })
  unfolding ended
  padding-left e = ap (ended_by vs t rest) (padding-found t.place rest e)

  module _ (e : value (padding_of rest) ≡ 0) where
    -- no set padding bit, and a further byte: 8 at its first bit
    pub bytes_left : 8 ≤ length rest → ended (done vs t rest) ≡ stopped (record { no = 8; value = t.count; place = t.place + length rest % 8 })
    unfolding ended
    bytes_left h = ap (ended_by vs t rest) (bytes-found t.place rest e h)

    pub nothing_left : length rest < 8 → ended (done vs t rest) ≡ done vs t rest
    unfolding ended
    nothing_left h = ap (ended_by vs t rest) (nothing-found t.place rest e h)

  -- where it is accepted, nothing was left
  pub accepted-none : (us : List ℕ) (u : State A) (r : List Bool) → ended (done vs t rest) ≡ done us u r → leftover t.place rest ≡ none
  unfolding ended
  accepted-none us u r h = go (leftover t.place rest) h
    where
      go : (o : Option ℕ) → ended_by vs t rest o ≡ done us u r → o ≡ none
      go none e = refl
      go (some q) e = absurd (never (cc))
