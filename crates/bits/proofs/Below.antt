-- Lists of numbers of at most w digits. Assumes nothing.
use Prim.Native.Nat.{ℕ, zero, suc, ◌^◌, ◌<◌}
use mathlib.Core.List.{List, [], ◌∷◌, ◌++◌}
use lib.ListN.{take, drop, set}
use lib.Pow.{pow_pos}
use Rattle.bits.specs.Bits.{Below}

module _ (w : ℕ) where
  pub below-nil : Below w []
  below-nil i = pow_pos w

  pub below-cons : (v : ℕ) (vs : List ℕ) → v < 2 ^ w → Below w vs → Below w (v ∷ vs)
  below-cons v vs h b zero = h
  below-cons v vs h b (suc i) = b i

  pub below-take : (k : ℕ) (vs : List ℕ) → Below w vs → Below w (take k vs)
  below-take zero vs b i = pow_pos w
  below-take (suc k) [] b i = b i
  below-take (suc k) (v ∷ vs) b zero = b 0
  below-take (suc k) (v ∷ vs) b (suc i) = below-take k vs (λ j. b (suc j)) i

  pub below_set : (vs : List ℕ) (k v : ℕ) → v < 2 ^ w → Below w vs → Below w (set vs k v)
  below_set [] k v h b i = b i
  below_set (u ∷ vs) zero v h b zero = h
  below_set (u ∷ vs) zero v h b (suc i) = b (suc i)
  below_set (u ∷ vs) (suc k) v h b zero = b 0
  below_set (u ∷ vs) (suc k) v h b (suc i) = below_set vs k v h (λ j. b (suc j)) i

  pub below-drop : (k : ℕ) (vs : List ℕ) → Below w vs → Below w (drop k vs)
  below-drop zero vs b i = b i
  below-drop (suc k) [] b i = b i
  below-drop (suc k) (v ∷ vs) b i = below-drop k vs (λ j. b (suc j)) i

  -- one list behind another
  pub below-append : (us vs : List ℕ) → Below w us → Below w vs → Below w (us ++ vs)
  below-append [] vs a b i = b i
  below-append (u ∷ us) vs a b zero = a 0
  below-append (u ∷ us) vs a b (suc i) = below-append us vs (λ j. a (suc j)) b i
