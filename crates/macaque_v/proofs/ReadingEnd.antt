-- The end of a stream in lent bytes: where something is left, and what that makes of the whole reading. Assumes nothing.
use mathlib.Core.Path.{◌≡◌, refl, sym, ap, ◌∙◌, subst}
use mathlib.Core.Bool.{Bool}
use mathlib.Core.List.{List, []}
use mathlib.Core.Option.{Option, none, some}
use Prim.Native.Nat.{ℕ, ◌+◌, ◌-◌, ◌*◌, ◌/◌, ◌%◌, ◌^◌, ◌≤◌, ◌<◌}
use native.Mathlib.Omega.{arith}
use lib.Count.{count_leading_zeros, leading_length, leading_unique}
use lib.ListN.{length, drop, take, length-drop}
use Rattle.bits.specs.Bits.{value, field_at, bits_of}
use Rattle.bits.proofs.Bytes.{length-bits_of}
use Rattle.bits.proofs.Fields.{field_at-lt}
use Rattle.models.specs.Answers.{answered, refused}
use Rattle.models.specs.Refusals.{fault_of}
use Rattle.models.specs.declared.Refusal.{Refusal}
use Rattle.models.specs.declared.Refusal.TheVariants.{Leftover}
use Rattle.models.proofs.Judged.{not-answered, same-fault}
use Rattle.stream.specs.Read.{Reading, done, leftover, ended_by, ended}
use Rattle.stream.proofs.Leftover.{padding-found, bytes-found, nothing-found}
use Rattle.macaque_v.specs.ReadRun.{state_at, ahead, end_said}
use Rattle.macaque_v.specs.Inner.ReadRun.{read_from, Reads, StopsBy}
use Rattle.macaque_v.specs.declared.read_run.Cursor.{Cursor}

-- ---- where something is left

-- the zeros before a number of k digits, and of 64
pub digits : (k v : ℕ) → k ≤ 64 → v < 2 ^ k → count_leading_zeros 64 v ≡ (64 - k) + count_leading_zeros k v
digits k v h small =
    let m = leading_length k v small in
    sym (leading_unique 64 v ((64 - k) + count_leading_zeros k v) m.0 (omega (arith, m.1)) m.2 m.3)

module _ (bytes : List ℕ) (place whole : ℕ) (in-it : place ≤ 8 * length bytes) (is : whole ≡ (place + 7) / 8) where
  abbrev rest : List Bool
  rest = drop place (bits_of bytes)

  abbrev w : ℕ
  w = 8 * whole - place

  long : length rest ≡ 8 * length bytes - place
  long = length-drop place (bits_of bytes) ∙ ap (λ (n : ℕ). n - place) (length-bits_of bytes)

  pad : w ≡ length rest % 8
  pad = omega (arith, long, is)

  padded : (x : ℕ) → x ≡ field_at place w (bits_of bytes) → value (take (length rest % 8) rest) ≡ x
  padded x e = ap (λ (n : ℕ). value (take n rest)) (sym pad) ∙ sym e

  -- a set padding bit
  pub bit-left : (x : ℕ) → x ≡ field_at place w (bits_of bytes) → ¬ (x ≡ 0) → some (8 * whole - (64 - count_leading_zeros 64 x)) ≡ leftover place rest
  bit-left x e set =
      let v : ℕ = value (take (length rest % 8) rest) in
      let small : x < 2 ^ w = subst (λ (n : ℕ). n < 2 ^ w) (sym e) (field_at-lt place w (bits_of bytes)) in
      let m = leading_length w x small in
      let at : 8 * whole - (64 - count_leading_zeros 64 x) ≡ place + count_leading_zeros w x = omega (arith, digits w x (omega (arith, pad)) small, m.1, pad) in
      ap some at
      ∙ ap (λ (n : ℕ). some (place + count_leading_zeros n x)) pad
      ∙ ap (λ (n : ℕ). some (place + count_leading_zeros (length rest % 8) n)) (sym (padded x e))
      ∙ sym (padding-found place rest (λ z. set (sym (padded x e) ∙ z)))

  module _ (x : ℕ) (e : x ≡ field_at place w (bits_of bytes)) (clear : x ≡ 0) where
    -- a further byte
    pub byte_left : whole < length bytes → some (8 * whole) ≡ leftover place rest
    byte_left h =
        let at : 8 * whole ≡ place + length rest % 8 = omega (arith, pad, is) in
        ap some at ∙ sym (bytes-found place rest (padded x e ∙ clear) (omega (arith, long, is)))

    pub none_left : length bytes ≤ whole → none ≡ leftover place rest
    none_left h = sym (nothing-found place rest (padded x e ∙ clear) (omega (arith, long, is)))

-- ---- what the end is said to be

module _ (bytes : List ℕ) (at : Cursor) where
  end_by : (o : Option ℕ) → leftover at.place (ahead bytes at) ≡ o → ended (done [] (state_at at) (ahead bytes at)) ≡ ended_by [] (state_at at) (ahead bytes at) o
  unfolding ended
  end_by o e = ap (ended_by [] (state_at at) (ahead bytes at)) e

  pub ended-right : none ≡ leftover at.place (ahead bytes at) → answered tt ≡ end_said bytes at
  unfolding end_said ended
  ended-right e = sym (rw (end_by none (sym e)))

  pub ended-wrong : (p : ℕ) → some p ≡ leftover at.place (ahead bytes at) → refused (fault_of (Leftover at.count p)) ≡ end_said bytes at
  unfolding end_said ended
  ended-wrong p e = sym (rw (end_by (some p) (sym e)))

-- ---- the whole reading

module _ {first : Bool} {bytes : List ℕ} {from to : Cursor} {n : ℕ} {vs : List ℕ} (R : Reads first bytes from n vs to) where
  pub ends-right : end_said bytes to ≡ answered tt → ended (read_from first bytes from n) ≡ done vs (state_at to) (ahead bytes to)
  unfolding end_said ended
  ends-right e = ap ended R.values ∙ go (leftover to.place (ahead bytes to)) refl
    where
      go : (o : Option ℕ) → leftover to.place (ahead bytes to) ≡ o → ended_by vs (state_at to) (ahead bytes to) o ≡ done vs (state_at to) (ahead bytes to)
      go none k = refl
      go (some p) k = absurd (not-answered (ended-wrong bytes to p (sym k) ∙ e))

  pub ends-wrong : {r : Refusal} → refused (fault_of r) ≡ end_said bytes to → StopsBy (ended (read_from first bytes from n)) r
  unfolding end_said ended
  ends-wrong {r} e = go (leftover to.place (ahead bytes to)) refl
    where
      go : (o : Option ℕ) → leftover to.place (ahead bytes to) ≡ o → StopsBy (ended (read_from first bytes from n)) r
      go none k = absurd (not-answered (e ∙ sym (ended-right bytes to (sym k))))
      go (some p) k =
          record {
            fault = record { no = 8; value = to.count; place = p };
            stops = ap ended R.values ∙ ap (ended_by vs (state_at to) (ahead bytes to)) k;
            numbered = sym (same-fault (e ∙ sym (ended-wrong bytes to p (sym k))));
          }

pub ends-early : {A : Type 0} {q : Reading A} {r : Refusal} → StopsBy q r → StopsBy (ended q) r
unfolding ended
ends-early S = record { fault = S.fault; stops = ap ended S.stops; numbered = S.numbered }
