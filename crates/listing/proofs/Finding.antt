-- The kind of a value by the bits ahead, a row by the reading step, and where reading may stand. Assumes nothing.
use mathlib.Core.Path.{◌≡◌, refl, sym, ap, ◌∙◌}
use mathlib.Core.Bool.{Bool, true, false, ◌||◌}
use mathlib.Core.List.{List, [], ◌∷◌}
use Prim.Native.Nat.{ℕ, zero, suc, ◌+◌, ◌-◌, ◌*◌, ◌/◌, ◌%◌, ◌^◌, ◌≤◌, ◌<◌}
use native.Mathlib.Omega.{arith}
use borrow.Author.Tests.{ltb-true, leb-true, lt-ltb, le-leb}
use lib.Dec.{leb, ltb}
use lib.ListN.{length, take}
use lib.Pow.{shr-shr, shr_lt}
use Rattle.bits.specs.Bits.{bit, field, starts}
use Rattle.models.specs.Answers.{answered, refused}
use Rattle.models.specs.Limits.{most_values}
use Rattle.models.specs.Refusals.{fault_of}
use Rattle.models.specs.declared.Refusal.{Refusal}
use Rattle.models.proofs.Judged.{not-answered, not-refused, same_answer, same-fault}
use Rattle.models.proofs.Tests.{and_parts, and_both, or-one}
use Rattle.stream.specs.Format.{window_in, unset, is_raw}
use Rattle.stream.specs.Read.{Step, got, halt, read_word, step_at}
use Rattle.macaque_v.specs.ReadRun.{state_at, ahead, moved_by, next_from}
use Rattle.macaque_v.specs.Inner.ReadRun.{ReadableAt}
use Rattle.macaque_v.specs.declared.read_run.Cursor.{Cursor}
use Rattle.listing.specs.Rows.{listed, kind_read, row_of}
use Rattle.listing.specs.Calls.{may_stand, found_by, row_found}
use Rattle.listing.specs.Inner.Lines.{row_between}
use Rattle.listing.specs.declared.Kind.TheVariants.{Raw, Same, New, Keep}

-- ---- the kind, by the first two bits of a word

module _ (w : ℕ) where
  pub top_small : w < 2 ^ 64 → w / 2 ^ 62 < 4
  top_small h = shr_lt 2 62 h

  first_bit : w / 2 ^ 63 ≡ w / 2 ^ 62 / 2
  first_bit = sym (shr-shr w 62 1)

  pub kind-none : (left : ℕ) → left < 1 → kind_read false (take left (field 64 w)) ≡ Raw
  unfolding kind_read read_word starts
  kind-none zero h = refl
  kind-none (suc m) h = absurd (omega arith)

  pub kind-keep : (left : ℕ) → 1 ≤ left → w / 2 ^ 62 < 2 → kind_read false (take left (field 64 w)) ≡ Keep
  unfolding kind_read read_word starts field
  kind-keep zero h g = absurd (omega arith)
  kind-keep (suc m) h g =
      let e : w / 2 ^ 63 % 2 ≡ 0 = omega (arith, first_bit) in
      ap (λ (d : ℕ). kind_read false (bit d ∷ take m (field 63 w))) e

  module _ (set : 2 ≤ w / 2 ^ 62) (small : w / 2 ^ 62 < 4) where
    begins : w / 2 ^ 63 % 2 ≡ 1
    begins = omega (arith, first_bit)

    pub kind-short : (left : ℕ) → 1 ≤ left → left < 2 → kind_read false (take left (field 64 w)) ≡ Raw
    unfolding kind_read read_word starts field
    kind-short zero h g = absurd (omega arith)
    kind-short (suc zero) h g = ap (λ (d : ℕ). kind_read false (bit d ∷ [])) begins
    kind-short (suc (suc m)) h g = absurd (omega arith)

    kind-two : (left : ℕ) → 2 ≤ left → (d : ℕ) → w / 2 ^ 62 % 2 ≡ d
        → kind_read false (take left (field 64 w)) ≡ kind_read false (true ∷ bit d ∷ [])
    unfolding kind_read read_word starts field
    kind-two zero h d e = absurd (omega arith)
    kind-two (suc zero) h d e = absurd (omega arith)
    kind-two (suc (suc m)) h d e =
        ap (λ (b : ℕ). kind_read false (bit b ∷ bit (w / 2 ^ 62 % 2) ∷ take m (field 62 w))) begins
        ∙ ap (λ (b : ℕ). kind_read false (true ∷ bit b ∷ take m (field 62 w))) e

    pub kind-same : (left : ℕ) → 2 ≤ left → w / 2 ^ 62 ≡ 2 → kind_read false (take left (field 64 w)) ≡ Same
    unfolding kind_read read_word starts
    kind-same left h e = kind-two left h 0 (omega arith)

    pub kind-new : (left : ℕ) → 2 ≤ left → ¬ (w / 2 ^ 62 ≡ 2) → kind_read false (take left (field 64 w)) ≡ New
    unfolding kind_read read_word starts
    kind-new left h e = kind-two left h 1 (omega arith)

-- 45 bits show it
pub kind-of-45 : (raw : Bool) (bs : List Bool) → kind_read raw (take 45 bs) ≡ kind_read raw bs
unfolding kind_read read_word starts
kind-of-45 true bs = refl
kind-of-45 false [] = refl
kind-of-45 false (a ∷ []) = refl
kind-of-45 false (a ∷ b ∷ bs) = refl

-- ---- one value, by the reading step

module _ (bytes : List ℕ) (at : Cursor) where
  abbrev step : Step
  step = step_at listed (state_at at) (ahead bytes at)

  pub found : (to : Cursor) → answered to ≡ next_from true bytes at
      → (at.place ≤ to.place) × (row_found bytes at ≡ answered (record { row = row_between bytes at to; next = to }))
  unfolding row_found
  found to h = go step refl
    where
      go : (q : Step) → step ≡ q → (at.place ≤ to.place) × (found_by at (ahead bytes at) step ≡ answered (record { row = row_between bytes at to; next = to }))
      go (halt n) e = absurd (not-refused (h ∙ ap (moved_by at) e))
      go (got v win used) e =
          let next : Cursor = record { last = v; lead = win.lead; trail = win.trail; place = at.place + used; count = at.count + 1 } in
          let is : to ≡ next = same_answer (h ∙ ap (moved_by at) e) in
          let bits : used ≡ at.place + used - at.place = omega arith in (
            omega (arith, ap (λ (c : Cursor). c.place) is),
            ap (found_by at (ahead bytes at)) e
                ∙ ap (λ (u : ℕ). answered (record { row = row_of (is_raw listed (state_at at)) (ahead bytes at) v win u; next = next })) bits
                ∙ ap (λ (c : Cursor). answered (record { row = row_between bytes at c; next = c })) (sym is),
          )

  pub unfound : (r : Refusal) → refused (fault_of r) ≡ next_from true bytes at → row_found bytes at ≡ refused (fault_of r)
  unfolding row_found
  unfound r h = go step refl
    where
      go : (q : Step) → step ≡ q → found_by at (ahead bytes at) step ≡ refused (fault_of r)
      go (got v win used) e = absurd (not-answered (h ∙ ap (moved_by at) e))
      go (halt n) e = ap (found_by at (ahead bytes at)) e ∙ ap refused (sym (same-fault (h ∙ ap (moved_by at) e)))

-- ---- where reading may stand

module _ (bytes : List ℕ) (at : Cursor) where
  pub stands : may_stand (length bytes) at ≡ true → at.last < 2 ^ 32 → ReadableAt bytes at
  unfolding may_stand
  stands e small =
      let p = (and_parts (leb at.count most_values) _ e).1 in
      let q = and_parts (leb at.place (45 * at.count)) _ p in
      let r = and_parts (leb at.place (8 * length bytes)) _ q.1 in
      record {
        within = leb-true at.place (8 * length bytes) r.0;
        near = omega (arith, leb-true at.place (45 * at.count) q.0);
        small = small;
        held = λ set. ltb-true (at.lead + at.trail) 32 (or-one _ _ set r.1);
      }

  pub stands-back : ReadableAt bytes at → at.place ≤ 45 * at.count → at.count ≤ most_values → may_stand (length bytes) at ≡ true
  unfolding may_stand
  stands-back s near few =
      and_both _ _ (le-leb at.count most_values few)
      (and_both _ _ (le-leb at.place (45 * at.count) near) (and_both _ _ (le-leb at.place (8 * length bytes) s.within) (go (unset (window_in at.lead at.trail)) refl)))
    where
      go : (t : Bool) → unset (window_in at.lead at.trail) ≡ t → (t || ltb (at.lead + at.trail) 32) ≡ true
      go true e = refl
      go false e = lt-ltb (at.lead + at.trail) 32 (s.held e)
