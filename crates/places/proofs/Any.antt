-- The reading of a range with any table: how much it reads, what it refuses, and how many values it answers. Assumes nothing.
use mathlib.Core.Path.{◌≡◌, refl, ap, sym, ◌∙◌, subst}
use mathlib.Core.Logic.{◌⊎◌, inl, inr}
use mathlib.Core.Bool.{Bool, true, false, cond, ◌||◌}
use mathlib.Core.List.{List, []}
use mathlib.Core.Option.{Option, none, some}
use Prim.Native.Nat.{ℕ, zero, suc, ◌+◌, ◌-◌, ◌*◌, ◌≤◌, ◌<◌}
use native.Mathlib.Nat.{eq-or-lt_of_le}
use native.Mathlib.Omega.{arith}
use borrow.Author.Tests.{eq-eqb, ne_eqb}
use lib.Dec.{eqb, leb, ltb}
use lib.ListN.{length, drop, get_elem?, length-drop}
use Rattle.bits.specs.Bits.{field_at}
use Rattle.models.specs.Answers.{answered}
use Rattle.stream.specs.Format.{Format, Kind, same, keep, new, Window, unset, span, Mode, with_first, without_first, raw_next, Stream, State, is_raw, advance}
use Rattle.stream.specs.Read.{Step, got, halt, need, read_raw, read_word, meaningful, count_of, window_read, read_header, read_body, read_one, Reading, done, stopped, push, follow, step_at, read_n}
use Rattle.stream.specs.Calls.{fault_at}
use Rattle.places.specs.Table.{spacing, Entry, no_match, entry_before, reads_from, reads_in_all, MetIn, RangeSays, state_from, may_start, without, range_from, range_at, read_range}

-- the first value that is read is p or one of the 63 before it, and the last is q − 1
pub few-before : (p q : ℕ) → p ≤ q → (reads_from p ≤ p) × (p ≤ reads_from p + 63) × (reads_from p + reads_in_all p q ≡ q)
few-before p q le = (omega arith, omega arith, omega arith)

-- "With a first value, entry 0 and no other begins at the raw value."
pub raw-at-entry : {A : Type 0} (S : Stream A) (i : ℕ) (e : Entry) → is_raw S (state_from S (spacing * i) e) ≡ raw_next S.mode i
raw-at-entry S i e = go S.mode i
  where
    go : (m : Mode) (i : ℕ) → raw_next m (spacing * i) ≡ raw_next m i
    go without_first i = refl
    go with_first zero = refl
    go with_first (suc i) =
        let up : spacing * suc i ≡ suc (spacing - 1 + spacing * i) = omega arith in
        ap (raw_next with_first) up

module _ {A : Type 0} (S : Stream A) (bs : List Bool) (table : List Entry) where
  pub range-empty : (p : ℕ) → read_range S bs table p p ≡ answered []
  unfolding read_range
  range-empty p = ap (λ (b : Bool). cond b (answered []) (range_at S bs p p (get_elem? table (entry_before p)))) (eq-eqb p p refl)

  module _ (p q : ℕ) (lt : p < q) where
    some-values : read_range S bs table p q ≡ range_at S bs p q (get_elem? table (entry_before p))
    unfolding read_range
    some-values =
        let apart : ¬ (p ≡ q) = omega arith in
        ap (λ (b : Bool). cond b (answered []) (range_at S bs p q (get_elem? table (entry_before p)))) (ne_eqb p q apart)

    pub range-turned-down : may_start S.format (length bs) (get_elem? table (entry_before p)) ≡ false → read_range S bs table p q ≡ no_match
    range-turned-down e = some-values ∙ ap (λ (b : Bool). cond b (range_from S bs p q (get_elem? table (entry_before p))) no_match) e

    pub range-reads : (e : Entry) → get_elem? table (entry_before p) ≡ some e → may_start S.format (length bs) (some e) ≡ true
        → read_range S bs table p q ≡ range_from S bs p q (some e)
    range-reads e at may = some-values ∙ ap (range_at S bs p q) at ∙ ap (λ (b : Bool). cond b (range_from S bs p q (some e)) no_match) may

-- ---- what it refuses: 13, or 5 to 7 at one of the values that it reads

abbrev FiveToSeven : Step → Type 0
FiveToSeven (got v win u) = Unit
FiveToSeven (halt n) = (5 ≤ n) × (n ≤ 7)

need-number : (n : ℕ) (bs : List Bool) (q : Step) → FiveToSeven q → FiveToSeven (need n bs q)
need-number n bs q h = go (leb n (length bs))
  where
    go : (b : Bool) → FiveToSeven (cond b q (halt 5))
    go true = h
    go false = (omega arith, omega arith)

unless : (b : Bool) (n : ℕ) (q : Step) → 5 ≤ n → n ≤ 7 → FiveToSeven q → FiveToSeven (cond b (halt n) q)
unless true n q lo hi h = (lo, hi)
unless false n q lo hi h = h

meaningful-number : (F : Format) (l : ℕ) (win : Window) (h m : ℕ) (bs : List Bool) → FiveToSeven (meaningful F l win h m bs)
meaningful-number F l win h m bs = need-number (h + m) bs _ tt

body-number : (F : Format) (win : Window) (l : ℕ) (bs : List Bool) (k : Option Kind) → FiveToSeven (read_body F win l bs k)
unfolding read_body
body-number F win l bs none = (omega arith, omega arith)
body-number F win l bs (some same) = tt
body-number F win l bs (some keep) = unless (unset win) 6 _ (omega arith) (omega arith) (meaningful-number F l win (length F.keep_word) (span F win) bs)
body-number F win l bs (some new) =
    let w : ℕ = length F.new_word in
    let h : ℕ = w + F.lead_bits + F.count_bits in
    let a : ℕ = field_at w F.lead_bits bs in
    let m : ℕ = count_of F (field_at (w + F.lead_bits) F.count_bits bs) in
    need-number h bs (read_header F l a m h bs)
    (unless (eqb m 0 || ltb F.width (a + m)) 7 _ (omega arith) (omega arith) (meaningful-number F l (window_read F a m) h m bs))

step-number : (F : Format) (raw : Bool) (win : Window) (l : ℕ) (bs : List Bool) → FiveToSeven (read_one F raw win l bs)
unfolding read_one read_raw
step-number F true win l bs = need-number F.width bs _ tt
step-number F false win l bs = body-number F win l bs (read_word F bs)

abbrev pub ReadsIn : {A : Type 0} → ℕ → ℕ → Reading A → Type 0
ReadsIn m n (done vs t r) = length vs ≡ n
ReadsIn m n (stopped f) = MetIn m n (fault_at f)

reads-push : {A : Type 0} (m n v : ℕ) (q : Reading A) → ReadsIn (suc m) n q → ReadsIn m (suc n) (push v q)
reads-push m n v (done vs t r) e = ap suc e
reads-push m n v (stopped f) M = record { low = M.low; high = M.high; from = omega (arith, M.from); below = omega (arith, M.below) }

pub reads_in : {A : Type 0} (S : Stream A) (n : ℕ) (s : State A) (bs : List Bool) → ReadsIn s.count n (read_n S n s bs)
unfolding read_n
reads_in S zero s bs = refl
reads_in {A} S (suc n) s bs = go (step_at S s bs) (step-number S.format (is_raw S s) s.win s.last bs) (λ s' bs'. reads_in S n s' bs')
  where
    go : (q : Step) → FiveToSeven q → ((s' : State A) (bs' : List Bool) → ReadsIn s'.count n (read_n S n s' bs'))
        → ReadsIn s.count (suc n) (follow s q (λ v win used. push v (read_n S n (advance S s v win used) (drop used bs))))
    go (got v win u) h ih = reads-push s.count n v (read_n S n (advance S s v win u) (drop u bs)) (ih (advance S s v win u) (drop u bs))
    go (halt m) h ih = record { low = h.0; high = h.1; from = omega arith; below = omega arith }

pub range-says : {A : Type 0} (S : Stream A) (bs : List Bool) (table : List Entry) (p q : ℕ) → p ≤ q → RangeSays p q (read_range S bs table p q)
range-says {A} S bs table p q le = go (eq-or-lt_of_le le)
  where
    says : (x : Reading A) → ReadsIn (reads_from p) (reads_in_all p q) x → RangeSays p q (without (p - reads_from p) x)
    says (done vs t r) e = omega (arith, length-drop (p - reads_from p) vs)
    says (stopped f) M = inr M

    at : (e : Option Entry) (b : Bool) → RangeSays p q (cond b (range_from S bs p q e) no_match)
    at none true = inl refl
    at (some e) true = says (read_n S (reads_in_all p q) (state_from S (reads_from p) e) (drop e.place bs)) (reads_in S (reads_in_all p q) (state_from S (reads_from p) e) (drop e.place bs))
    at e false = inl refl

    go : (p ≡ q) ⊎ (p < q) → RangeSays p q (read_range S bs table p q)
    go (inl e) =
        let z : 0 ≡ q - p = omega arith in
        subst (RangeSays p q) (sym (ap (read_range S bs table p) (sym e) ∙ range-empty S bs table p)) z
    go (inr lt) =
        let e : Option Entry = get_elem? table (entry_before p) in
        subst (RangeSays p q) (sym (some-values S bs table p q lt)) (at e (may_start S.format (length bs) e))
