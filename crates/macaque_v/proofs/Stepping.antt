-- One value more, as the writer's pen works it out, is one step of the theory. Assumes nothing.
use mathlib.Core.Path.{◌≡◌, refl, sym, ap, ap₂, ◌∙◌, subst}
use mathlib.Core.Bool.{Bool, true, false, ◌&&◌}
use Prim.Native.Nat.{ℕ, zero, suc, ◌+◌, ◌^◌, ◌<◌}
use native.Mathlib.Nat.{zero-add}
use native.Mathlib.Omega.{arith}
use borrow.Author.Tests.{ne_eqb}
use lib.Dec.{eqb}
use lib.ListN.{length}
use lib.Ieee.{Float, binary32, add, of_bits}
use Rattle.bits.specs.Bits.{field}
use Rattle.bits.proofs.Fields.{length-field}
use Rattle.stream.specs.Format.{macaque, Window, gathered, raw_next, State, is_raw, bits_for, window_for, window_in}
use Rattle.stream.specs.Write.{kept_one, bits_one, next}
use Rattle.stream.proofs.Writing.{raw-once}
use Rattle.macaque_v.specs.State.{Known, MinMax, min_max_with, gather_sum, gather_known, ends_in, sum_in, mode_of, state_of}
use Rattle.macaque_v.specs.Write.{stream_by, rule_by}
use Rattle.macaque_v.specs.Inner.Write.{state_by, StrokeSays}
use Rattle.macaque_v.specs.declared.MacaqueV.{MacaqueV}
use Rattle.macaque_v.specs.declared.span.Span.{Span}
use Rattle.macaque_v.specs.declared.write.Pen.{Pen}
use Rattle.macaque_v.specs.declared.write.Stroke.{Stroke}
use Rattle.macaque_v.specs.Inner.Span.{MinMaxHeld}
use Rattle.macaque_v.specs.Inner.Total.{added_to}
use Rattle.macaque_v.proofs.Extremes.{span_more}
use Rattle.macaque_v.proofs.Adding.{one-more-added}

-- the next value is stored raw
pub raw-is : (first : Bool) (n : ℕ) → (first && eqb n 0) ≡ raw_next (mode_of first) n
raw-is false n = refl
raw-is true zero = refl
raw-is true (suc n) = let no : ¬ (suc n ≡ 0) = omega arith in ne_eqb (suc n) 0 no

and-true : (b : Bool) → (b && true) ≡ b
and-true true = refl
and-true false = refl

and-false : (a b : Bool) → ((a && false) && b) ≡ (a && false)
and-false true b = refl
and-false false b = refl

-- a loop's i-th value, behind n others
raw_at : (first : Bool) (n i : ℕ) → ((first && eqb n 0) && eqb i 0) ≡ raw_next (mode_of first) (n + i)
raw_at first n i = both n ∙ raw-is first (n + i)
  where
    both : (k : ℕ) → ((first && eqb k 0) && eqb i 0) ≡ (first && eqb (k + i) 0)
    both zero = ap (λ (b : Bool). b && eqb i 0) (and-true first) ∙ ap (λ (k : ℕ). first && eqb k 0) (sym (zero-add i))
    both (suc k) =
        let no : ¬ (suc k ≡ 0) = omega arith in
        let more : ¬ (suc k + i ≡ 0) = omega arith in
        ap (λ (b : Bool). (first && b) && eqb i 0) (ne_eqb (suc k) 0 no) ∙ and-false first (eqb i 0) ∙ ap (λ (b : Bool). first && b) (sym (ne_eqb (suc k + i) 0 more))

-- the first of n values, or none of them
pub raw-first : (first : Bool) (len n : ℕ) → (first && eqb len 0) ≡ true → (i : ℕ) → i < n → eqb i 0 ≡ raw_next (mode_of first) (len + i)
raw-first first len n e i h = ap (λ (b : Bool). b && eqb i 0) (sym e) ∙ raw_at first len i

pub raw-none : (first : Bool) (len n : ℕ) → (first && eqb len 0) ≡ false → (i : ℕ) → i < n → eqb i n ≡ raw_next (mode_of first) (len + i)
raw-none first len n e i h =
    let no : ¬ (i ≡ n) = omega arith in
    ne_eqb i n no ∙ ap (λ (b : Bool). b && eqb i 0) (sym e) ∙ raw_at first len i

-- a raw value enters the least and the greatest as any other; the sum begins with it
pub known_more : (raw : Bool) (e : MinMax) (s : Float) (v : ℕ) → gathered gather_known raw (e, s) v ≡ (min_max_with e v, gathered gather_sum raw s v)
known_more true e s v = refl
known_more false e s v = refl

-- the pen stands in the state s, n values behind the writer m
pub record PenAt (m : MacaqueV) (s : State Known) (n : ℕ) (p : Pen) : Type 0 where
  pub state : s ≡ state_by p s.count s.seen
  pub ends : MinMaxHeld (ends_in (state_of m)) n (ends_in s) p.span p.last
  pub sum : p.sum ≡ added_to (is_raw (stream_by m) s) (sum_in s)

module _ (m : MacaqueV) {s : State Known} {n : ℕ} {p : Pen} (P : PenAt m s n p) (raw : Bool) (same : raw ≡ is_raw (stream_by m) s) (x : ℕ) (r : Stroke) (S : StrokeSays raw m.error_bound p x r) where
  -- the state as the pen has it
  abbrev t : State Known
  t = state_by p s.count s.seen

  abbrev v : ℕ
  v = r.pen.last

  digits-here : field r.width r.bits ≡ bits_one (stream_by m) t v
  digits-here = S.code.digits ∙ ap (λ (b : Bool). bits_for macaque b (window_in p.lead p.trail) p.last v) same

  window-here : window_in r.pen.lead r.pen.trail ≡ window_for macaque (is_raw (stream_by m) t) t.win p.last v
  window-here = S.code.window ∙ ap (λ (b : Bool). window_for macaque b (window_in p.lead p.trail) p.last v) same

  place_here : r.pen.place ≡ p.place + length (bits_one (stream_by m) t v)
  place_here = S.place ∙ ap (λ (k : ℕ). p.place + k) (sym (length-field r.width r.bits) ∙ ap length digits-here)

  -- what is kept, and its bits
  kept-is : v ≡ kept_one (rule_by m) (is_raw (stream_by m) s) s.last x
  kept-is = S.kept ∙ ap₂ (λ (b : Bool) (l : ℕ). kept_one (rule_by m) b l x) same (ap (λ (u : State Known). u.last) (sym P.state))

  pub digits_are : field r.width r.bits ≡ bits_one (stream_by m) s (kept_one (rule_by m) (is_raw (stream_by m) s) s.last x)
  digits_are = digits-here ∙ ap₂ (λ (u : State Known) (z : ℕ). bits_one (stream_by m) u z) (sym P.state) kept-is

  -- what is gathered with it
  abbrev known : Known
  known = gathered gather_known (is_raw (stream_by m) t) s.seen v

  known_is : known ≡ (min_max_with (ends_in s) v, gathered gather_sum (is_raw (stream_by m) t) (sum_in s) v)
  known_is = known_more (is_raw (stream_by m) t) (ends_in s) (sum_in s) v

  -- the sum begins with a raw value, and any other is added to it
  sum-here : r.pen.sum ≡ gathered gather_sum (is_raw (stream_by m) t) (sum_in s) v
  sum-here = S.sum ∙ ap (λ (x : Float). add binary32 x (of_bits binary32 v)) P.sum ∙ one-more-added (is_raw (stream_by m) s) (sum_in s) v

  pub pen-next : v < 2 ^ 32 → PenAt m (next (stream_by m) s (kept_one (rule_by m) (is_raw (stream_by m) s) s.last x)) (n + 1) r.pen
  pen-next fits =
      let here : PenAt m (next (stream_by m) t v) (n + 1) r.pen =
      record {
        state = ap₂ (λ (w : Window) (k : ℕ). record { last = v; win = w; place = k; count = suc s.count; seen = known }) (sym window-here) (sym place_here);
        ends =
            subst (λ (k : Known). MinMaxHeld (ends_in (state_of m)) (n + 1) k.0 r.pen.span v) (sym known_is)
            (subst (λ (z : Span). MinMaxHeld (ends_in (state_of m)) (n + 1) (min_max_with (ends_in s) v) z v) (sym S.span) (span_more P.ends v fits));
        sum = sum-here ∙ sym (ap (λ (k : Known). k.1) known_is) ∙ sym (ap (λ (b : Bool). added_to b known.1) (raw-once (mode_of m.with_first) s.count));
      } in
      subst (λ (z : ℕ). PenAt m (next (stream_by m) s z) (n + 1) r.pen) kept-is
      (subst (λ (u : State Known). PenAt m (next (stream_by m) u v) (n + 1) r.pen) (sym P.state) here)
