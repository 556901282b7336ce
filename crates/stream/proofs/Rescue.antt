-- Rescue, in bits: what it keeps, in terms of reading n values; of the first bytes of a stream that reading accepts it keeps the values that end within
-- them, and meets no damage; and on a whole stream it is reopening at the count. Assumes nothing.
use mathlib.Core.Path.{◌≡◌, refl, sym, ap, ◌∙◌, subst}
use mathlib.Core.Logic.{◌⊎◌, inl, inr, ⊎_elim}
use mathlib.Core.Bool.{Bool, true, false, cond}
use mathlib.Core.List.{List, [], ◌++◌, append-nil}
use Prim.Native.Nat.{ℕ, zero, suc, ◌+◌, ◌-◌, ◌*◌, ◌^◌, ◌≤◌, ◌<◌}
use native.Mathlib.Nat.{eq-or-lt_of_le}
use native.Mathlib.Omega.{arith}
use borrow.Author.Tests.{eqb-true, eqb-false, ne_eqb}
use lib.Dec.{eqb}
use lib.ListN.{length, take, drop, take-append-drop}
use lib.Seq.{take-append-le}
use Rattle.bits.specs.Bits.{bits_of}
use Rattle.bits.proofs.Bytes.{bits-append, bits-front}
use Rattle.models.proofs.Tests.{never}
use Rattle.stream.specs.Format.{Stream, State, fresh, is_raw, advance}
use Rattle.stream.specs.Read.{Step, got, halt, StreamRefusal, Reading, done, stopped, push, follow, step_at, read_n, ended, read_all, reopened, unopened, state_read, checked, reopen}
use Rattle.stream.specs.Rescue.{ends_before, follow_whole, read_whole, rescue}
use Rattle.stream.specs.Rescued.{ReopensWhole}
use Rattle.stream.specs.Needs.{Good}
use Rattle.stream.proofs.Reading.{prepend, prepend-nil, push-prepend}
use Rattle.stream.proofs.Reopen.{ended-inv, any-opened}
use Rattle.stream.proofs.CutValue.{Numbered, numbered-one}
use Rattle.stream.proofs.Broken.{Halted, CountedOf, counted, stops-there, more-behind, place-within, only-by-5, never-before-the-damage}

-- what is answered: values were read, and there are as many as the limit, or the bits end inside the next one; or it is what reading refuses, and not with 5
pub record Arrived {A : Type 0} (S : Stream A) (n : ℕ) (s : State A) (bs : List Bool) (vs : List ℕ) (t : State A) (r : List Bool) : Type 0 where
  pub few : length vs ≤ n
  pub reads : read_n S (length vs) s bs ≡ done vs t r
  pub ends : (length vs ≡ n) ⊎ (step_at S t r ≡ halt 5)
  pub counts : t.count ≡ s.count + length vs

pub record Damaged {A : Type 0} (S : Stream A) (n : ℕ) (s : State A) (bs : List Bool) (f : StreamRefusal) : Type 0 where
  pub reads : read_n S n s bs ≡ stopped f
  pub other : (f.no ≡ 6) ⊎ (f.no ≡ 7)

abbrev pub ArrivedOf : {A : Type 0} → Stream A → ℕ → State A → List Bool → Reading A → Type 0
ArrivedOf S n s bs (done vs t r) = Arrived S n s bs vs t r
ArrivedOf S n s bs (stopped f) = Damaged S n s bs f

abbrev then_whole : {A : Type 0} → Stream A → ℕ → Reading A → Reading A
then_whole S j (done us s r) = prepend us (read_whole S j s r)
then_whole S j (stopped f) = stopped f

6-or-7 : (n : ℕ) → 5 ≤ n → n ≤ 7 → ¬ (n ≡ 5) → (n ≡ 6) ⊎ (n ≡ 7)
6-or-7 n low high other = ⊎_elim (λ (e : n ≡ 7). inr e) (λ (lt : n < 7). inl (omega arith)) (eq-or-lt_of_le high)

module _ {A : Type 0} (S : Stream A) where
  -- ---- k values were read: behind them come those of the next j that arrived whole

  whole-more : (k j : ℕ) (s : State A) (bs : List Bool) (vs : List ℕ) (t : State A) (r : List Bool) → read_n S k s bs ≡ done vs t r
      → read_whole S (k + j) s bs ≡ prepend vs (read_whole S j t r)
  unfolding read_whole read_n
  whole-more zero j s bs vs t r h =
      let none : 0 + j ≡ j = omega arith in
      ap (λ (n : ℕ). read_whole S n s bs) none ∙ prepend-nil (read_whole S j s bs) ∙ ap (then_whole S j) h
  whole-more (suc k) j s bs vs t r h =
      let one : suc k + j ≡ suc (k + j) = omega arith in
      ap (λ (n : ℕ). read_whole S n s bs) one ∙ go (step_at S s bs) h (λ s' bs' us t' r' e. whole-more k j s' bs' us t' r' e)
    where
      behind : (v : ℕ) (s' : State A) (bs' : List Bool)
          → ((us : List ℕ) (t' : State A) (r' : List Bool) → read_n S k s' bs' ≡ done us t' r' → read_whole S (k + j) s' bs' ≡ prepend us (read_whole S j t' r'))
          → (q : Reading A) → read_n S k s' bs' ≡ q → push v q ≡ done vs t r → push v (read_whole S (k + j) s' bs') ≡ prepend vs (read_whole S j t r)
      behind v s' bs' ih (done us t' r') e i = ap (push v) (ih us t' r' e) ∙ push-prepend v us (read_whole S j t' r') ∙ ap (then_whole S j) i
      behind v s' bs' ih (stopped f) e i = absurd (never (cc))

      go : (q : Step) → follow s q (λ v win used. push v (read_n S k (advance S s v win used) (drop used bs))) ≡ done vs t r
          → ((s' : State A) (bs' : List Bool) (us : List ℕ) (t' : State A) (r' : List Bool) → read_n S k s' bs' ≡ done us t' r'
          → read_whole S (k + j) s' bs' ≡ prepend us (read_whole S j t' r'))
          → follow_whole s bs q (λ v win used. push v (read_whole S (k + j) (advance S s v win used) (drop used bs))) ≡ prepend vs (read_whole S j t r)
      go (got v w u) i ih = behind v (advance S s v w u) (drop u bs) (ih (advance S s v w u) (drop u bs)) (read_n S k (advance S s v w u) (drop u bs)) refl i
      go (halt m) i ih = absurd (never (cc))

  -- as many as the limit
  pub whole-full : (n : ℕ) (s : State A) (bs : List Bool) (vs : List ℕ) (t : State A) (r : List Bool) → read_n S n s bs ≡ done vs t r
      → read_whole S n s bs ≡ done vs t r
  unfolding read_whole
  whole-full n s bs vs t r h =
      let all : n ≡ n + 0 = omega arith in
      ap (λ (i : ℕ). read_whole S i s bs) all ∙ whole-more n 0 s bs vs t r h ∙ ap (λ (z : List ℕ). done z t r) (append-nil vs)

  -- a value that is refused, behind k others
  at-halt : (k n : ℕ) (s : State A) (bs : List Bool) (vs : List ℕ) (t : State A) (r : List Bool) (m : ℕ) → read_n S k s bs ≡ done vs t r → step_at S t r ≡ halt m → k < n
      → read_whole S n s bs ≡ prepend vs (ends_before t r m)
  unfolding read_whole
  at-halt k n s bs vs t r m h e lt =
      let up : n ≡ k + suc (n - suc k) = omega arith in
      ap (λ (i : ℕ). read_whole S i s bs) up ∙ whole-more k (suc (n - suc k)) s bs vs t r h
      ∙ ap (λ (q : Step). prepend vs (follow_whole t r q (λ v win used. push v (read_whole S (n - suc k) (advance S t v win used) (drop used r))))) e

  -- the bits end inside the next
  pub whole-cut : (k n : ℕ) (s : State A) (bs : List Bool) (vs : List ℕ) (t : State A) (r : List Bool) → read_n S k s bs ≡ done vs t r → step_at S t r ≡ halt 5 → k ≤ n
      → read_whole S n s bs ≡ done vs t r
  whole-cut k n s bs vs t r h e le = ⊎_elim
      (λ (is : k ≡ n). whole-full n s bs vs t r (ap (λ (i : ℕ). read_n S i s bs) (sym is) ∙ h))
      (λ (lt : k < n). at-halt k n s bs vs t r 5 h e lt ∙ ap (λ (z : List ℕ). done z t r) (append-nil vs))
      (eq-or-lt_of_le le)

  -- reading n values stops: at damage, or where the bits end
  module _ (n : ℕ) (s : State A) (bs : List Bool) (f : StreamRefusal) (e : read_n S n s bs ≡ stopped f) where
    halted : Halted S n s bs f
    halted = subst (CountedOf S n s bs) e (counted S n s bs)

    -- it is one of the n
    pub told_below : f.value < s.count + n
    told_below = let H = halted in omega (arith, H.told, H.counted, H.wanted)

    pub whole-damaged : ¬ (f.no ≡ 5) → read_whole S n s bs ≡ stopped f
    whole-damaged other =
        let H = halted in
        let t : State A = H.state in
        at-halt H.number n s bs H.values t H.rest f.no H.reads H.halts H.wanted
        ∙ ap (λ (b : Bool). prepend H.values (cond b (done [] t H.rest) (stopped (record { no = f.no; value = t.count; place = t.place })))) (ne_eqb f.no 5 other)
        ∙ sym (stops-there S H.number n s bs H.values t H.rest f.no H.reads H.halts H.wanted) ∙ e

    module _ (five : f.no ≡ 5) where
      ends_there : step_at S halted.state halted.rest ≡ halt 5
      ends_there = halted.halts ∙ ap halt five

      whole-early : read_whole S n s bs ≡ done halted.values halted.state halted.rest
      whole-early =
          let H = halted in
          whole-cut H.number n s bs H.values H.state H.rest H.reads ends_there (omega (arith, H.wanted))

    -- so many values stand before it as the refusal says
    module _ (k : ℕ) (is : s.count + k ≡ f.value) where
      before : read_n S k s bs ≡ done halted.values halted.state halted.rest
      before =
          let H = halted in
          let same : k ≡ H.number = omega (arith, H.told, H.counted) in
          ap (λ (i : ℕ). read_n S i s bs) same ∙ H.reads

      pub whole_before : f.no ≡ 5 → (vs : List ℕ) (t : State A) (r : List Bool) → read_n S k s bs ≡ done vs t r → read_whole S n s bs ≡ done vs t r
      whole_before five vs t r h = whole-early five ∙ sym before ∙ h

      pub never-refused-before : (g : StreamRefusal) → read_n S k s bs ≡ stopped g → ⊥
      never-refused-before g h = let z = before in never (cc h)

  pub arrived : (n : ℕ) (s : State A) (bs : List Bool) → ArrivedOf S n s bs (read_whole S n s bs)
  arrived n s bs = go (read_n S n s bs) refl (counted S n s bs)
    where
      go : (q : Reading A) → read_n S n s bs ≡ q → CountedOf S n s bs q → ArrivedOf S n s bs (read_whole S n s bs)
      go (done vs t r) e c =
          subst (ArrivedOf S n s bs) (sym (whole-full n s bs vs t r e))
          (record { few = omega (arith, c.0); reads = ap (λ (i : ℕ). read_n S i s bs) c.0 ∙ e; ends = inl c.0; counts = omega (arith, c.0, c.1) })
      go (stopped f) e H' = by (eqb f.no 5) refl
        where
          H : Halted S n s bs f
          H = halted n s bs f e

          by : (b : Bool) → eqb f.no 5 ≡ b → ArrivedOf S n s bs (read_whole S n s bs)
          by true y =
              let five : f.no ≡ 5 = eqb-true f.no 5 y in
              subst (ArrivedOf S n s bs) (sym (whole-early n s bs f e five))
              (record {
                few = omega (arith, H.long, H.wanted);
                reads = ap (λ (i : ℕ). read_n S i s bs) H.long ∙ H.reads;
                ends = inr (ends_there n s bs f e five);
                counts = omega (arith, H.counted, H.long);
              })
          by false y =
              let t : State A = H.state in
              let no = subst Numbered H.halts (numbered-one S.format t.win t.last H.rest (is_raw S t)) in
              let other : ¬ (f.no ≡ 5) = eqb-false f.no 5 y in
              subst (ArrivedOf S n s bs) (sym (whole-damaged n s bs f e other)) (record { reads = e; other = 6-or-7 f.no no.0 no.1 other })

  -- what it refuses: a reading of so many values refuses the same, and it is 6 or 7
  pub damaged : (n : ℕ) (s : State A) (bs : List Bool) (f : StreamRefusal) → rescue S n s bs ≡ unopened f → Damaged S n s bs f
  damaged n s bs f h = go (read_whole S n s bs) (arrived n s bs) h
    where
      go : (q : Reading A) → ArrivedOf S n s bs q → state_read q ≡ unopened f → Damaged S n s bs f
      go (stopped g) d e = subst (Damaged S n s bs) (cc) d
      go (done vs t r) a e = absurd (never (cc))

-- ---- an accepted stream, whole or its first j bytes

module _ {A : Type 0} (S : Stream A) (good : Good S.format) (l : ℕ) (hl : l < 2 ^ S.format.width)
    (n : ℕ) (all us : List ℕ) (u : State A) (x : List Bool) (acc : read_all S n (fresh S l) (bits_of all) ≡ done us u x) where
  abbrev f : State A
  f = fresh S l

  values-there : read_n S n f (bits_of all) ≡ done us u x
  values-there = ended-inv (read_n S n f (bits_of all)) us u x acc

  -- whole: reopening at its count
  pub rescue-whole : rescue S n f (bits_of all) ≡ reopen S n n f (bits_of all)
  unfolding reopen
  rescue-whole =
      ap state_read (whole-full S n f (bits_of all) us u x values-there ∙ sym values-there)
      ∙ sym (ap (λ (z : Reading A). checked z (state_read (read_n S n f (bits_of all)))) acc)

  pub cut_off : (j : ℕ) → j ≤ length all → ReopensWhole S l n all j
  unfolding ended reopen
  cut_off j le = go (read_n S n f p) refl (counted S n f p)
    where
      p : List Bool
      p = bits_of (take j all)

      q : List Bool
      q = bits_of (drop j all)

      parts : p ++ q ≡ bits_of all
      parts = sym (bits-append (take j all) (drop j all)) ∙ ap bits_of (take-append-drop j all)

      long : length p ≡ 8 * j
      long = bits-front j all le

      -- k values that were read in the first bytes are the first of all
      opens_at : (k : ℕ) (vs : List ℕ) (t : State A) (r : List Bool) → read_n S k f p ≡ done vs t r → reopen S n k f (bits_of all) ≡ reopened t
      opens_at k vs t r e =
          ap (λ (z : Reading A). checked z (state_read (read_n S k f (bits_of all)))) acc
          ∙ ap (λ (z : List Bool). state_read (read_n S k f z)) (sym parts) ∙ ap state_read (more-behind S good l hl k p vs t r e q)

      go : (z : Reading A) → read_n S n f p ≡ z → CountedOf S n f p z → ReopensWhole S l n all j
      go (done vs t r) e c =
          record {
            number = n;
            state = t;
            few = omega arith;
            answers = ap state_read (whole-full S n f p vs t r e);
            opens = opens_at n vs t r e;
            counted = omega (arith, c.1);
            here = omega (arith, place-within S good l hl n p vs t r e, long);
            most = λ k k≤n m op at. k≤n;
            any_limit = λ lt i i≥n. absurd (omega arith);
          }
      go (stopped g) e H =
          let t : State A = H.state in
          let five : g.no ≡ 5 = only-by-5 S good l hl n p q us u x (ap (read_n S n f) parts ∙ values-there) g H in
          let halts : step_at S t H.rest ≡ halt 5 = H.halts ∙ ap halt five in
          let finds : (i : ℕ) → H.number ≤ i → rescue S i f p ≡ reopened t =
          λ i i≥k. ap state_read (whole-cut S H.number i f p H.values t H.rest H.reads halts i≥k) in
          record {
            number = H.number;
            state = t;
            few = omega (arith, H.wanted);
            answers = finds n (omega (arith, H.wanted));
            opens = opens_at H.number H.values t H.rest H.reads;
            counted = omega (arith, H.counted);
            here = omega (arith, place-within S good l hl H.number p H.values t H.rest H.reads, long);
            any_limit = λ lt i i≥k. finds i i≥k;
            most = λ k k≤n m op at.
                let o = any-opened S good l hl n k k≤n (bits_of all) us u x acc in
                let is : o.state.place ≡ m.place = cc o.opens in
                let same : take (8 * j) p ≡ take (8 * j) (bits_of all) = sym (take-append-le (8 * j) p q (omega (arith, long))) ∙ ap (take (8 * j)) parts in
                let told : k ≤ g.value =
                (never-before-the-damage S good l hl (8 * j) (bits_of all) p same k (take k us) o.state o.rest o.reads (omega arith) n k≤n g (ap ended e)).0 in
                omega (arith, told, H.told, H.counted);
          }
