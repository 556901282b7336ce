-- A stream that breaks off: the values before a refusal 5 to 8 were read, hang on nothing but the bits before the place, and are those that were sent
-- where these bits are; a break is never told before the damage; a cut is 5; and what follows a whole stream is 8. Assumes nothing.
use mathlib.Core.Path.{◌≡◌, refl, sym, ap, ◌∙◌, subst}
use mathlib.Core.Logic.{inl, inr}
use mathlib.Core.Bool.{Bool}
use mathlib.Core.List.{List, [], ◌∷◌, ◌++◌, append_assoc}
use mathlib.Core.Option.{Option, none, some}
use Prim.Native.Nat.{ℕ, zero, suc, ◌+◌, ◌-◌, ◌*◌, ◌^◌, ◌≤◌, ◌<◌}
use native.Mathlib.Omega.{arith}
use lib.ListN.{length, take, drop, length-append, take-append-drop}
use lib.Seq.{take_at, take-take, take-append-le}
use Rattle.bits.specs.Bits.{bits_of}
use Rattle.bits.proofs.Bytes.{bits-append, length-bits_of, bits-front}
use Rattle.models.proofs.Tests.{never}
use Rattle.stream.specs.Format.{Window, Stream, State, fresh, is_raw, advance}
use Rattle.stream.specs.Read.{Step, got, halt, StreamRefusal, Reading, done, stopped, push, follow, step_at, read_n, leftover, ended_by, ended, read_all}
use Rattle.stream.specs.Needs.{Good}
use Rattle.stream.specs.Broken.{BrokenAt, CutShort}
use Rattle.stream.proofs.Writing.{fresh-small}
use Rattle.stream.proofs.Reading.{prepend, then_read, read-then, Whole, WholeOf, whole}
use Rattle.stream.proofs.Reopen.{ended-inv, any-opened}
use Rattle.stream.proofs.Leftover.{left_behind, nothing-behind, bytes-behind, accepted-none}
use Rattle.stream.proofs.CutValue.{Early, early-one, Numbered, numbered-one}

-- ---- what n values say of themselves, read from any state: how many they are; or behind how many of them reading stops

pub record Halted {A : Type 0} (S : Stream A) (n : ℕ) (s : State A) (bs : List Bool) (r : StreamRefusal) : Type 0 where
  pub number : ℕ
  pub values : List ℕ
  pub state : State A
  pub rest : List Bool
  pub reads : read_n S number s bs ≡ done values state rest
  pub long : length values ≡ number
  pub counted : state.count ≡ s.count + number
  pub wanted : number < n
  pub told : state.count ≡ r.value
  pub begins : state.place ≡ r.place
  pub halts : step_at S state rest ≡ halt r.no

abbrev pub CountedOf : {A : Type 0} → Stream A → ℕ → State A → List Bool → Reading A → Type 0
CountedOf S n s bs (done vs t rest) = (length vs ≡ n) × (t.count ≡ s.count + n)
CountedOf S n s bs (stopped r) = Halted S n s bs r

module _ {A : Type 0} (S : Stream A) where
  -- one value, and then n; or a value that is refused
  read-got : (n : ℕ) (s : State A) (bs : List Bool) (v : ℕ) (win : Window) (u : ℕ) → step_at S s bs ≡ got v win u
      → read_n S (suc n) s bs ≡ push v (read_n S n (advance S s v win u) (drop u bs))
  unfolding read_n
  read-got n s bs v win u e = ap (λ (q : Step). follow s q (λ y w used. push y (read_n S n (advance S s y w used) (drop used bs)))) e

  read-halt : (n : ℕ) (s : State A) (bs : List Bool) (m : ℕ) → step_at S s bs ≡ halt m
      → read_n S (suc n) s bs ≡ stopped (record { no = m; value = s.count; place = s.place })
  unfolding read_n
  read-halt n s bs m e = ap (λ (q : Step). follow s q (λ y w used. push y (read_n S n (advance S s y w used) (drop used bs)))) e

  -- a value that is refused refuses every reading that goes beyond it
  pub stops-there : (k n : ℕ) (s : State A) (bs : List Bool) (vs : List ℕ) (t : State A) (r : List Bool) (m : ℕ)
      → read_n S k s bs ≡ done vs t r → step_at S t r ≡ halt m → k < n
      → read_n S n s bs ≡ stopped (record { no = m; value = t.count; place = t.place })
  stops-there k n s bs vs t r m h e lt =
      let up : n ≡ k + suc (n - suc k) = omega arith in
      ap (λ (i : ℕ). read_n S i s bs) up ∙ read-then S k (suc (n - suc k)) s bs ∙ ap (then_read S (suc (n - suc k))) h
      ∙ ap (prepend vs) (read-halt (n - suc k) t r m e)

  counted-suc : (n : ℕ) (s : State A) (bs : List Bool) (v : ℕ) (win : Window) (u : ℕ) → step_at S s bs ≡ got v win u
      → (q : Reading A) → CountedOf S n (advance S s v win u) (drop u bs) q → CountedOf S (suc n) s bs (push v q)
  counted-suc n s bs v win u e (done vs t rest) c = (ap suc c.0, omega (arith, c.1))
  counted-suc n s bs v win u e (stopped r) H =
      record {
        number = suc H.number;
        values = v ∷ H.values;
        state = H.state;
        rest = H.rest;
        reads = read-got H.number s bs v win u e ∙ ap (push v) H.reads;
        long = ap suc H.long;
        counted = omega (arith, H.counted);
        wanted = omega (arith, H.wanted);
        told = H.told;
        begins = H.begins;
        halts = H.halts;
      }

  pub counted : (n : ℕ) (s : State A) (bs : List Bool) → CountedOf S n s bs (read_n S n s bs)
  unfolding read_n
  counted zero s bs = (refl, omega arith)
  counted (suc n) s bs = go (step_at S s bs) refl (λ s' bs'. counted n s' bs')
    where
      go : (q : Step) → step_at S s bs ≡ q → ((s' : State A) (bs' : List Bool) → CountedOf S n s' bs' (read_n S n s' bs'))
          → CountedOf S (suc n) s bs (follow s q (λ v win used. push v (read_n S n (advance S s v win used) (drop used bs))))
      go (got v win u) e ih = counted-suc n s bs v win u e (read_n S n (advance S s v win u) (drop u bs)) (ih (advance S s v win u) (drop u bs))
      go (halt m) e ih =
          record {
            number = 0;
            values = [];
            state = s;
            rest = bs;
            reads = refl;
            long = refl;
            counted = omega arith;
            wanted = omega arith;
            told = refl;
            begins = refl;
            halts = e;
          }

  -- ---- a refused stream was read up to the value that the refusal names, and stopped at its place

  module _ (l n : ℕ) (bits : List Bool) (r : StreamRefusal) where
    stopped-inside : Halted S n (fresh S l) bits r → BrokenAt S l n bits r
    stopped-inside H =
        let is : H.number ≡ r.value = omega (arith, H.told, H.counted) in
        let t : State A = H.state in
        let no = subst Numbered H.halts (numbered-one S.format t.win t.last H.rest (is_raw S t)) in
        record {
          values = H.values;
          state = t;
          rest = H.rest;
          reads = ap (λ (k : ℕ). read_n S k (fresh S l) bits) (sym is) ∙ H.reads;
          long = H.long ∙ is;
          counted = H.told;
          few = omega (arith, H.wanted);
          before = omega (arith, H.begins);
          from5 = no.0;
          to8 = omega (arith, no.1);
          inside = λ other. record { wanted = omega (arith, H.wanted); begins = H.begins; halts = H.halts };
          behind = λ eight. absurd (omega (arith, no.1));
        }

    stopped-behind : (vs : List ℕ) (t : State A) (rest : List Bool) → read_n S n (fresh S l) bits ≡ done vs t rest → length vs ≡ n → t.count ≡ n
        → (p : ℕ) → leftover t.place rest ≡ some p → record { no = 8; value = t.count; place = p } ≡ r → BrokenAt S l n bits r
    stopped-behind vs t rest e long c p left is =
        let eight : 8 ≡ r.no = cc in
        let all : r.value ≡ n = cc in
        let at : p ≡ r.place = cc in
        record {
          values = vs;
          state = t;
          rest = rest;
          reads = ap (λ (k : ℕ). read_n S k (fresh S l) bits) all ∙ e;
          long = long ∙ sym all;
          counted = c ∙ sym all;
          few = omega arith;
          before = omega (arith, left_behind t.place rest p left);
          from5 = omega arith;
          to8 = omega arith;
          inside = λ other. absurd (other (sym eight));
          behind = λ e. record { all = all; left = left ∙ ap some at };
        }

    pub read-until-it-broke : read_all S n (fresh S l) bits ≡ stopped r → BrokenAt S l n bits r
    unfolding ended
    read-until-it-broke h = go (read_n S n (fresh S l) bits) refl (counted n (fresh S l) bits) h
      where
        go : (q : Reading A) → read_n S n (fresh S l) bits ≡ q → CountedOf S n (fresh S l) bits q → ended q ≡ stopped r → BrokenAt S l n bits r
        go (stopped f) e H h = stopped-inside (subst (Halted S n (fresh S l) bits) (cc) H)
        go (done vs t rest) e c h = end (leftover t.place rest) refl h
          where
            end : (o : Option ℕ) → leftover t.place rest ≡ o → ended_by vs t rest o ≡ stopped r → BrokenAt S l n bits r
            end none left h = absurd (never (cc))
            end (some p) left h = stopped-behind vs t rest e c.0 (omega (arith, c.1)) p left (cc)

-- ---- what was read hangs on its own bits only

-- lists that agree before d agree before any earlier place
agree-before : {A : Type 0} (p d : ℕ) (a b : List A) → p ≤ d → take d a ≡ take d b → take p a ≡ take p b
agree-before p d a b le same = sym (take-take p d a le) ∙ ap (take p) same ∙ take-take p d b le

module _ {A : Type 0} (S : Stream A) (good : Good S.format) (l : ℕ) (hl : l < 2 ^ S.format.width) where
  all_of : (k : ℕ) (bits : List Bool) (vs : List ℕ) (t : State A) (rest : List Bool) → read_n S k (fresh S l) bits ≡ done vs t rest
      → Whole S k (fresh S l) bits vs t rest
  all_of k bits vs t rest e = subst (WholeOf S k (fresh S l) bits) e (whole S good k (fresh S l) bits (fresh-small S S.format.width l hl))

  -- other bits that agree before the place behind k values read as the same k values
  read_alike : (k : ℕ) (bits : List Bool) (vs : List ℕ) (t : State A) (rest : List Bool) → read_n S k (fresh S l) bits ≡ done vs t rest
      → (other : List Bool) → take t.place other ≡ take t.place bits → read_n S k (fresh S l) other ≡ done vs t (drop t.place other)
  read_alike k bits vs t rest e other same =
      let W : Whole S k (fresh S l) bits vs t rest = all_of k bits vs t rest e in
      let p : ℕ = t.place in
      let front : take p bits ≡ W.front = ap (take p) W.cut ∙ take_at W.front rest p (omega (arith, W.placed)) in
      ap (read_n S k (fresh S l)) (sym (take-append-drop p other) ∙ ap (λ (z : List Bool). z ++ drop p other) (same ∙ front)) ∙ W.alone (drop p other)

  -- more bits behind them change nothing
  pub more-behind : (k : ℕ) (bits : List Bool) (vs : List ℕ) (t : State A) (rest : List Bool) → read_n S k (fresh S l) bits ≡ done vs t rest
      → (more : List Bool) → read_n S k (fresh S l) (bits ++ more) ≡ done vs t (rest ++ more)
  more-behind k bits vs t rest e more =
      let W : Whole S k (fresh S l) bits vs t rest = all_of k bits vs t rest e in
      ap (read_n S k (fresh S l)) (ap (λ (z : List Bool). z ++ more) W.cut ∙ append_assoc W.front rest more) ∙ W.alone (rest ++ more)

  -- the place behind values that were read is within the bits
  pub place-within : (k : ℕ) (bits : List Bool) (vs : List ℕ) (t : State A) (rest : List Bool) → read_n S k (fresh S l) bits ≡ done vs t rest
      → t.place + length rest ≡ length bits
  place-within k bits vs t rest e =
      let W : Whole S k (fresh S l) bits vs t rest = all_of k bits vs t rest e in
      omega (arith, W.placed, ap length W.cut, length-append W.front rest)

  module _ {n : ℕ} {bits : List Bool} {r : StreamRefusal} (B : BrokenAt S l n bits r) where
    -- ---- the values before the break hang on nothing but the bits before the place

    pub before-it-broke : (other : List Bool) → take B.state.place other ≡ take B.state.place bits
        → read_n S r.value (fresh S l) other ≡ done B.values B.state (drop B.state.place other)
    before-it-broke = read_alike r.value bits B.values B.state B.rest B.reads

    -- ---- where the bits before the place are those that were sent, so are the values

    module _ (n₀ : ℕ) (sent : List Bool) (us : List ℕ) (u : State A) (r₀ : List Bool) (whole₀ : read_all S n₀ (fresh S l) sent ≡ done us u r₀) (le : r.value ≤ n₀) where
      pub as-it-was-sent : take B.state.place bits ≡ take B.state.place sent → take r.value us ≡ B.values
      as-it-was-sent same = let o = any-opened S good l hl n₀ r.value le sent us u r₀ whole₀ in cc (o.reads, before-it-broke sent (sym same))

      -- the same by the place that the refusal tells
      pub as-it-was-sent-before-the-place : take r.place bits ≡ take r.place sent → take r.value us ≡ B.values
      as-it-was-sent-before-the-place same = as-it-was-sent (agree-before B.state.place r.place bits sent B.before same)

  -- ---- a break is never told before the damage

  -- where the first d bits are those that were sent, k values that lie before d in what was sent are read as they were sent, and the refusal names none of them
  pub never-before-the-damage : (d : ℕ) (sent bits : List Bool) → take d bits ≡ take d sent
      → (k : ℕ) (ws : List ℕ) (w : State A) (x : List Bool) → read_n S k (fresh S l) sent ≡ done ws w x → w.place ≤ d
      → (n : ℕ) → k ≤ n → (r : StreamRefusal) → read_all S n (fresh S l) bits ≡ stopped r
      → (k ≤ r.value) × (read_n S k (fresh S l) bits ≡ done ws w (drop w.place bits))
  never-before-the-damage d sent bits same k ws w x rd at n le r h = (omega (arith, not-before), same-values)
    where
      B : BrokenAt S l n bits r
      B = read-until-it-broke S l n bits r h

      same-values : read_n S k (fresh S l) bits ≡ done ws w (drop w.place bits)
      same-values = read_alike k sent ws w x rd bits (agree-before w.place d bits sent at same)

      not-before : ¬ (r.value < k)
      not-before lt =
          let I = B.inside (λ eight. omega (arith, (B.behind eight).all)) in
          let z = stops-there S r.value k (fresh S l) bits B.values B.state B.rest r.no B.reads I.halts lt in
          never (cc same-values)

  -- ---- a cut is 5

  -- in the first bits of bits that read as n values no value is refused but by 5
  pub only-by-5 : (n : ℕ) (p q : List Bool) (us : List ℕ) (u : State A) (x : List Bool) → read_n S n (fresh S l) (p ++ q) ≡ done us u x
      → (r : StreamRefusal) → Halted S n (fresh S l) p r → r.no ≡ 5
  only-by-5 n p q us u x acc r H = go (early-one S.format H.state.win H.state.last H.rest q good (is_raw S H.state))
    where
      go : Early (step_at S H.state H.rest) (step_at S H.state (H.rest ++ q)) → r.no ≡ 5
      go (inl five) = cc H.halts
      go (inr same) =
          let on = more-behind H.number p H.values H.state H.rest H.reads q in
          let z = stops-there S H.number n (fresh S l) (p ++ q) H.values H.state (H.rest ++ q) r.no on (same ∙ H.halts) H.wanted in
          absurd (never (cc))

  -- n values that bytes hold, and nothing is left behind them
  module _ (n : ℕ) (bytes us : List ℕ) (u : State A) (x : List Bool) (acc : read_all S n (fresh S l) (bits_of bytes) ≡ done us u x) where
    values-there : read_n S n (fresh S l) (bits_of bytes) ≡ done us u x
    values-there = ended-inv (read_n S n (fresh S l) (bits_of bytes)) us u x acc

    nothing-there : leftover u.place x ≡ none
    nothing-there = accepted-none us u x us u x (sym (ap ended values-there) ∙ acc)

    ends_at : u.place + length x ≡ 8 * length bytes
    ends_at = place-within n (bits_of bytes) us u x values-there ∙ length-bits_of bytes

    -- of such bytes only the first m arrived: the refusal of so many values is 5, and `CutShort` says what stands before it
    pub a-cut-is-5 : (m : ℕ) → m < length bytes → CutShort S l n bytes us m
    unfolding ended
    a-cut-is-5 m less = go (read_n S n (fresh S l) p) refl (counted S n (fresh S l) p)
      where
        p : List Bool
        p = bits_of (take m bytes)

        q : List Bool
        q = bits_of (drop m bytes)

        parts : p ++ q ≡ bits_of bytes
        parts = sym (bits-append (take m bytes) (drop m bytes)) ∙ ap bits_of (take-append-drop m bytes)

        long : length p ≡ 8 * m
        long = bits-front m bytes (omega arith)

        front : (i : ℕ) → i ≤ 8 * m → take i p ≡ take i (bits_of bytes)
        front i le = sym (take-append-le i p q (omega (arith, long))) ∙ ap (take i) parts

        go : (z : Reading A) → read_n S n (fresh S l) p ≡ z → CountedOf S n (fresh S l) p z → CutShort S l n bytes us m
        go (done vs t rest) e c =
            let at = place-within n p vs t rest e in
            let same = read_alike n p vs t rest e (bits_of bytes) (sym (front t.place (omega (arith, long)))) in
            let is : t.place ≡ u.place = cc values-there in
            absurd (omega (arith, long, (nothing-behind u.place x nothing-there).1, ends_at))
        go (stopped r) e H =
            let ref : read_all S n (fresh S l) p ≡ stopped r = ap ended e in
            let B : BrokenAt S l n p r = read-until-it-broke S l n p r ref in
            let at = place-within r.value p B.values B.state B.rest B.reads in
            record {
              refusal = r;
              refuses = ref;
              five = only-by-5 n p q us u x (ap (read_n S n (fresh S l)) parts ∙ values-there) r H;
              broken = B;
              as_sent = as-it-was-sent B n (bits_of bytes) us u x acc B.few (front B.state.place (omega (arith, long)));
              all_whole = λ k le ws w y rd in-them. (never-before-the-damage (8 * m) (bits_of bytes) p (front (8 * m) (omega arith)) k ws w y rd in-them n le r ref).0;
            }

    -- ---- what follows a whole stream is 8, at the first bit behind its bytes

    pub two-run-together : (more : List ℕ) → 0 < length more
        → (read_all S n (fresh S l) (bits_of (bytes ++ more)) ≡ stopped (record { no = 8; value = n; place = 8 * length bytes }))
        × (read_n S n (fresh S l) (bits_of (bytes ++ more)) ≡ done us u (x ++ bits_of more))
    unfolding ended
    two-run-together more any = (
      ap ended reads ∙ ap (ended_by us u (x ++ bits_of more)) left ∙ ap (λ (c : ℕ). stopped (record { no = 8; value = c; place = 8 * length bytes })) is,
      reads,
    )
      where
        reads : read_n S n (fresh S l) (bits_of (bytes ++ more)) ≡ done us u (x ++ bits_of more)
        reads = ap (read_n S n (fresh S l)) (bits-append bytes more) ∙ more-behind n (bits_of bytes) us u x values-there (bits_of more)

        is : u.count ≡ n
        is = omega (arith, (all_of n (bits_of bytes) us u x values-there).counted)

        left : leftover u.place (x ++ bits_of more) ≡ some (8 * length bytes)
        left = bytes-behind u.place x nothing-there (bits_of more) (omega (arith, length-bits_of more)) (omega (arith, length-bits_of more)) ∙ ap some ends_at
