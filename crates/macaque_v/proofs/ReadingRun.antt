-- Reading one value in lent bytes, some and then more, and into an array. Assumes nothing.
use mathlib.Core.Path.{◌≡◌, refl, sym, ap, ap₂, ◌∙◌, subst}
use mathlib.Core.Logic.{◌⊎◌, inl, inr}
use mathlib.Core.Bool.{Bool}
use mathlib.Core.List.{List, [], ◌∷◌, ◌++◌}
use Prim.Native.Nat.{ℕ, ◌+◌, ◌-◌, ◌*◌, ◌≤◌, ◌<◌}
use native.Mathlib.Nat.{min-le_left, min-le_right}
use native.Mathlib.Numerals.{add-one}
use native.Mathlib.Omega.{arith}
use lib.ListN.{length, take, drop, set, length-append, length-take, length-drop, length-set}
use lib.Seq.{take-suc-set, drop-drop}
use Rattle.bits.specs.Bits.{bits_of}
use Rattle.bits.proofs.Bytes.{length-bits_of}
use Rattle.models.specs.Answers.{answered, refused}
use Rattle.models.specs.Refusals.{fault_of}
use Rattle.models.specs.declared.Refusal.{Refusal}
use Rattle.models.proofs.Judged.{not-answered, not-refused, same_answer, same-fault}
use Rattle.stream.specs.Format.{macaque, Window, window_in, unset, raw_next, advance, bare}
use Rattle.stream.specs.Read.{Step, got, halt, done, push, follow, step_at, read_one, read_n}
use Rattle.stream.proofs.Formats.{macaque-good, Framed}
use Rattle.stream.proofs.OwnBits.{Own, own}
use Rattle.stream.proofs.Reading.{prepend, then_read, read-then}
use Rattle.stream.proofs.Steps.{read-stopped}
use Rattle.macaque_v.specs.State.{mode_of}
use Rattle.coding.specs.Inner.Ahead.{WindowSound}
use Rattle.macaque_v.specs.ReadRun.{state_at, ahead, moved_by, next_from}
use Rattle.macaque_v.specs.Inner.ReadRun.{ReadableAt, read_from, Reads, ReadsOn, StopsBy}
use Rattle.macaque_v.specs.declared.read_run.Cursor.{Cursor}
use Rattle.coding.proofs.Words.{read-of-45}

module _ (first : Bool) (bytes : List ℕ) where
  -- ---- one value, by the 45 bits ahead

  module _ (at : Cursor) (s : ReadableAt bytes at) (raw : Bool) (is : raw ≡ raw_next (mode_of first) at.count) where
    abbrev rest : List Bool
    rest = ahead bytes at

    abbrev win : Window
    win = window_in at.lead at.trail

    pub next-is : (q : Step) → read_one macaque raw win at.last (take 45 rest) ≡ q → next_from first bytes at ≡ moved_by at q
    next-is q e = ap (moved_by at) (ap (λ (r : Bool). read_one macaque r win at.last rest) (sym is) ∙ sym (read-of-45 raw win at.last rest) ∙ e)

    module _ (v lead trail used : ℕ) (e : read_one macaque raw win at.last (take 45 rest) ≡ got v (window_in lead trail) used) where
      its-bits : Own macaque raw win at.last (take 45 rest) v (window_in lead trail) used
      its-bits = own macaque macaque-good win at.last s.small (take 45 rest) v (window_in lead trail) used raw e

      pub used-most : used ≤ 45
      used-most = omega (arith, its-bits.there, length-take 45 rest, min-le_left 45 (length rest))

      still-held : (window_in lead trail ≡ win) ⊎ Framed macaque (window_in lead trail) → WindowSound lead trail
      still-held (inl f) there =
          let a : lead ≡ at.lead = ap (λ (w : Window). w.lead) f in
          let t : trail ≡ at.trail = ap (λ (w : Window). w.trail) f in
          omega (arith, a, t, s.held (ap unset (sym f) ∙ there))
      still-held (inr h) there = h.some

      pub readable-next : ReadableAt bytes (record { last = v; lead = lead; trail = trail; place = at.place + used; count = at.count + 1 })
      readable-next =
          let long : length rest ≡ 8 * length bytes - at.place = length-drop at.place (bits_of bytes) ∙ ap (λ (n : ℕ). n - at.place) (length-bits_of bytes) in
          record {
            within = omega (arith, s.within, its-bits.there, length-take 45 rest, min-le_right 45 (length rest), long);
            near = omega (arith, s.near, used-most);
            small = its-bits.small;
            held = still-held its-bits.frame;
          }

  -- ---- one value, by the step

  module _ (at : Cursor) where
    by-step : (q : Step) → step_at (bare (mode_of first)) (state_at at) (ahead bytes at) ≡ q
        → read_from first bytes at 1
        ≡ follow (state_at at) q (λ v w u. push v (done [] (advance (bare (mode_of first)) (state_at at) v w u) (drop u (ahead bytes at))))
    unfolding read_n
    by-step q e = ap (λ (t : Step). follow (state_at at) t (λ v w u. push v (read_n (bare (mode_of first)) 0 (advance (bare (mode_of first)) (state_at at) v w u) (drop u (ahead bytes at))))) e

    pub one-stops : (r : Refusal) → refused (fault_of r) ≡ next_from first bytes at → StopsBy (read_from first bytes at 1) r
    one-stops r h = go (step_at (bare (mode_of first)) (state_at at) (ahead bytes at)) refl
      where
        go : (q : Step) → step_at (bare (mode_of first)) (state_at at) (ahead bytes at) ≡ q → StopsBy (read_from first bytes at 1) r
        go (got v w u) e = absurd (not-answered (h ∙ ap (moved_by at) e))
        go (halt n) e = record { fault = _; stops = by-step (halt n) e; numbered = sym (same-fault (h ∙ ap (moved_by at) e)) }

    pub one-read : (to : Cursor) → answered to ≡ next_from first bytes at → ReadableAt bytes to → Reads first bytes at 1 (to.last ∷ []) to
    one-read to h R = go (step_at (bare (mode_of first)) (state_at at) (ahead bytes at)) refl
      where
        go : (q : Step) → step_at (bare (mode_of first)) (state_at at) (ahead bytes at) ≡ q → Reads first bytes at 1 (to.last ∷ []) to
        go (halt n) e = absurd (not-refused (h ∙ ap (moved_by at) e))
        go (got v w u) e =
            let is = same_answer (h ∙ ap (moved_by at) e) in
            record {
              values =
                  by-step (got v w u) e
                  ∙ ap₂ (λ (n : ℕ) (b : List Bool). done (v ∷ []) (record { last = v; win = w; place = at.place + u; count = n; seen = tt }) b)
                  (sym (add-one at.count)) (drop-drop u at.place (bits_of bytes))
                  ∙ ap (λ (c : Cursor). done (c.last ∷ []) (state_at c) (ahead bytes c)) (sym is);
              long = refl;
              counted = ap (λ (c : Cursor). c.count) is;
              readable = R;
            }

  -- ---- some, and then more

  pub reads_none : (from : Cursor) → ReadableAt bytes from → Reads first bytes from 0 [] from
  unfolding read_n
  reads_none from s = record { values = refl; long = refl; counted = omega arith; readable = s }

  module _ {from mid : Cursor} {i : ℕ} {us : List ℕ} (R : Reads first bytes from i us mid) where
    pub reads_then : {to : Cursor} {j : ℕ} {vs : List ℕ} → Reads first bytes mid j vs to → Reads first bytes from (i + j) (us ++ vs) to
    reads_then {to} {j} {vs} Q =
        record {
          values =
              read-then (bare (mode_of first)) i j (state_at from) (drop from.place (bits_of bytes))
              ∙ ap (then_read (bare (mode_of first)) j) R.values
              ∙ ap (prepend us) Q.values;
          long = omega (arith, length-append us vs, R.long, Q.long);
          counted = omega (arith, R.counted, Q.counted);
          readable = Q.readable;
        }

    -- a refusal stands, however many values were asked for
    pub then-stops : (j : ℕ) {r : Refusal} → StopsBy (read_from first bytes mid j) r → (n : ℕ) → i + j ≤ n → StopsBy (read_from first bytes from n) r
    then-stops j {r} Q n h =
        let e : (i + j) + (n - (i + j)) ≡ n = omega arith in
        let rest : List Bool = drop from.place (bits_of bytes) in
        record {
          fault = Q.fault;
          stops =
              ap (λ (m : ℕ). read_from first bytes from m) (sym e)
              ∙ read-stopped (bare (mode_of first)) (i + j) (n - (i + j)) (state_at from) rest Q.fault
              (read-then (bare (mode_of first)) i j (state_at from) rest ∙ ap (then_read (bare (mode_of first)) j) R.values ∙ ap (prepend us) Q.stops);
          numbered = Q.numbered;
        }

  -- ---- into an array

  -- i values of n stand in the first i places
  pub record Filled (from : Cursor) (n i : ℕ) (old new : List ℕ) (at : Cursor) : Type 0 where
    pub reads : Reads first bytes from i (take i new) at
    pub fits : i ≤ n
    pub long : length new ≡ length old

  module _ {from at : Cursor} (n i : ℕ) (old new : List ℕ) (F : Filled from n i old new at) where
    pub filled_more : {to : Cursor} → i < n → n ≤ length old → Reads first bytes at 1 (to.last ∷ []) to → Filled from n (i + 1) old (set new i to.last) to
    filled_more {to} h g Q =
        let v : ℕ = to.last in
        let less : i < length new = omega (arith, F.long) in
        let front : take (i + 1) (set new i v) ≡ take i new ++ (v ∷ []) = ap (λ (k : ℕ). take k (set new i v)) (add-one i) ∙ take-suc-set new i v less in
        record {
          reads = subst (λ (us : List ℕ). Reads first bytes from (i + 1) us to) (sym front) (reads_then F.reads Q);
          fits = omega arith;
          long = length-set new i v ∙ F.long;
        }

    pub filled_on : {to : Cursor} {new' : List ℕ} → ReadsOn first bytes at i n new new' to → (j : ℕ) → j ≡ i + (to.count - at.count) → Filled from n j old new' to
    filled_on {to} {new'} Q j e =
        let k : ℕ = Q.many in
        let is : i + k ≡ j = omega (arith, Q.reads.counted) in
        record {
          reads =
              subst (λ (m : ℕ). Reads first bytes from m (take m new') to) is
              (subst (λ (us : List ℕ). Reads first bytes from (i + k) us to) (sym Q.front) (reads_then F.reads Q.reads));
          fits = omega (arith, Q.fits);
          long = Q.long ∙ F.long;
        }
