-- What a reader promises, over the definitions that its calls' contracts cite: opened, read n times and ended, it answers what reading a count of n
-- answers, the values or the same refusal; so it reads what `grid` draws. Assumes nothing.
use mathlib.Core.Path.{◌≡◌, refl, sym, ap, ap₂, ◌∙◌, subst}
use mathlib.Core.Logic.{inl}
use mathlib.Core.Bool.{Bool, true}
use mathlib.Core.List.{List, []}
use mathlib.Core.Option.{Option, none, some}
use Prim.Native.Nat.{ℕ, zero, suc, ◌+◌, ◌*◌, ◌^◌, ◌≤◌, ◌<◌}
use native.Mathlib.Numerals.{add-one}
use native.Mathlib.Omega.{arith}
use borrow.Author.Tests.{ne_eqb, eq-eqb, le-ltb}
use lib.ListN.{length, drop}
use lib.Seq.{drop-drop}
use Rattle.bits.specs.Bits.{bits_of}
use Rattle.models.specs.Answers.{SaidOn, answered_on, refused_on, judge, fault}
use Rattle.models.specs.Limits.{most_values}
use Rattle.models.proofs.Judged.{not-answered-on, same-answer-on}
use Rattle.stream.specs.Format.{macaque, Window, State, advance, raw_next, window_in, bare}
use Rattle.stream.specs.Read as stream
use Rattle.stream.specs.Read.{Step, got, Reading, done, stopped, push, follow, step_at, read_n, leftover, ended_by, ended}
use Rattle.stream.specs.Calls.{fault_at}
use Rattle.stream.proofs.Formats.{macaque-good}
use Rattle.stream.proofs.OwnBits.{own}
use Rattle.stream.proofs.Rule.{Ruled, advance-ruled, usable-if}
use Rattle.coding.proofs.Words.{read-of-45}
use Rattle.macaque_v.specs.State.{mode_of, is_first, opening_value}
use Rattle.macaque_v.specs.Calls.{lent_bytes}
use Rattle.macaque_v.specs.ReadRun.{state_at, ahead, moved_by, end_said}
use Rattle.macaque_v.specs.Inner.ReadRun.{ReadableAt, read_from}
use Rattle.macaque_v.specs.Read.{values_read, values_in, start_of, drawn, drawn_in, grid_answer, grid_memory}
use Rattle.macaque_v.specs.declared.Opening.{Opening}
use Rattle.macaque_v.specs.declared.Opening.TheVariants.{First, On}
use Rattle.macaque_v.specs.declared.read_run.Cursor.{Cursor}
use Rattle.macaque_v.proofs.ReadingRun.{used-most, readable-next}
use Rattle.macaque_v.proofs.ReadingAll.{start-readable, same-values}
use Rattle.reader.specs.Calls.{opened_at, may_use, Taken, moved_to, handed, next_read, next_answer, end_answer}
use Rattle.reader.specs.Run.{Run, also, and_then, nexts, if_ended, and_end, read_by, last_of}
use Rattle.reader.specs.declared.position.Position.{Position}

-- where reading from the start leads: it may be read on from there, and the rule for a state is kept
pub record Going (bytes : List ℕ) (at : Cursor) : Type 0 where
  pub readable : ReadableAt bytes at
  pub near : at.place ≤ 45 * at.count
  pub ruled : Ruled macaque (state_at at)

-- where the theory's reading stands, as a reader holds it
abbrev pub cursor_of : State Unit → Cursor
cursor_of t = record { last = t.last; lead = t.win.lead; trail = t.win.trail; place = t.place; count = t.count }

-- the values that were read, and the reader behind them
abbrev pub run_of : Bool → List ℕ → State Unit → Run
run_of first vs t = record { values = vs; after = record { with_first = first; at = cursor_of t } }

-- nexts answer a where the theory reads vs and then stands at t: these values, and the reader behind them, at value k and with the same bits ahead
pub record HandsOut (bytes : List ℕ) (first : Bool) (k : ℕ) (a : SaidOn Position Run) (vs : List ℕ) (t : State Unit) (rest : List Bool) : Type 0 where
  pub answers : a ≡ answered_on (run_of first vs t)
  pub going : Going bytes (cursor_of t)
  pub counted : t.count ≡ k
  pub left : rest ≡ drop t.place (bits_of bytes)

module _ (bytes : List ℕ) where
  pub allowed : (at : Cursor) → Going bytes at → at.count ≤ most_values → may_use (length bytes) at ≡ true
  allowed at g few = usable-if macaque macaque-good (lent_bytes (length bytes)) (state_at at) (omega (arith, g.readable.within, g.near)) few g.ruled

  -- ---- one value

  module _ (first : Bool) (at : Cursor) (g : Going bytes at) (v : ℕ) (win : Window) (used : ℕ) (e : step_at (bare (mode_of first)) (state_at at) (ahead bytes at) ≡ got v win used) where
    abbrev to : Cursor
    to = record { last = v; lead = win.lead; trail = win.trail; place = at.place + used; count = at.count + 1 }

    pub goes_on : Going bytes to
    goes_on =
        let raw : Bool = raw_next (mode_of first) at.count in
        let o = own macaque macaque-good (window_in at.lead at.trail) at.last g.readable.small (ahead bytes at) v win used raw e in
        let f = read-of-45 raw (window_in at.lead at.trail) at.last (ahead bytes at) ∙ e in
        record {
          readable = readable-next first bytes at g.readable raw refl v win.lead win.trail used f;
          near = omega (arith, g.near, used-most first bytes at g.readable raw refl v win.lead win.trail used f);
          ruled =
              subst (λ (n : ℕ). Ruled macaque (record { last = v; win = win; place = at.place + used; count = n; seen = tt })) (sym (add-one at.count))
              (advance-ruled (bare (mode_of first)) (state_at at) v win used g.ruled o.some o.frame);
        }

    -- the theory reads on from the same place
    pub same_place : (n : ℕ) → read_n (bare (mode_of first)) n (advance (bare (mode_of first)) (state_at at) v win used) (drop used (ahead bytes at)) ≡ read_from first bytes to n
    same_place n =
        ap₂ (λ (k : ℕ) (b : List Bool). read_n (bare (mode_of first)) n (record { last = v; win = win; place = at.place + used; count = k; seen = tt }) b) (sym (add-one at.count)) (drop-drop used at.place (bits_of bytes))

  -- ---- n values, and the end

  pub accepted : (p : Position) → Going bytes p.at → p.at.count < most_values → next_answer bytes p ≡ next_read bytes p
  unfolding next_answer judge
  accepted p g few =
      let no : ¬ (p.at.count ≡ most_values) = λ e. omega arith in
      rw (allowed p.at g (omega arith), ne_eqb p.at.count most_values no)

  -- what nexts answer where the theory reads so: its values, or its refusal
  abbrev pub NextsSay : Bool → ℕ → SaidOn Position Run → Reading Unit → Type 0
  NextsSay first k a (done vs t rest) = HandsOut bytes first k a vs t rest
  NextsSay first k a (stopped r) = (q : Position) × (a ≡ refused_on (fault_at r) q)

  also-say : (first : Bool) (k v : ℕ) (a : SaidOn Position Run) (q : Reading Unit) → NextsSay first k a q → NextsSay first k (also v a) (push v q)
  also-say first k v a (done vs t rest) s = record { answers = ap (also v) s.answers; going = s.going; counted = s.counted; left = s.left }
  also-say first k v a (stopped r) s = (s.0, ap (also v) s.1)

  pub nexts-say : (n k : ℕ) (p : Position) → Going bytes p.at → p.at.count + n ≡ k → k ≤ most_values → NextsSay p.with_first k (nexts bytes n p) (read_from p.with_first bytes p.at n)
  unfolding nexts next_read read_n
  nexts-say zero k p g is few = record { answers = refl; going = g; counted = omega arith; left = refl }
  nexts-say (suc n) k p g is few =
      subst (λ (a : SaidOn Position Taken). NextsSay first k (and_then a (λ t. also t.value (nexts bytes n t.after))) (read_from first bytes p.at (suc n))) (sym (accepted p g (omega arith)))
      (go (step_at (bare (mode_of first)) (state_at p.at) (ahead bytes p.at)) refl (λ p' g' is'. nexts-say n k p' g' is' few))
    where
      first : Bool
      first = p.with_first

      go : (q : Step) → step_at (bare (mode_of first)) (state_at p.at) (ahead bytes p.at) ≡ q
          → ((p' : Position) → Going bytes p'.at → p'.at.count + n ≡ k → NextsSay p'.with_first k (nexts bytes n p') (read_from p'.with_first bytes p'.at n))
          → NextsSay first k (and_then (handed p (moved_by p.at q)) (λ t. also t.value (nexts bytes n t.after)))
          (follow (state_at p.at) q (λ v win used. push v (read_n (bare (mode_of first)) n (advance (bare (mode_of first)) (state_at p.at) v win used) (drop used (ahead bytes p.at)))))
      go (stream.halt m) e ih = (p, refl)
      go (got v win used) e ih =
          let to : Position = moved_to p (record { last = v; lead = win.lead; trail = win.trail; place = p.at.place + used; count = p.at.count + 1 }) in
          also-say first k v (nexts bytes n to) (read_n (bare (mode_of first)) n (advance (bare (mode_of first)) (state_at p.at) v win used) (drop used (ahead bytes p.at)))
          (subst (NextsSay first k (nexts bytes n to)) (sym (same_place first p.at g v win used e n)) (ih to (goes_on first p.at g v win used e) (omega arith)))

  -- and so the end behind them
  end_reads : (first : Bool) (vs : List ℕ) (t : State Unit) → Going bytes (cursor_of t) → t.count ≤ most_values
      → and_end bytes (answered_on (run_of first vs t)) ≡ values_read (ended (done vs t (drop t.place (bits_of bytes))))
  unfolding end_answer end_said judge ended
  end_reads first vs t g few = rw (allowed (cursor_of t) g few) (go (leftover t.place (drop t.place (bits_of bytes))))
    where
      go : (o : Option ℕ) → if_ended vs (drawn (values_read (ended_by [] t (drop t.place (bits_of bytes)) o))) ≡ values_read (ended_by vs t (drop t.place (bits_of bytes)) o)
      go none = refl
      go (some q) = refl

  nexts-read : (first : Bool) (k : ℕ) (a : SaidOn Position Run) (q : Reading Unit) → k ≤ most_values → NextsSay first k a q → and_end bytes a ≡ values_read (ended q)
  unfolding ended
  nexts-read first k a (done vs t rest) few s =
      ap (and_end bytes) s.answers ∙ end_reads first vs t s.going (omega (arith, s.counted)) ∙ ap (λ (z : List Bool). values_read (ended (done vs t z))) (sym s.left)
  nexts-read first k a (stopped r) few s = ap (and_end bytes) s.1

  pub start-goes : (o : Opening) → opening_value o < 2 ^ 32 → Going bytes (start_of o)
  start-goes o h =
      record {
        readable = start-readable bytes o (small o h);
        near = omega arith;
        ruled = record { window = inl refl; started = λ e. refl; begun = λ e. refl };
      }
    where
      small : (o : Opening) → opening_value o < 2 ^ 32 → (start_of o).last < 2 ^ 32
      small First h = h
      small (On v) h = h

  -- ---- the promises: of a stream in lent bytes that opens on a value of 32 bits, as a program holds it

  module _ (o : Opening) (h : opening_value o < 2 ^ 32) (n : ℕ) (few : n ≤ most_values) where
    -- opened, read n times and ended: the values that reading takes of a count of n, or its refusal, 5 to 8
    pub n-nexts-and-the-end : read_by bytes n o ≡ values_in bytes n o
    n-nexts-and-the-end = nexts-read (is_first o) n _ _ few (nexts-say n n (opened_at o) (start-goes o h) (omega arith) few) ∙ sym (same-values bytes o n)

    -- the last of them, as `last_value` answers it
    pub last-of-the-nexts : last_of 0 (read_by bytes n o) ≡ last_of 0 (values_in bytes n o)
    last-of-the-nexts = ap (last_of 0) n-nexts-and-the-end

    -- what `grid` answers and draws, where there is room
    pub as-the-grid : (out : List ℕ) → n ≤ length out → (grid_answer bytes n o (length out) ≡ drawn (read_by bytes n o)) × (grid_memory bytes n o out ≡ drawn_in out (read_by bytes n o))
    unfolding grid_answer grid_memory judge
    as-the-grid out room = (
      rw (le-ltb most_values n few, le-ltb (length out) n room) (ap drawn (sym n-nexts-and-the-end)),
      rw (le-ltb most_values n few, le-ltb (length out) n room) (ap (drawn_in out) (sym n-nexts-and-the-end)),
    )

  -- "a next at 65,536 is 3": behind as many values
  pub one-too-many : (o : Opening) → opening_value o < 2 ^ 32 → (r : Run) → nexts bytes most_values (opened_at o) ≡ answered_on r → next_answer bytes r.after ≡ refused_on (fault 3) r.after
  unfolding next_answer judge
  one-too-many o h r e = go (read_from (is_first o) bytes (start_of o) most_values) (nexts-say most_values most_values (opened_at o) (start-goes o h) (omega arith) (omega arith))
    where
      go : (q : Reading Unit) → NextsSay (is_first o) most_values (nexts bytes most_values (opened_at o)) q → next_answer bytes r.after ≡ refused_on (fault 3) r.after
      go (done vs t rest) s =
          subst (λ (x : Run). next_answer bytes x.after ≡ refused_on (fault 3) x.after) (same-answer-on (sym s.answers ∙ e))
          (rw (allowed (cursor_of t) s.going (omega (arith, s.counted)), eq-eqb t.count most_values s.counted))
      go (stopped f) s = absurd (not-answered-on (sym s.1 ∙ e))
