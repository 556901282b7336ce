-- What the reader's C face promises: the row that a call left stands for the reader that the next call begins with, so that a stream is read through rows
-- as `Reader` reads it, and as `grid` draws it; and a row that stands for no reader is refused with 2. Assumes nothing.
use mathlib.Core.Path.{◌≡◌, refl, sym, ap, ap₂, ◌∙◌, subst}
use mathlib.Core.Logic.{◌⊎◌, inl, inr}
use mathlib.Core.Bool.{Bool, true, false}
use mathlib.Core.List.{List, [], ◌∷◌}
use mathlib.Core.Option.{Option, none, some}
use Prim.Native.Nat.{ℕ, zero, suc, ◌+◌, ◌^◌, ◌≤◌, ◌<◌}
use native.Mathlib.Omega.{arith}
use borrow.Author.Tests.{le-leb, le-ltb, ltb-true}
use lib.ListN.{length, take, drop, get_or}
use Rattle.bits.specs.Bits.{Below, whole_bytes}
use Rattle.models.specs.Answers.{Said, Done, answered, refused, SaidOn, answered_on, refused_on, refusing, stateless, fault, no_fault, judge}
use Rattle.models.specs.declared.Fault.{Fault}
use Rattle.models.specs.Limits.{most_values}
use Rattle.models.specs.declared.ErrorBound.{ErrorBound}
use Rattle.models.specs.declared.ErrorBound.TheVariants.{Lossless}
use Rattle.models.proofs.Judged.{accepted-on, not-answered, not-answered-on, same_answer, same-answer-on}
use Rattle.stream.specs.Format.{macaque, Window, window_in, raw_next, bare}
use Rattle.stream.specs.Read as stream
use Rattle.stream.specs.Read.{Step, got, step_at, ended, ended_by, leftover}
use Rattle.stream.proofs.Formats.{macaque-good, Framed}
use Rattle.stream.proofs.OwnBits.{own}
use Rattle.stream.proofs.Numbers.{FiveToSeven, one-value-is-refused-with-5-to-7}
use Rattle.macaque_v.specs.State.{mode_of, opening_value}
use Rattle.macaque_v.specs.ReadRun.{state_at, ahead, moved_by, end_said}
use Rattle.macaque_v.specs.Read.{values_read, values_in, drawn, drawn_in}
use Rattle.macaque_v.specs.Made.{kept_of}
use Rattle.macaque_v.specs.declared.Opening.{Opening}
use Rattle.macaque_v.specs.declared.Opening.TheVariants.{First, On}
use Rattle.macaque_v.proofs.Promises.{values-read-back, lossless-keeps-the-inputs}
use Rattle.exports.specs.Face.{refusal_fault, fault_said, row_after, plain_fault}
use Rattle.exports.proofs.Rows.{refused-with-room}
use Rattle.exports.proofs.Numbers.{judged-so}
use Rattle.exports_stream.proofs.Promises.{place-word, length-word}
use Rattle.exports_stream.specs.Row.{writer_in, bytes_in_use, length_word}
use Rattle.exports_stream.specs.Calls.{opening_of, grid_fault, grid_out, RowMade}
use Rattle.reader.specs.Calls.{opened_at, Taken, next_causes, handed, next_read, next_answer, end_answer}
use Rattle.reader.specs.Run.{Run, also, and_then, nexts, if_ended, and_end}
use Rattle.reader.specs.declared.position.Position.{Position}
use Rattle.reader.proofs.Promises.{n-nexts-and-the-end, as-the-grid}
use Rattle.exports_reader.specs.Row.{reader_length, stands_for_reader, position_in}
use Rattle.exports_reader.specs.Calls.{open_fault, open_row, one_value, next_row, end_fault}
use Rattle.exports_reader.specs.Run.{next_fault, next_moved, next_out, unless, if_zero, and_later, read_through, EachNextZero, EachAnswersZero}
use Rattle.exports_reader.proofs.Faces.{short-stands-for-none, no_reader, small-words, a-reader, next-refused, no-reader-next, no-reader-end, position-back}

-- ---- a reader whose words are of 32 bits is read back from its row, and its next leads to such a one

record Small (p : Position) : Type 0 where
  last : p.at.last < 2 ^ 32
  lead : p.at.lead < 2 ^ 32
  trail : p.at.trail < 2 ^ 32

-- whatever the row: the words of a reader that it stands for are small, and so are those of the one that no stream allows
row_small : (row : List ℕ) → Small (position_in row)
row_small row = go (stands_for_reader row) refl
  where
    go : (b : Bool) → stands_for_reader row ≡ b → Small (position_in row)
    go true h =
        let s = small-words row h in
        subst Small (a-reader row h) (record { last = ltb-true (get_or row 0 0) (2 ^ 32) s.0; lead = ltb-true (get_or row 1 0) (2 ^ 32) s.1; trail = ltb-true (get_or row 2 0) (2 ^ 32) s.2 })
    go false h = subst Small (no_reader row h) (record { last = omega arith; lead = omega arith; trail = omega arith })

open-small : (o : Opening) → opening_value o < 2 ^ 32 → Small (opened_at o)
open-small First h = record { last = omega arith; lead = omega arith; trail = omega arith }
open-small (On v) h = record { last = h; lead = omega arith; trail = omega arith }

module _ (bytes : List ℕ) (p : Position) (small : Small p) where
  step_small : (q : Step) → step_at (bare (mode_of p.with_first)) (state_at p.at) (ahead bytes p.at) ≡ q → (t : Taken) → handed p (moved_by p.at q) ≡ answered_on t → Small t.after
  step_small (got v win used) e t h =
      let raw : Bool = raw_next (mode_of p.with_first) p.at.count in
      let o = own macaque macaque-good (window_in p.at.lead p.at.trail) p.at.last small.last (ahead bytes p.at) v win used raw e in
      subst (λ (u : Taken). Small u.after) (same-answer-on h) (by-frame o.small o.frame)
    where
      by-frame : v < 2 ^ 32 → (win ≡ window_in p.at.lead p.at.trail) ⊎ Framed macaque win
          → Small (record { with_first = p.with_first; at = record { last = v; lead = win.lead; trail = win.trail; place = p.at.place + used; count = p.at.count + 1 } })
      by-frame hv (inl f) = record { last = hv; lead = subst (λ (w : Window). w.lead < 2 ^ 32) (sym f) small.lead; trail = subst (λ (w : Window). w.trail < 2 ^ 32) (sym f) small.trail }
      by-frame hv (inr f) = record { last = hv; lead = omega (arith, f.some); trail = omega (arith, f.some) }
  step_small (stream.halt n) e t h = absurd (not-answered-on h)

  next_small : (t : Taken) → next_answer bytes p ≡ answered_on t → Small t.after
  unfolding next_answer next_read
  next_small t h = step_small _ refl t (accepted-on p (next_causes (length bytes) p.at) _ t h).1

-- ---- the row that a call left stands for the reader that it made

pub an-opened-row : (mode opening : ℕ) (row : List ℕ) → mode ≤ 1 → reader_length ≤ length row → opening_value (opening_of mode opening) < 2 ^ 32
    → (open_fault mode row ≡ no_fault) × (position_in (open_row mode opening row) ≡ opened_at (opening_of mode opening))
unfolding open_fault open_row judge
an-opened-row mode opening row one words h =
    let s = open-small (opening_of mode opening) h in
    rw (le-ltb 1 mode one, le-ltb (length row) reader_length words) (refl, position-back (opened_at (opening_of mode opening)) _ s.last s.lead s.trail)

module _ (bytes row out : List ℕ) (room : 1 ≤ length out) (t : Taken) (h : next_answer bytes (position_in row) ≡ answered_on t) where
  -- a next that the reader answers is 0, puts the value into out[0], and the row stands for the reader behind it
  pub a-row-moves : (next_fault bytes row out ≡ no_fault) × (next_out bytes row out ≡ t.value ∷ drop 1 out) × (position_in (next_moved bytes row out) ≡ t.after)
  unfolding fault_said row_after next_row
  a-row-moves =
      let s = next_small bytes (position_in row) (row_small row) t h in
      rw (h, le-leb 1 (length out) room) (refl, refl, position-back t.after _ s.last s.lead s.trail)

-- ---- no refusal has the number 0, so a call's fault tells what the call behind said

abbrev Numbered : {A : Type 0} → Said A → Type 0
Numbered (answered x) = Unit {0}
Numbered (refused f) = 0 < f.number

module _ (bytes : List ℕ) (p : Position) where
  step-numbered : (q : Step) → FiveToSeven q → Numbered (stateless (handed p (moved_by p.at q)))
  step-numbered (got v win used) h = tt
  step-numbered (stream.halt n) h = omega (arith, h.0)

  next-numbered : Numbered (stateless (next_answer bytes p))
  unfolding next_answer next_read
  next-numbered =
      let step : Step = step_at (bare (mode_of p.with_first)) (state_at p.at) (ahead bytes p.at) in
      let five : FiveToSeven step = one-value-is-refused-with-5-to-7 macaque (raw_next (mode_of p.with_first) p.at.count) (window_in p.at.lead p.at.trail) p.at.last (ahead bytes p.at) in
      judged-so (λ (q : SaidOn Position Taken). Numbered (stateless q)) (refusing p) (λ n h. h) (next_causes (length bytes) p.at) (omega arith, (omega arith, tt)) _ (step-numbered step five)

  end-numbered : Numbered (end_answer bytes p)
  unfolding end_answer end_said ended
  end-numbered = judged-so Numbered refused (λ n h. h) _ (omega arith, tt) _ (go (leftover p.at.place (ahead bytes p.at)))
    where
      go : (o : Option ℕ) → Numbered (drawn (values_read (ended_by [] (state_at p.at) (ahead bytes p.at) o)))
      go none = tt
      go (some q) = omega arith

told : (f : Fault) (later : Said (List ℕ)) → 0 < f.number → if_zero f later ≡ refused f
told f later h = go f.number h
  where
    go : (n : ℕ) → 0 < n → unless n f later ≡ refused f
    go zero h = absurd (omega arith)
    go (suc n) h = refl

-- ---- reading through a row

module _ (bytes : List ℕ) where
  ends : (a : Said Done) → Numbered a → if_zero (plain_fault a) (answered []) ≡ if_ended [] a
  ends (answered u) h = refl
  ends (refused f) h = told f (answered []) h

  also-later : (v : ℕ) (q : SaidOn Position Run) → and_end bytes (also v q) ≡ and_later v (and_end bytes q)
  also-later v (answered_on r) = go (end_answer bytes r.after)
    where
      go : (a : Said Done) → if_ended (v ∷ r.values) a ≡ and_later v (if_ended r.values a)
      go (answered u) = refl
      go (refused n) = refl
  also-later v (refused_on n p) = refl

  -- a refused next, with an output of one place or more: its fault, and the row and the output as they were
  pub next-refused-with : (row out : List ℕ) → 1 ≤ length out → (f : Fault) (p : Position) → next_answer bytes (position_in row) ≡ refused_on f p
      → (next_fault bytes row out ≡ f) × (next_moved bytes row out ≡ row) × (next_out bytes row out ≡ out)
  next-refused-with row out room f p e =
      let r = refused-with-room one_value 1 out (stateless (next_answer bytes (position_in row))) f (ap stateless e) room in
      (r.0, sym (next-refused row out (next_answer bytes (position_in row)) f p e).1, r.1)

  -- through whatever row, with an output of one place or more: n nexts and the end hand over what the reader reads that the row stands for, or answer
  -- its refusal
  pub through-a-row : (n : ℕ) (row out : List ℕ) → 1 ≤ length out → read_through bytes n row out ≡ and_end bytes (nexts bytes n (position_in row))
  unfolding read_through nexts
  through-a-row zero row out room = ends (end_answer bytes (position_in row)) (end-numbered bytes (position_in row))
  through-a-row (suc n) row out room = go (next_answer bytes (position_in row)) refl (λ row' out' room'. through-a-row n row' out' room')
    where
      go : (q : SaidOn Position Taken) → next_answer bytes (position_in row) ≡ q
          → ((row' out' : List ℕ) → 1 ≤ length out' → read_through bytes n row' out' ≡ and_end bytes (nexts bytes n (position_in row')))
          → if_zero (next_fault bytes row out) (and_later (get_or (next_out bytes row out) 0 0) (read_through bytes n (next_moved bytes row out) (next_out bytes row out)))
          ≡ and_end bytes (and_then q (λ t. also t.value (nexts bytes n t.after)))
      go (answered_on t) e ih =
          let m = a-row-moves bytes row out room t e in
          let long : 1 ≤ length (next_out bytes row out) = subst (λ (l : List ℕ). 1 ≤ length l) (sym m.1) (omega arith) in
          let later = ih (next_moved bytes row out) (next_out bytes row out) long ∙ ap (λ (p : Position). and_end bytes (nexts bytes n p)) m.2 in
          ap (λ (k : Fault). if_zero k (and_later (get_or (next_out bytes row out) 0 0) (read_through bytes n (next_moved bytes row out) (next_out bytes row out)))) m.0
          ∙ ap₂ and_later (ap (λ (l : List ℕ). get_or l 0 0) m.1) later
          ∙ sym (also-later t.value (nexts bytes n t.after))
      go (refused_on f p) e ih =
          ap (λ (k : Fault). if_zero k (and_later (get_or (next_out bytes row out) 0 0) (read_through bytes n (next_moved bytes row out) (next_out bytes row out)))) (next-refused-with row out room f p e).0
          ∙ told f _ (subst (λ (q : SaidOn Position Taken). Numbered (stateless q)) e (next-numbered bytes (position_in row)))

  -- ---- the same, call by call

  module _ (then : List ℕ → List ℕ → Type 0) where
    -- behind nexts of the reader that are answered, `then` is to be shown of every row that stands for it there, and of every output
    abbrev Each : List ℕ → List ℕ → SaidOn Position Run → Type 0
    Each row out (answered_on r) = ((after left : List ℕ) → 1 ≤ length left → position_in after ≡ r.after → then after left) → EachNextZero bytes row out r.values then
    Each row out (refused_on f p) = Unit

    each-also : (row out : List ℕ) (v : ℕ) (q : SaidOn Position Run) → (next_fault bytes row out).number ≡ 0 → get_or (next_out bytes row out) 0 0 ≡ v
        → Each (next_moved bytes row out) (next_out bytes row out) q → Each row out (also v q)
    each-also row out v (answered_on r) z is k = λ h. (z, is, k h)
    each-also row out v (refused_on f p) z is k = tt

    each_next : (n : ℕ) (row out : List ℕ) → 1 ≤ length out → Each row out (nexts bytes n (position_in row))
    unfolding nexts
    each_next zero row out room = λ h. h row out room refl
    each_next (suc n) row out room = go (next_answer bytes (position_in row)) refl (λ row' out' room'. each_next n row' out' room')
      where
        go : (q : SaidOn Position Taken) → next_answer bytes (position_in row) ≡ q → ((row' out' : List ℕ) → 1 ≤ length out' → Each row' out' (nexts bytes n (position_in row')))
            → Each row out (and_then q (λ t. also t.value (nexts bytes n t.after)))
        go (refused_on f p) e ih = tt
        go (answered_on t) e ih =
            let m = a-row-moves bytes row out room t e in
            let long : 1 ≤ length (next_out bytes row out) = subst (λ (l : List ℕ). 1 ≤ length l) (sym m.1) (omega arith) in
            each-also row out t.value (nexts bytes n t.after) (ap (λ (f : Fault). f.number) m.0) (ap (λ (l : List ℕ). get_or l 0 0) m.1)
            (subst (λ (p : Position). Each (next_moved bytes row out) (next_out bytes row out) (nexts bytes n p)) m.2 (ih (next_moved bytes row out) (next_out bytes row out) long))

  -- the values of nexts and an end that are answered
  answered-run : (q : SaidOn Position Run) (vs : List ℕ) → and_end bytes q ≡ answered vs → (r : Run) × (q ≡ answered_on r) × (r.values ≡ vs) × (end_answer bytes r.after ≡ answered tt)
  answered-run (refused_on f p) vs e = absurd (not-answered e)
  answered-run (answered_on r) vs e = let g = go (end_answer bytes r.after) e in (r, refl, g.0, g.1)
    where
      go : (a : Said Done) → if_ended r.values a ≡ answered vs → (r.values ≡ vs) × (a ≡ answered tt)
      go (answered u) e = (same_answer e, refl)
      go (refused f) e = absurd (not-answered e)

  -- ---- opened into a row, read n times and ended through it

  module _ (mode opening : ℕ) (row out : List ℕ) (one : mode ≤ 1) (words : reader_length ≤ length row) (room : 1 ≤ length out) (h : opening_value (opening_of mode opening) < 2 ^ 32) where
    -- nexts that the opened reader answers are 0 and hand over its values, and the row behind them stands for the reader behind them
    pub each-of-the-nexts : (k : ℕ) (run : Run) → nexts bytes k (opened_at (opening_of mode opening)) ≡ answered_on run
        → (then : List ℕ → List ℕ → Type 0) → ((after left : List ℕ) → 1 ≤ length left → position_in after ≡ run.after → then after left)
        → EachNextZero bytes (open_row mode opening row) out run.values then
    each-of-the-nexts k run e then =
        subst (Each then (open_row mode opening row) out) (ap (nexts bytes k) (an-opened-row mode opening row one words h).1 ∙ e) (each_next then k (open_row mode opening row) out room)

    module _ (n : ℕ) (few : n ≤ most_values) where
      -- the open is 0, and the nexts and the end hand over the values that reading takes of a count of n, or answer its refusal, 5 to 8
      pub n-nexts-and-the-end-through-a-row : (open_fault mode row ≡ no_fault) × (read_through bytes n (open_row mode opening row) out ≡ values_in bytes n (opening_of mode opening))
      n-nexts-and-the-end-through-a-row =
          let o = an-opened-row mode opening row one words h in
          (o.0, through-a-row n (open_row mode opening row) out room ∙ ap (λ (p : Position). and_end bytes (nexts bytes n p)) o.1 ∙ n-nexts-and-the-end bytes (opening_of mode opening) h n few)

      -- as the grid of the C face answers and draws them, where it has room
      pub as-the-grid-through-a-row : (grid : List ℕ) → n ≤ length grid
          → (grid_fault bytes n mode opening grid ≡ plain_fault (drawn (read_through bytes n (open_row mode opening row) out)))
          × (grid_out bytes n mode opening grid ≡ drawn_in grid (read_through bytes n (open_row mode opening row) out))
      unfolding grid_fault grid_out
      as-the-grid-through-a-row grid fits =
          let g = as-the-grid bytes (opening_of mode opening) h n few grid fits in
          let same = n-nexts-and-the-end bytes (opening_of mode opening) h n few ∙ sym n-nexts-and-the-end-through-a-row.1 in
          rw (le-leb mode 1 one) (ap plain_fault g.0 ∙ ap (λ (q : Said (List ℕ)). plain_fault (drawn q)) same, g.1 ∙ ap (drawn_in grid) same)

      -- so of a stream that reads as n values each next answers 0 and the next of them, and the end answers 0
      pub each-answers-0 : (vs : List ℕ) → values_in bytes n (opening_of mode opening) ≡ answered vs → EachAnswersZero bytes (open_row mode opening row) out vs
      each-answers-0 vs e =
          let a = answered-run (nexts bytes n (opened_at (opening_of mode opening))) vs (n-nexts-and-the-end bytes (opening_of mode opening) h n few ∙ e) in
          subst (EachAnswersZero bytes (open_row mode opening row) out) a.2
          (each-of-the-nexts n a.0 a.1 (λ after left. (end_fault bytes after).number ≡ 0)
          (λ after left long is. ap (λ (p : Position). (plain_fault (end_answer bytes p)).number) is ∙ ap (λ (x : Said Done). (plain_fault x).number) a.3))

-- ---- demand 2, from a writer's row to a reader's: what was written through the one reads back through the other as the kept values

module _ {b : ErrorBound} (mode opening : ℕ) {xs buf writer : List ℕ} (R : RowMade b (opening_of mode opening) xs buf writer) (one : mode ≤ 1)
    (h : opening_value (opening_of mode opening) < 2 ^ 32) (bx : Below 32 xs) (most : length xs ≤ most_values) (row out : List ℕ) (words : reader_length ≤ length row) (room : 1 ≤ length out) where
  pub what-was-written-reads-back : read_through (bytes_in_use writer buf) (length_word writer) (open_row mode opening row) out ≡ answered (kept_of b (opening_of mode opening) xs)
  what-was-written-reads-back =
      let used : take (whole_bytes (writer_in writer).place) buf ≡ bytes_in_use writer buf = ap (λ (p : ℕ). take (whole_bytes p) buf) (place-word R) in
      let few : length_word writer ≤ most_values = omega (arith, length-word R) in
      (n-nexts-and-the-end-through-a-row (bytes_in_use writer buf) mode opening row out one words room h (length_word writer) few).1
      ∙ ap₂ (λ (l : List ℕ) (n : ℕ). values_in l n (opening_of mode opening)) (sym used) (length-word R)
      ∙ values-read-back R.made bx h

-- lossless: the inputs
module _ (mode opening : ℕ) {xs buf writer : List ℕ} (R : RowMade Lossless (opening_of mode opening) xs buf writer) (one : mode ≤ 1)
    (h : opening_value (opening_of mode opening) < 2 ^ 32) (bx : Below 32 xs) (most : length xs ≤ most_values) (row out : List ℕ) (words : reader_length ≤ length row) (room : 1 ≤ length out) where
  pub lossless-reads-back-through-a-row : read_through (bytes_in_use writer buf) (length_word writer) (open_row mode opening row) out ≡ answered xs
  lossless-reads-back-through-a-row =
      what-was-written-reads-back mode opening R one h bx most row out words room ∙ ap answered (lossless-keeps-the-inputs (opening_of mode opening) xs)

-- ---- words that stand for no reader

-- a row that stands for no reader, one that is too short among them, is refused with 2 by next and by end
module _ (bytes row : List ℕ) where
  pub no-reader-is-2 : stands_for_reader row ≡ false → ((out : List ℕ) → next_fault bytes row out ≡ fault 2) × (end_fault bytes row ≡ fault 2)
  unfolding fault_said refusal_fault
  no-reader-is-2 h = (λ out. rw (no-reader-next bytes row h), ap plain_fault (no-reader-end bytes row h))

  pub a-short-row-is-2 : length row < reader_length → ((out : List ℕ) → next_fault bytes row out ≡ fault 2) × (end_fault bytes row ≡ fault 2)
  a-short-row-is-2 h = no-reader-is-2 (short-stands-for-none row h)
