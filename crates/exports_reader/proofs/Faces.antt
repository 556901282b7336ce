-- What the calls on a reader's row answer and leave, case by case; and a row is read back as the reader that it was made of. Assumes nothing.
use mathlib.Core.Path.{◌≡◌, refl, sym, ap, ap₂, ◌∙◌}
use mathlib.Core.Bool.{Bool, true, false, cond}
use mathlib.Core.List.{List, ◌∷◌, ◌++◌}
use Prim.Native.Nat.{ℕ, ◌*◌, ◌%◌, ◌^◌, ◌≤◌, ◌<◌}
use native.Mathlib.Omega.{arith}
use borrow.Author.Tests.{le-leb, lt-leb, leb-true, lt-ltb}
use Rattle.std.specs.Prelude.{Ok}
use lib.Dec.{eqb, leb}
use lib.ListN.{length, drop, get_or}
use Rattle.models.specs.Answers.{fault, no_fault, answered, refused, SaidOn, answered_on, refused_on, stateless, judge}
use Rattle.models.specs.declared.Fault.{Fault}
use Rattle.models.proofs.Judged.{not-answered-on}
use Rattle.models.proofs.Tests.{and_left, and_right, and_parts, and-false}
use Rattle.stream.specs.Format.{keeps_rule}
use Rattle.macaque_v.specs.Calls.{lent_bytes}
use Rattle.exports.specs.Face.{refusal_fault, fault_said, row_after, ask_fault, ask_row, row_in, step_row}
use Rattle.exports.specs.Words.{small}
use Rattle.exports.proofs.Back.{flag_small, flag-back}
use Rattle.exports.proofs.Small.{low-is}
use Rattle.exports.specs.Inner.Put.{front_after}
use Rattle.exports.proofs.Rows.{Faced, put, same, refused-row, full-row}
use Rattle.reader.specs.Calls.{may_use, Taken, next_answer, end_answer}
use Rattle.reader.specs.declared.position.Position.{Position}
use Rattle.exports_reader.specs.Row.{reader_length, reader_row, stands_for_reader, spoiled_position, read_position, position_in}
use Rattle.exports_reader.specs.Calls.{one_value, moved_row, next_row}

-- ---- the words of a reader that were put into a row
pub put-reader : (row : List ℕ) (p : Position) (ws : List ℕ) → ws ≡ reader_row p → {told : Fault} {after : List ℕ} → told ≡ fault_said (length ws) (length row) (answered ws) → after ≡ front_after ws row
    → Faced reader_row reader_length row (answered p) told after
unfolding row_after front_after reader_row
put-reader row p ws is f r = put reader_row reader_length row (answered p) (Ok tt) ws (ap length is) (ap answered is) (f, r)

-- ---- next

module _ (row out : List ℕ) (said : SaidOn Position Taken) where
  -- the fault, the reader's row and the output
  abbrev Nexted : Fault → List ℕ → List ℕ → Type 0
  Nexted told row' out' = (told ≡ ask_fault 1 (length out) said) × (row' ≡ next_row row out said) × (out' ≡ ask_row 1 one_value out said)

  pub next-refused : (f : Fault) (p : Position) → said ≡ refused_on f p → Nexted (refusal_fault 1 (length out) f) row out
  unfolding next_row
  next-refused f p e =
      let a = refused-row one_value 1 out (stateless said) f (ap stateless e) refl in
      (a.0, sym (ap (λ (q : SaidOn Position Taken). cond (leb 1 (length out)) (step_row moved_row row q) row) e ∙ same (leb 1 (length out)) row), a.1)

  pub next-answered : (t : Taken) → said ≡ answered_on t → 1 ≤ length out → Nexted no_fault (row_in reader_row row (answered t.after)) (t.value ∷ drop 1 out)
  unfolding next_row
  next-answered t e g =
      let a = full-row one_value 1 out (stateless said) t (ap stateless e) g in
      (a.0, sym (rw (le-leb 1 (length out) g) (ap (step_row moved_row row) e)), a.1)

-- ---- where a reader stands, from its row

-- with these three words of 32 bits
abbrev pub standing : List ℕ → ℕ → ℕ → ℕ → Position
standing row last lead trail =
    record { with_first = eqb (get_or row 3 0) 1; at = record { last = last; lead = lead; trail = trail; place = get_or row 4 0; count = get_or row 5 0 } }

module _ (row : List ℕ) where
  -- a row that is too short stands for none
  pub short-stands-for-none : length row < reader_length → stands_for_reader row ≡ false
  unfolding stands_for_reader
  short-stands-for-none h = rw (lt-leb reader_length (length row) h)

  pub no_reader : stands_for_reader row ≡ false → spoiled_position ≡ position_in row
  unfolding position_in
  no_reader e = sym (rw e)

  module _ (e : stands_for_reader row ≡ true) where
    pub has_words : reader_length ≤ length row
    unfolding stands_for_reader
    has_words = leb-true reader_length (length row) (and_left _ _ e)

    -- its three words of 32 bits
    pub small-words : (small (get_or row 0 0) ≡ true) × (small (get_or row 1 0) ≡ true) × (small (get_or row 2 0) ≡ true)
    unfolding stands_for_reader
    small-words =
        let e₀ = and_parts (small (get_or row 0 0)) _ (and_right (leb reader_length (length row)) _ e) in
        let e₁ = and_parts (small (get_or row 1 0)) _ e₀.1 in
        (e₀.0, e₁.0, and_left (small (get_or row 2 0)) _ e₁.1)

    pub low-words : standing row (get_or row 0 0 % 2 ^ 32) (get_or row 1 0 % 2 ^ 32) (get_or row 2 0 % 2 ^ 32) ≡ read_position row
    low-words =
        ap₂ (λ (x y : ℕ). standing row x y (get_or row 2 0 % 2 ^ 32)) (low-is (get_or row 0 0) small-words.0) (low-is (get_or row 1 0) small-words.1)
        ∙ ap (standing row (get_or row 0 0) (get_or row 1 0)) (low-is (get_or row 2 0) small-words.2)

    pub a-reader : read_position row ≡ position_in row
    unfolding position_in
    a-reader = sym (rw e)

-- ---- a row that stands for no reader is refused with 2

spoiled-may-not : (bytes : ℕ) → may_use bytes spoiled_position.at ≡ false
unfolding keeps_rule
spoiled-may-not bytes = and-false (leb spoiled_position.at.place (8 * lent_bytes bytes)) _ refl

module _ (bytes row : List ℕ) where
  module _ (none : stands_for_reader row ≡ false) where
    pub no-reader-next : next_answer bytes (position_in row) ≡ refused_on (fault 2) (position_in row)
    unfolding next_answer judge
    no-reader-next = rw (← no_reader row none, spoiled-may-not (length bytes))

    pub no-reader-end : end_answer bytes (position_in row) ≡ refused (fault 2)
    unfolding end_answer judge
    no-reader-end = rw (← no_reader row none, spoiled-may-not (length bytes))

  -- so a value tells that the row stands for one
  pub stands : (t : Taken) → next_answer bytes (position_in row) ≡ answered_on t → stands_for_reader row ≡ true
  stands t e = go (stands_for_reader row) refl
    where
      go : (b : Bool) → stands_for_reader row ≡ b → b ≡ true
      go true h = refl
      go false h = absurd (not-answered-on (sym (no-reader-next h) ∙ e))

-- ---- the row that a call left stands for the reader that it was made of
pub position-back : (p : Position) (rest : List ℕ) → p.at.last < 2 ^ 32 → p.at.lead < 2 ^ 32 → p.at.trail < 2 ^ 32 → position_in (reader_row p ++ rest) ≡ p
unfolding position_in reader_row stands_for_reader
position-back p rest a b c =
    rw (le-leb reader_length (length (reader_row p ++ rest)) (omega arith), lt-ltb p.at.last (2 ^ 32) a, lt-ltb p.at.lead (2 ^ 32) b, lt-ltb p.at.trail (2 ^ 32) c, flag_small p.with_first, flag-back p.with_first)
