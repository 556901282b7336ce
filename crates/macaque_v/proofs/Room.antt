-- How large a stream can get, of the calls: what they answer; the bound, for every list; that a writer which was made has room in so many bytes, and for some list
-- in no fewer; and that from any writer, handed in or made, a write is not refused with 4 where the most bits of its values have room. Assumes nothing.
use mathlib.Core.Path.{◌≡◌, refl, sym, ap, ◌∙◌, subst}
use mathlib.Core.Bool.{Bool, true, false, not, true≢false}
use mathlib.Core.List.{List, [], ◌∷◌, ◌++◌}
use Prim.Native.Nat.{ℕ, ◌+◌, ◌*◌, ◌^◌, ◌≤◌, ◌<◌}
use native.Mathlib.Nat.{min-le_left, zero-add}
use native.Mathlib.Omega.{arith}
use borrow.Author.Tests.{le-leb, le-ltb, lt-leb, lt-ltb, ltb-false, not-false}
use lib.Dec.{leb}
use lib.ListN.{length}
use Rattle.bits.specs.Bits.{Below, whole_bytes}
use Rattle.bits.proofs.Below.{below-nil}
use Rattle.models.specs.Answers.{answered, refused, SaidOn, answered_on, refused_on, fault, ◌when◌, judge, refusing}
use Rattle.models.specs.Causes.{bound_causes, count_causes}
use Rattle.models.specs.Limits.{most_values}
use Rattle.models.specs.Bound.{bound_allowed}
use Rattle.models.specs.declared.ErrorBound.{ErrorBound}
use Rattle.models.specs.declared.ErrorBound.TheVariants.{Lossless}
use Rattle.models.specs.declared.Fault.{Fault}
use Rattle.models.proofs.Judged.{told}
use Rattle.stream.specs.Format.{macaque, raw_next, State, usable}
use Rattle.stream.specs.Write.{kept}
use Rattle.stream.specs.Size.{most_bits, Largest}
use Rattle.stream.proofs.Formats.{macaque-good}
use Rattle.stream.proofs.Writing.{place_after}
use Rattle.stream.proofs.Rule.{fresh-ruled, usable-if}
use Rattle.stream.proofs.Size as size
use Rattle.stream.proofs.Largest.{macaque-patterns, largest}
use Rattle.coding.specs.Keep.{keep_rule}
use Rattle.macaque_v.specs.State.{Known, mode_of, stream_in, state_of, writer_of, is_first, opening_value, opened}
use Rattle.macaque_v.specs.Write.{coder_of, stream_by, rule_by, writer_at, wrote_by}
use Rattle.macaque_v.specs.Calls.{lent_bytes, too_many, new_answer, write_answer}
use Rattle.macaque_v.specs.Made.{state_over, Made}
use Rattle.macaque_v.specs.Size.{most_of, most_bits_answer, most_bytes_answer, Fills}
use Rattle.macaque_v.specs.declared.MacaqueV.{MacaqueV}
use Rattle.macaque_v.specs.declared.Opening.{Opening}
use Rattle.macaque_v.proofs.Accepting.{coder-good, no-bound-refuses, in-theory}
use Rattle.macaque_v.proofs.Promises.{a-fresh-writer, a-write-is-accepted}

pub raw-fresh : (first : Bool) → raw_next (mode_of first) 0 ≡ first
raw-fresh true = refl
raw-fresh false = refl

-- what an answer tells: the count is within its limit, and the number is the bound
pub most-bits-told : (n k : ℕ) (o : Opening) → most_bits_answer n o ≡ answered k → (n ≤ most_values) × (k ≡ most_of n o)
unfolding most_bits_answer
most-bits-told n k o h = let t = told (count_causes n) (most_of n o) k (sym h) in (ltb-false most_values n t.0.0, t.1)

pub most-bytes-told : (n k : ℕ) (o : Opening) → most_bytes_answer n o ≡ answered k → (n ≤ most_values) × (k ≡ whole_bytes (most_of n o))
unfolding most_bytes_answer
most-bytes-told n k o h = let t = told (count_causes n) (whole_bytes (most_of n o)) k (sym h) in (ltb-false most_values n t.0.0, t.1)

-- and what is answered: a count within its limit, or 3
pub most-answered : (n : ℕ) (o : Opening) → n ≤ most_values → (most_bits_answer n o ≡ answered (most_of n o)) × (most_bytes_answer n o ≡ answered (whole_bytes (most_of n o)))
unfolding most_bits_answer most_bytes_answer judge
most-answered n o h = rw (le-ltb most_values n h) (refl, refl)

pub over-the-limit-is-3 : (n : ℕ) (o : Opening) → most_values < n → (most_bits_answer n o ≡ refused (fault 3)) × (most_bytes_answer n o ≡ refused (fault 3))
unfolding most_bits_answer most_bytes_answer judge
over-the-limit-is-3 n o h = rw (lt-ltb most_values n h) (refl, refl)

-- ---- the bound, for every list and every bound of what is kept

-- a fresh run
pub a-stream-is-no-larger : (b : ErrorBound) (o : Opening) (xs : List ℕ) → (state_over b o xs).place ≤ most_of (length xs) o
a-stream-is-no-larger b o xs =
    subst (λ (raw : Bool). (state_over b o xs).place ≤ most_bits macaque raw (length xs)) (raw-fresh (is_first o))
    (omega (arith, size.place-at-most (stream_in (is_first o)) macaque-good (omega arith) (keep_rule b) (opened o) xs))

-- so bytes that hold the most that n values can take have room for any list of no more
pub a-stream-has-room : (b : ErrorBound) (o : Opening) (n bytes : ℕ) → whole_bytes (most_of n o) ≤ bytes → (xs : List ℕ) → length xs ≤ n → (state_over b o xs).place ≤ 8 * bytes
a-stream-has-room b o n bytes room xs few = omega (arith, room, a-stream-is-no-larger b o xs, size.most-grows macaque macaque-good (omega arith) (is_first o) (length xs) n few)

-- a write from any writer, handed in or made
pub a-write-is-no-larger : (m : MacaqueV) (xs : List ℕ) → (wrote_by m xs).place ≤ m.place + most_bits macaque (raw_next (mode_of m.with_first) m.length) (length xs)
a-write-is-no-larger m xs = size.place-at-most (stream_by m) macaque-good (omega arith) (rule_by m) (state_of m) xs

-- ---- room

-- a writer that any chain of writes, stops and resumes has made accepts what is left of n values, where its bytes hold the most that n can take
module _ {b : ErrorBound} {o : Opening} {xs buf : List ℕ} {m : MacaqueV} (M : Made b o xs buf m) (hl : opening_value o < 2 ^ 32) (ok : bound_allowed b ≡ true) where
  pub a-write-has-room : Below 32 xs → (n : ℕ) → n ≤ most_values → whole_bytes (most_of n o) ≤ length buf → (ys : List ℕ) → length xs + length ys ≤ n
      → write_answer m ys buf ≡ answered_on (writer_of b (is_first o) (state_over b o (xs ++ ys)))
  unfolding write_answer
  a-write-has-room bx n most room ys few =
      let fits = subst (λ (raw : Bool). whole_bytes (most_bits macaque raw n) ≤ length buf) (sym (raw-fresh (is_first o))) room in
      ap (λ (w : MacaqueV). write_answer w ys buf) M.writer
      ∙ size.a-write-has-room (coder_of b (is_first o)) (coder-good b (is_first o)) (omega arith) (opening_value o) (in-theory M) bx hl (no-bound-refuses b ok) n most fits ys few

-- what an opened writer tells of its bound
pub new_told : (b : ErrorBound) (o : Opening) (m : MacaqueV) → new_answer b o ≡ answered m → (bound_allowed b ≡ true) × (m ≡ writer_of b (is_first o) (opened o))
unfolding new_answer
new_told b o m h = let t = told (bound_causes b) (writer_of b (is_first o) (opened o)) m (sym h) in (not-false (bound_allowed b) t.0.0, t.1)

-- of any writer at all: with room for the most bits of its values, 4 is no refusal of theirs
pub never-4-with-room : (m : MacaqueV) (xs buf : List ℕ)
    → m.place + most_bits macaque (raw_next (mode_of m.with_first) m.length) (length xs) ≤ 8 * lent_bytes (length buf)
    → (f : Fault) (n : MacaqueV) → write_answer m xs buf ≡ refused_on f n → f.number ≡ 4 → ⊥
unfolding write_answer judge
never-4-with-room m xs buf room f n =
    let bytes : ℕ = lent_bytes (length buf) in
    let fits : leb (wrote_by m xs).place (8 * bytes) ≡ true = le-leb (wrote_by m xs).place (8 * bytes) (omega (arith, room, a-write-is-no-larger m xs)) in
    go m (writer_at m (wrote_by m xs)) (not (bound_allowed m.error_bound)) (not (usable macaque bytes (state_of m))) (too_many m.length (length xs)) (not (leb (wrote_by m xs).place (8 * bytes))) (ap not fits)
  where
    number : SaidOn MacaqueV MacaqueV → ℕ
    number (answered_on w) = 0
    number (refused_on g w) = g.number

    go : (v w : MacaqueV) (p q r s : Bool) → s ≡ false → judge (refusing v) (1 when p ∷ 2 when q ∷ 3 when r ∷ 4 when s ∷ []) (answered_on w) ≡ refused_on f n → f.number ≡ 4 → ⊥
    go v w true q r s e h z = let k : 1 ≡ f.number = ap number h in omega arith
    go v w false true r s e h z = let k : 2 ≡ f.number = ap number h in omega arith
    go v w false false true s e h z = let k : 3 ≡ f.number = ap number h in omega arith
    go v w false false false false e h z = let k : 0 ≡ f.number = ap number h in omega arith
    go v w false false false true e h z = absurd (true≢false e)

-- ---- "for each n a list that reaches the bound", of a lossless writer

module _ (o : Opening) (hl : opening_value o < 2 ^ 32) (n : ℕ) (most : n ≤ most_values) where
  abbrev L : Largest (stream_in (is_first o)) (opening_value o) n
  L = largest (stream_in (is_first o)) macaque-patterns (opening_value o) hl n

  -- the state after them
  abbrev end : State Known
  end = state_over Lossless o L.values

  end-place : end.place ≡ most_of n o
  unfolding keep_rule
  end-place =
      place_after (stream_in (is_first o)) (opened o) (kept (keep_rule Lossless) (stream_in (is_first o)) (opened o) L.values)
      ∙ zero-add _ ∙ L.reached ∙ ap (λ (raw : Bool). most_bits macaque raw n) (raw-fresh (is_first o))

  filled : (m : MacaqueV) → new_answer Lossless o ≡ answered m → (buf : List ℕ) → whole_bytes (most_of n o) ≤ length buf
      → (after : MacaqueV) × (write_answer m L.values buf ≡ answered_on after) × (after.place ≡ most_of n o)
  filled m h buf room =
      let ok : bound_allowed Lossless ≡ true = (new_told Lossless o m h).0 in
      let written = a-write-is-accepted (a-fresh-writer Lossless o buf m h) (below-nil 32) hl ok L.values (omega (arith, L.counted)) (omega (arith, end-place, room)) in
      (writer_of Lossless (is_first o) end, written, end-place)

  too_short : (m : MacaqueV) → new_answer Lossless o ≡ answered m → (buf : List ℕ) → length buf < whole_bytes (most_of n o) → write_answer m L.values buf ≡ refused_on (fault 4) m
  unfolding write_answer judge
  too_short m h buf less =
      let t = new_told Lossless o m h in
      let bytes : ℕ = lent_bytes (length buf) in
      let room : bytes ≤ length buf = min-le_left (length buf) (2 ^ 60) in
      let may : usable macaque bytes (opened o) ≡ true = usable-if macaque macaque-good bytes (opened o) (omega arith) (omega arith) (fresh-ruled (stream_in (is_first o)) (opening_value o)) in
      let few : too_many 0 (length L.values) ≡ false = le-ltb most_values (0 + length L.values) (omega (arith, L.counted)) in
      let over : leb end.place (8 * bytes) ≡ false = lt-leb end.place (8 * bytes) (omega (arith, end-place, room)) in
      subst (λ (w : MacaqueV). write_answer w L.values buf ≡ refused_on (fault 4) w) (sym t.1) (rw (t.0, may, few, over) refl)

  pub a-list-fills : Fills o n
  a-list-fills = record { values = L.values; counted = L.counted; small = L.small; fills = filled; short = too_short }
