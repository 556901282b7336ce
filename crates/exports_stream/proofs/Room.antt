-- How large a stream can get, of rows: what the calls answer and refuse; that a row which was made has room in so many bytes, and for some list in no fewer; and
-- that through any row a write is not refused with 4 where the most bits of its values have room. Assumes nothing.
use mathlib.Core.Path.{◌≡◌, refl, sym, ap, ◌∙◌}
use mathlib.Core.Bool.{Bool, true, false, cond}
use mathlib.Core.List.{List}
use Prim.Native.Nat.{ℕ, zero, suc, ◌+◌, ◌*◌, ◌^◌, ◌≤◌, ◌<◌}
use native.Mathlib.Omega.{arith}
use borrow.Author.Tests.{le-leb, le-ltb, lt-leb, lt-ltb}
use lib.Dec.{eqb}
use lib.ListN.{length}
use Rattle.bits.specs.Bits.{Below, whole_bytes}
use Rattle.models.specs.Answers.{fault, no_fault, answered, SaidOn, answered_on, refused_on, judge}
use Rattle.models.specs.Limits.{most_values}
use Rattle.models.specs.Bound.{bound_allowed}
use Rattle.models.specs.declared.ErrorBound.{ErrorBound}
use Rattle.models.specs.declared.ErrorBound.TheVariants.{Lossless}
use Rattle.stream.specs.Format.{macaque, raw_next}
use Rattle.stream.specs.Write.{kept_from, after}
use Rattle.stream.specs.Size.{most_bits}
use Rattle.macaque_v.specs.State.{mode_of, opening_value}
use Rattle.macaque_v.specs.Calls.{lent_bytes, new_answer, write_answer}
use Rattle.macaque_v.specs.Size.{most_of, most_bits_answer, most_bytes_answer, Fills}
use Rattle.macaque_v.specs.declared.MacaqueV.{MacaqueV}
use Rattle.macaque_v.specs.declared.Opening.{Opening}
use Rattle.macaque_v.specs.declared.Opening.TheVariants.{First, On}
use Rattle.macaque_v.proofs.Room.{a-write-has-room, never-4-with-room, a-list-fills}
use Rattle.exports.specs.Face.{bound_of, step_fault, step_row}
use Rattle.exports_stream.specs.Row.{writer_length, place_word, written_row, stands_for_state, writer_in}
use Rattle.exports_stream.specs.Calls.{opening_of, new_row, write_fault, write_row, RowMade}
use Rattle.exports_stream.specs.Size.{most_bits_fault, most_bits_number, most_bytes_fault, most_bytes_number, RowFills}
use Rattle.exports_stream.proofs.Words.{a-state}
use Rattle.exports_stream.proofs.Promises.{a-new-row, new-opens}

-- ---- what the two calls answer

-- the opening value does not enter
same-most : (n mode value : ℕ) → most_of n (opening_of mode value) ≡ most_of n (opening_of mode 0)
same-most n mode value = go (eqb mode 0)
  where
    go : (t : Bool) → most_of n (cond t First (On value)) ≡ most_of n (cond t First (On 0))
    go true = refl
    go false = refl

module _ (n mode : ℕ) (most : n ≤ most_values) (mode-is : mode ≤ 1) (old value : ℕ) where
  pub most-bits-say : (most_bits_fault n mode ≡ no_fault) × (most_bits_number n mode old ≡ most_of n (opening_of mode value))
  unfolding most_bits_fault most_bits_number most_bits_answer judge
  most-bits-say = rw (le-leb mode 1 mode-is, le-ltb most_values n most) (refl, sym (same-most n mode value))

  pub most-bytes-say : (most_bytes_fault n mode ≡ no_fault) × (most_bytes_number n mode old ≡ whole_bytes (most_of n (opening_of mode value)))
  unfolding most_bytes_fault most_bytes_number most_bytes_answer judge
  most-bytes-say = rw (le-leb mode 1 mode-is, le-ltb most_values n most) (refl, ap whole_bytes (sym (same-most n mode value)))

-- a mode above 1 is refused with 3, and so is a count above its limit; the number stays
module _ (n mode old : ℕ) where
  pub no-mode-is-3 : 1 < mode → (most_bits_fault n mode ≡ fault 3) × (most_bits_number n mode old ≡ old) × (most_bytes_fault n mode ≡ fault 3) × (most_bytes_number n mode old ≡ old)
  unfolding most_bits_fault most_bits_number most_bits_answer most_bytes_fault most_bytes_number most_bytes_answer judge
  no-mode-is-3 h = rw (lt-leb mode 1 h) (refl, refl, refl, refl)

  pub over-the-limit-is-3 : mode ≤ 1 → most_values < n
      → (most_bits_fault n mode ≡ fault 3) × (most_bits_number n mode old ≡ old) × (most_bytes_fault n mode ≡ fault 3) × (most_bytes_number n mode old ≡ old)
  unfolding most_bits_fault most_bits_number most_bits_answer most_bytes_fault most_bytes_number most_bytes_answer judge
  over-the-limit-is-3 h p = rw (le-leb mode 1 h, lt-ltb most_values n p) (refl, refl, refl, refl)

-- ---- room

-- a row that any chain of writes, stops and resumes has made accepts what is left of n values, where its bytes hold the most that n can take
pub a-row-has-room : {b : ErrorBound} {o : Opening} {xs buf row : List ℕ} → RowMade b o xs buf row → opening_value o < 2 ^ 32 → bound_allowed b ≡ true → Below 32 xs → (n : ℕ)
    → n ≤ most_values → whole_bytes (most_of n o) ≤ length buf → (ys : List ℕ) → length xs + length ys ≤ n → write_fault row ys buf ≡ no_fault
a-row-has-room R hl ok bx n most room ys few = ap step_fault (a-write-has-room R.made hl ok bx n most room ys few)

-- of any row at all: with room for the most bits of its values, 4 is no refusal of theirs
pub never-4-with-room-through-a-row : (row ys buf : List ℕ)
    → (writer_in row).place + most_bits macaque (raw_next (mode_of (writer_in row).with_first) (writer_in row).length) (length ys) ≤ 8 * lent_bytes (length buf)
    → (write_fault row ys buf).number ≡ 4 → ⊥
never-4-with-room-through-a-row row ys buf room = go (write_answer (writer_in row) ys buf) refl
  where
    go : (q : SaidOn MacaqueV MacaqueV) → write_answer (writer_in row) ys buf ≡ q → (step_fault q).number ≡ 4 → ⊥
    go (answered_on n) e z = omega arith
    go (refused_on f n) e z = never-4-with-room (writer_in row) ys buf room f n e z

more-without-a-first : (raw : Bool) (n : ℕ) → most_bits macaque raw n ≤ most_bits macaque false n
more-without-a-first false n = omega arith
more-without-a-first true zero = omega arith
more-without-a-first true (suc zero) = omega arith
more-without-a-first true (suc (suc n)) = omega arith

-- in words that a caller has: the bits that the row's word 8 counts, and those that `most_bits` gives without a first value
pub behind-any-row : (row ys buf : List ℕ) → stands_for_state row ≡ true → length ys ≤ most_values → (old : ℕ)
    → place_word row + most_bits_number (length ys) 1 old ≤ 8 * lent_bytes (length buf) → (write_fault row ys buf).number ≡ 4 → ⊥
behind-any-row row ys buf h few old room =
    let m : MacaqueV = writer_in row in
    let p : place_word row ≡ m.place = ap (λ (w : MacaqueV). w.place) (a-state row h) in
    let say : most_bits_number (length ys) 1 old ≡ most_bits macaque false (length ys) = (most-bits-say (length ys) 1 few (omega arith) old 0).1 in
    never-4-with-room-through-a-row row ys buf (omega (arith, room, p, say, more-without-a-first (raw_next (mode_of m.with_first) m.length) (length ys)))

-- ---- a list that fills it

module _ (mode value n : ℕ) (mode-is : mode ≤ 1) (hl : opening_value (opening_of mode value) < 2 ^ 32) (most : n ≤ most_values) where
  abbrev L : Fills (opening_of mode value) n
  L = a-list-fills (opening_of mode value) hl n most

  abbrev new : List ℕ → List ℕ
  new row = new_row 0 0 mode value row

  lossless-allowed : bound_allowed (bound_of 0 0) ≡ true
  unfolding bound_of bound_allowed
  lossless-allowed = refl

  -- the writer that a new row stands for
  opens : (row buf : List ℕ) → writer_length ≤ length row → new_answer Lossless (opening_of mode value) ≡ answered (writer_in (new row))
  unfolding bound_of kept_from after
  opens row buf words =
      let R = (a-new-row 0 0 mode value row hl lossless-allowed mode-is words).1 buf in
      new-opens 0 0 mode value row hl lossless-allowed mode-is words ∙ ap answered (sym R.made.writer)

  filled : (row buf : List ℕ) → writer_length ≤ length row → most_bytes_number n mode 0 ≤ length buf
      → (write_fault (new row) L.values buf ≡ no_fault) × (place_word (write_row (new row) L.values buf) ≡ most_bits_number n mode 0)
  unfolding written_row
  filled row buf words room =
      let f = L.fills (writer_in (new row)) (opens row buf words) buf (omega (arith, room, (most-bytes-say n mode most mode-is 0 value).1)) in
      let place = ap (λ (q : SaidOn MacaqueV MacaqueV). place_word (step_row (written_row (new row)) (new row) q)) f.1 in
      (ap step_fault f.1, place ∙ f.2 ∙ sym (most-bits-say n mode most mode-is 0 value).1)

  short : (row buf : List ℕ) → writer_length ≤ length row → length buf < most_bytes_number n mode 0 → write_fault (new row) L.values buf ≡ fault 4
  short row buf words less = ap step_fault (L.short (writer_in (new row)) (opens row buf words) buf (omega (arith, less, (most-bytes-say n mode most mode-is 0 value).1)))

  pub a-list-fills-a-row : RowFills mode value n
  a-list-fills-a-row = record { values = L.values; counted = L.counted; small = L.small; fills = filled; short = short }
