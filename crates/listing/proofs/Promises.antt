-- The promise of the calls together: start reading here. What a caller prints by them (`printed`) is the listing of 01; of a stream that breaks off it is
-- the one line of its fault. Assumes nothing.
use mathlib.Core.Path.{◌≡◌, refl, sym, ap, ap₂, ◌∙◌}
use mathlib.Core.Bool.{Bool, true, false, false≢true}
use mathlib.Core.List.{List, [], ◌∷◌, ◌++◌, append_assoc}
use Prim.Native.Nat.{ℕ, zero, suc, ◌+◌, ◌*◌, ◌≤◌, ◌<◌}
use native.Mathlib.Nat.{add-zero, zero-add}
use native.Mathlib.Numerals.{add-one}
use native.Mathlib.Omega.{arith}
use borrow.Author.Tests.{ltb-false, lt-leb, le-ltb, lt-ltb}
use lib.ListN.{length, drop}
use lib.Seq.{drop-drop, length-sets}
use Rattle.bits.specs.Bits.{bits_of}
use Rattle.models.specs.Answers.{Said, answered, refused, Cause, ◌when◌, judge, fault, NoneHolds}
use Rattle.models.specs.declared.Fault.{Fault}
use Rattle.models.specs.Limits.{most_values}
use Rattle.models.proofs.Judged.{accepted, not-refused, same-fault}
use Rattle.stream.specs.Format.{Window, State, is_raw, advance, window_in}
use Rattle.stream.specs.Calls.{fault_at}
use Rattle.stream.specs.Read as stream
use Rattle.stream.specs.Read.{Step, Reading, done, stopped, push, follow, ended, step_at, read_n}
use Rattle.coding.proofs.Words.{read-of-45}
use Rattle.macaque_v.specs.ReadRun.{state_at, ahead}
use Rattle.macaque_v.specs.Inner.ReadRun.{ReadableAt}
use Rattle.macaque_v.specs.Read.{start_of, values_read, values_in}
use Rattle.macaque_v.specs.declared.Opening.TheVariants.{First}
use Rattle.macaque_v.specs.declared.read_run.Cursor.{Cursor}
use Rattle.macaque_v.proofs.ReadingRun.{used-most, readable-next}
use Rattle.macaque_v.proofs.ReadingAll.{start-readable, same-values}
use Rattle.listing.specs.Text.{digit_text, digits_of, places_up_to, header_text, row_text, total_text, refused_text, laid}
use Rattle.listing.specs.Rows.{listed, row_of, rows_by, rows_from, total_bits, rows_text}
use Rattle.listing.specs.Listing.{count_in, stream_in, input_causes, start, read_whole, text_by, stream_text, listing_text}
use Rattle.listing.specs.Calls.{counted, judge_answer, found_by, row_found, RowLine, line_of, line_in, row_answer, row_memory}
use Rattle.listing.specs.declared.Fields.{Fields}
use Rattle.listing.specs.Printed.{line_printed, then_printed, rows_printed, printed_by, printed}
use Rattle.listing.proofs.Putting.{row-most, total-most, refused-most, text-laid}
use Rattle.listing.proofs.Finding.{stands-back}

-- ---- readings that come to their end

abbrev is_done : {A : Type 0} → Reading A → Bool
is_done (done vs s rest) = true
is_done (stopped f) = false

done-push : (v : ℕ) (q : Reading Unit) → is_done (push v q) ≡ is_done q
done-push v (done vs s rest) = refl
done-push v (stopped f) = refl

done-ended : (q : Reading Unit) → is_done (ended q) ≡ true → is_done q ≡ true
unfolding ended
done-ended (done vs s rest) e = refl
done-ended (stopped f) e = e

-- ---- the rows

-- it may be read on from there, and a row may begin
record Standing (bytes : List ℕ) (at : Cursor) : Type 0 where
  readable : ReadableAt bytes at
  near : at.place ≤ 45 * at.count

module _ (bytes : List ℕ) where
  -- a row's call, where the value v is read
  module _ (at : Cursor) (S : Standing bytes at) (few : at.count < most_values) (v : ℕ) (win : Window) (used : ℕ)
      (E : step_at listed (state_at at) (ahead bytes at) ≡ stream.got v win used) where
    abbrev row : Fields
    row = row_of (is_raw listed (state_at at)) (ahead bytes at) v win used

    abbrev next : Cursor
    next = record { last = v; lead = win.lead; trail = win.trail; place = at.place + used; count = at.count + 1 }

    found : row_found bytes at ≡ answered (record { row = row; next = next })
    unfolding row_found
    found = ap (found_by at (ahead bytes at)) E

    row-answers : row_answer bytes at ≡ answered (record { length = length (row_text at.count row); next = next })
    unfolding row_answer judge
    row-answers = rw (stands-back bytes at S.readable S.near (omega arith), lt-leb most_values at.count few) (ap (line_of at) found)

    row-leaves : (line : List ℕ) → row_memory bytes at line ≡ laid (row_text at.count row) line
    unfolding row_memory judge
    row-leaves line = rw (stands-back bytes at S.readable S.near (omega arith), lt-leb most_values at.count few) (ap (line_in line at) found)

    still-stands : Standing bytes next
    still-stands =
        let raw : Bool = is_raw listed (state_at at) in
        let read = read-of-45 raw (window_in at.lead at.trail) at.last (ahead bytes at) ∙ E in
        record {
          readable = readable-next true bytes at S.readable raw refl v win.lead win.trail used read;
          near = omega (arith, S.near, used-most true bytes at S.readable raw refl v win.lead win.trail used read);
        }

    same-state : state_at next ≡ advance listed (state_at at) v win used
    same-state = ap (λ (n : ℕ). record { last = v; win = win; place = at.place + used; count = n; seen = tt }) (add-one at.count)

    same_bits : ahead bytes next ≡ drop used (ahead bytes at)
    same_bits = sym (drop-drop used at.place (bits_of bytes))

  -- what reading goes on with behind a value, and the rows
  abbrev read_on : ℕ → Cursor → ℕ → Window → ℕ → Reading Unit
  read_on n at v win used = push v (read_n listed n (advance listed (state_at at) v win used) (drop used (ahead bytes at)))

  abbrev rows_on : ℕ → Cursor → ℕ → Window → ℕ → List Fields
  rows_on n at v win used = row_of (is_raw listed (state_at at)) (ahead bytes at) v win used ∷ rows_from n (advance listed (state_at at) v win used) (drop used (ahead bytes at))

  -- what is printed of n rows
  abbrev Printed : ℕ → Type 0
  Printed n =
      (at : Cursor) (line : List ℕ) → length line ≡ 80 → Standing bytes at → at.count + n ≤ most_values
      → is_done (read_n listed n (state_at at) (ahead bytes at)) ≡ true
      → rows_printed n bytes at line
      ≡ rows_text at.count (rows_from n (state_at at) (ahead bytes at)) ++ total_text (at.place + total_bits (rows_from n (state_at at) (ahead bytes at)))

  rows-printed : (n : ℕ) → Printed n
  unfolding rows_printed rows_from rows_text total_bits read_n
  rows-printed zero at line e S most D =
      text-laid (total_text at.place) line e (total-most at.place) ∙ ap total_text (sym (add-zero at.place))
  rows-printed (suc n) at line e S most D = go (rows-printed n) (step_at listed (state_at at) (ahead bytes at)) refl
    where
      go : Printed n → (q : Step) → step_at listed (state_at at) (ahead bytes at) ≡ q
          → rows_printed (suc n) bytes at line ≡ rows_text at.count (rows_by q (rows_on n at)) ++ total_text (at.place + total_bits (rows_by q (rows_on n at)))
      go later (stream.halt m) E = absurd (false≢true (sym (ap (λ (t : Step). is_done (follow (state_at at) t (read_on n at))) E) ∙ D))
      go later (stream.got v win used) E =
          let few : at.count < most_values = omega arith in
          let to : Cursor = next at S few v win used E in
          let text : List ℕ = row_text at.count (row at S few v win used E) in
          let fits : length text ≤ 80 = row-most at.count (row at S few v win used E) in
          let p : state_at to ≡ advance listed (state_at at) v win used = same-state at S few v win used E in
          let b : ahead bytes to ≡ drop used (ahead bytes at) = same_bits at S few v win used E in
          let rows : List Fields = rows_from n (advance listed (state_at at) v win used) (drop used (ahead bytes at)) in
          let same : rows_from n (state_at to) (ahead bytes to) ≡ rows = ap₂ (rows_from n) p b in
          let D' : is_done (read_n listed n (state_at to) (ahead bytes to)) ≡ true =
          ap₂ (λ (t : State Unit) (z : List Bool). is_done (read_n listed n t z)) p b
          ∙ sym (done-push v (read_n listed n (advance listed (state_at at) v win used) (drop used (ahead bytes at))))
          ∙ sym (ap (λ (t : Step). is_done (follow (state_at at) t (read_on n at))) E)
          ∙ D in
          let most' : to.count + n ≤ most_values = omega arith in
          let long : length (laid text line) ≡ 80 = length-sets line 0 text ∙ e in
          let places : at.place + used + total_bits rows ≡ at.place + (used + total_bits rows) = omega arith in
          ap₂ (λ (r : Said RowLine) (m : List ℕ). then_printed r m (λ z. rows_printed n bytes z m)) (row-answers at S few v win used E) (row-leaves at S few v win used E line)
          ∙ ap₂ (λ (x y : List ℕ). x ++ y) (text-laid text line e fits)
          (later to (laid text line) long (still-stands at S few v win used E) most' D'
          ∙ ap₂ (λ (k : ℕ) (rs : List Fields). rows_text k rs ++ total_text (at.place + used + total_bits rs)) (add-one at.count) same
          ∙ ap (λ (k : ℕ). rows_text (suc at.count) rows ++ total_text k) places)
          ∙ sym (append_assoc text (rows_text (suc at.count) rows) (total_text (at.place + (used + total_bits rows))))

-- ---- the whole

module _ (f : Said ℕ → List ℕ) (each : (k : Fault) → f (refused k) ≡ refused_text k) (x : Said ℕ) (y : List ℕ) where
  by-causes : (causes : List Cause) → (NoneHolds causes → f x ≡ y) → f (judge refused causes x) ≡ judge refused_text causes y
  unfolding judge
  by-causes [] h = h tt
  by-causes (n when true ∷ causes) h = each (fault n)
  by-causes (n when false ∷ causes) h = by-causes causes (λ k. h (refl, k))

module _ (input line : List ℕ) (e : length line ≡ 80) where
  refusal-printed : (f : Fault) → line_printed (refused_text f) line ≡ refused_text f
  refusal-printed f = text-laid (refused_text f) line e (omega (arith, refused-most f))

  stream-printed : (bytes : List ℕ) (n : ℕ) → n ≤ most_values → printed_by bytes line (counted n (read_whole n bytes)) ≡ stream_text n bytes
  stream-printed bytes n most = go (read_whole n bytes) refl
    where
      go : (q : Reading Unit) → read_whole n bytes ≡ q → printed_by bytes line (counted n q) ≡ text_by (rows_from n start (bits_of bytes)) q
      go (stopped f) E = refusal-printed (fault_at f)
      go (done vs s rest) E =
          let rows : List Fields = rows_from n start (bits_of bytes) in
          let D : is_done (read_n listed n start (bits_of bytes)) ≡ true = done-ended (read_n listed n start (bits_of bytes)) (ap is_done E) in
          let most' : 0 + n ≤ most_values = omega arith in
          ap (λ (t : List ℕ). header_text ++ t)
          (rows-printed bytes n (start_of First) line e (record { readable = start-readable bytes First (omega arith); near = omega arith }) most' D
          ∙ ap (λ (k : ℕ). rows_text 0 rows ++ total_text k) (zero-add (total_bits rows)))
          ∙ sym (append_assoc header_text (rows_text 0 rows) (total_text (total_bits rows)))

  -- what is printed of an input is its listing, whatever the array held
  pub the-listing : printed input line ≡ listing_text input
  unfolding printed judge_answer listing_text
  the-listing =
      by-causes (printed_by (stream_in input) line) refusal-printed (counted (count_in input) (read_whole (count_in input) (stream_in input))) (stream_text (count_in input) (stream_in input)) (input_causes input)
      (λ fine. stream-printed (stream_in input) (count_in input) (ltb-false most_values (count_in input) fine.1.1.0))

  -- "On a refusal the only line", which "becomes `refused`, number, value, place, with single spaces"
  pub one_line : (f : Fault) → judge_answer input ≡ refused f → listing_text input ≡ refused_text f
  unfolding printed
  one_line f h = sym the-listing ∙ ap (printed_by (stream_in input) line) h ∙ refusal-printed f

  -- a stream that breaks off is said to break where every call that reads it says so: all that is printed is the line of that fault
  pub the-listing-says-where : (f : Fault) → NoneHolds (input_causes input) → values_in (stream_in input) (count_in input) First ≡ refused f → printed input line ≡ refused_text f
  unfolding listing_text
  the-listing-says-where f fine broken =
      the-listing ∙ sym (accepted refused_text _ (input_causes input) fine)
      ∙ go (read_whole (count_in input) (stream_in input)) (sym (same-values (stream_in input) First (count_in input)) ∙ broken)
    where
      go : (q : Reading Unit) → values_read q ≡ refused f → text_by (rows_from (count_in input) start (bits_of (stream_in input))) q ≡ refused_text f
      go (done vs s rest) b = absurd (not-refused b)
      go (stopped r) b = ap refused_text (same-fault b)

  -- "fewer than 4 with 5": an input that has no whole count breaks off at its start, `refused 5 0 0`
  pub no-whole-count : length input < 4
      → printed input line ≡ 114 ∷ 101 ∷ 102 ∷ 117 ∷ 115 ∷ 101 ∷ 100 ∷ 32 ∷ 53 ∷ 32 ∷ 48 ∷ 32 ∷ 48 ∷ 10 ∷ []
  unfolding listing_text judge refused_text digits_of places_up_to digit_text
  no-whole-count few = the-listing ∙ rw (le-ltb 32768 (length input) (omega arith), lt-ltb (length input) 4 few)
