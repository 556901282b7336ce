-- The promises of rescue through a row: what it keeps of a stream that was cut at any byte, what it leaves of any bytes at all, its sum, and what it refuses.
-- Assumes nothing.
use mathlib.Core.Path.{◌≡◌, refl, sym, ap, ap₂, ◌∙◌, subst}
use mathlib.Core.Bool.{true, false}
use mathlib.Core.List.{List, [], ◌∷◌, ◌++◌}
use mathlib.Core.Logic.{◌⊎◌, inl, inr}
use Prim.Native.Nat.{ℕ, ◌^◌, ◌≤◌, ◌<◌}
use native.Mathlib.Omega.{arith}
use borrow.Author.Tests.{le-leb, lt-leb, ltb-false}
use lib.Dec.{ltb}
use lib.ListN.{length, take, drop}
use lib.Seq.{length-take-le}
use Rattle.bits.specs.Bits.{Below, bits_of, whole_bytes}
use Rattle.bits.proofs.Below.{below-take, below-append}
use Rattle.models.specs.Answers.{fault, no_fault, Said, answered, refused, Cause, ◌when◌, judge, verdict, itself, keeping, NoneHolds}
use Rattle.models.specs.declared.Fault.{Fault}
use Rattle.models.specs.Limits.{most_values}
use Rattle.models.specs.Bound.{bound_allowed}
use Rattle.models.specs.declared.ErrorBound.{ErrorBound}
use Rattle.models.proofs.Judged.{answered-only}
use Rattle.stream.specs.Format.{Stream}
use Rattle.stream.specs.Read.{Reading, done, stopped, state_read}
use Rattle.stream.specs.Rescue.{read_whole}
use Rattle.stream.specs.Calls.{resumed}
use Rattle.stream.proofs.Rescue.{ArrivedOf, arrived}
use Rattle.stream.proofs.RescueCalls.{same-causes, rescue-says}
use Rattle.models.specs.Causes.{bound_causes}
use Rattle.macaque_v.specs.State.{Known, stream_in, writer_of, is_first, opening_value, opened}
use Rattle.macaque_v.specs.Write.{coder_of}
use Rattle.macaque_v.specs.Calls.{write_answer}
use Rattle.macaque_v.specs.Read.{values_in, rescue_causes, rescue_answer, rescue_memory}
use Rattle.macaque_v.specs.Made.{Made}
use Rattle.macaque_v.specs.Rescued.{writer_behind, Saves, Rescues}
use Rattle.macaque_v.specs.declared.MacaqueV.{MacaqueV}
use Rattle.macaque_v.specs.declared.Opening.{Opening}
use Rattle.macaque_v.proofs.Promises as call
use Rattle.exports.specs.Face.{bound_of, plain_fault, row_in, step_fault}
use Rattle.exports.proofs.Back.{bound-of-held}
use Rattle.exports_stream.specs.Row.{writer_length, writer_row, writer_in, place_word, length_word}
use Rattle.exports_stream.specs.Calls.{opening_of, count_in, reopen_fault, reopen_row, reopen_buffer, grid_fault, grid_out, RowMade, RowSumsAsTheCall}
use Rattle.exports_stream.specs.Rescue.{rescue_face_causes, rescue_said, rescue_fault, rescue_row, rescue_buffer, RowSaves, RowRescues}
use Rattle.exports.proofs.Numbers.{judged-so}
use Rattle.exports_stream.proofs.Promises.{row_made, made_row, length-word, a-row-goes-on, opened-fault, opened-row, opened-buffer, reopened-fault, reopened-row, reopened-buffer}
use Rattle.exports_stream.proofs.Sums.{none-of-them, a-reopened-row-sums}

-- ---- where the call behind answers a writer

rescued-free : (buf : List ℕ) (used limit : ℕ) (o : Opening) (b : ErrorBound) (n : MacaqueV) → rescue_answer buf used limit o b ≡ answered n → NoneHolds (rescue_causes b (length buf) used limit)
unfolding rescue_answer
rescued-free buf used limit o b n h = (answered-only (rescue_causes b (length buf) used limit) _ n h).0

module _ (kind bound mode value : ℕ) (row : List ℕ) (mode-is : mode ≤ 1) (words : writer_length ≤ length row) (buf : List ℕ) (used limit : ℕ) (now : MacaqueV)
    (opens : rescue_answer buf used limit (opening_of mode value) (bound_of kind bound) ≡ answered now) where
  abbrev causes : List Cause
  causes = rescue_causes (bound_of kind bound) (length buf) used limit

  none : NoneHolds causes
  none = rescued-free buf used limit (opening_of mode value) (bound_of kind bound) now opens

  pub rescued-fault : rescue_fault buf used limit mode value kind bound row ≡ no_fault
  unfolding rescue_fault
  rescued-fault = rw (le-leb mode 1 mode-is) (opened-fault buf row words causes none _ now opens)

  pub rescued-row : rescue_row buf used limit mode value kind bound row ≡ writer_row now ++ drop (length (writer_row now)) row
  unfolding rescue_row
  rescued-row = rw (le-leb mode 1 mode-is) (opened-row buf row words causes none _ now opens)

  pub rescued-buffer : rescue_buffer buf used limit mode value kind bound row ≡ rescue_memory buf used limit (opening_of mode value) (bound_of kind bound)
  unfolding rescue_buffer
  rescued-buffer = rw (le-leb mode 1 mode-is) (opened-buffer buf row words causes none _)

-- ---- demand 3, of rows: a stream that was cut at any byte

module _ (kind bound mode value : ℕ) (row : List ℕ) (mode-is : mode ≤ 1) (words : writer_length ≤ length row) (hl : opening_value (opening_of mode value) < 2 ^ 32) (ok : bound_allowed (bound_of kind bound) ≡ true)
    {xs all : List ℕ} {m : MacaqueV} (M : Made (bound_of kind bound) (opening_of mode value) xs all m) (bx : Below 32 xs) (most : length xs ≤ most_values)
    (j : ℕ) (within : j ≤ whole_bytes m.place) (buf : List ℕ) (same : take j buf ≡ take j all) where
  abbrev b : ErrorBound
  b = bound_of kind bound

  abbrev o : Opening
  o = opening_of mode value

  abbrev after : List ℕ
  after = rescue_row buf j (length xs) mode value kind bound row

  abbrev left : List ℕ
  left = rescue_buffer buf j (length xs) mode value kind bound row

  R : Saves b o xs j buf
  R = call.rescue-keeps-what-arrived M bx hl ok most j within buf same

  abbrev now : MacaqueV
  now = writer_behind b o xs R.number

  left_is : left ≡ rescue_memory buf j (length xs) o b
  left_is = rescued-buffer kind bound mode value row mode-is words buf j (length xs) now R.answers

  row_is : after ≡ writer_row now ++ drop (length (writer_row now)) row
  row_is = rescued-row kind bound mode value row mode-is words buf j (length xs) now R.answers

  made : RowMade b o (take R.number xs) left after
  made =
      row_made (subst (λ (z : List ℕ). Made b o (take R.number xs) z now) (sym left_is) R.made) hl (below-take 32 R.number xs bx) (bound-of-held kind bound) _ row_is

  stands-for : writer_in after ≡ now
  stands-for = ap writer_in row_is ∙ made_row R.made hl (below-take 32 R.number xs bx) (bound-of-held kind bound) _

  pub a-row-is-rescued : RowSaves mode value kind bound xs j buf row
  a-row-is-rescued =
      record {
        saves = R;
        opens = rescued-fault kind bound mode value row mode-is words buf j (length xs) now R.answers;
        counted = length-word made ∙ length-take-le R.number xs R.few;
        made = made;
        accepts = λ ys few room. ap step_fault (ap₂ (λ (w : MacaqueV) (z : List ℕ). write_answer w ys z) stands-for left_is ∙ R.accepts ys few room);
        goes_on = λ ys by zero. a-row-goes-on made hl ys (below-append 32 (take R.number xs) ys (below-take 32 R.number xs bx) by) zero;
        any_limit = λ lt i le few.
            let a = R.any_limit lt i le few in
            let answers = a.0 ∙ R.answers in (
              rescued-fault kind bound mode value row mode-is words buf j i now answers,
              rescued-row kind bound mode value row mode-is words buf j i now answers ∙ sym row_is,
              rescued-buffer kind bound mode value row mode-is words buf j i now answers ∙ a.1 ∙ sym left_is,
            );
      }

-- ---- any bytes at all

-- no refusal has the number 0
abbrev Opened : Said MacaqueV → Type 0
Opened q = (plain_fault q).number ≡ 0 → (m : MacaqueV) × (q ≡ answered m)

a-rescue-told : (buf : List ℕ) (used limit : ℕ) (o : Opening) (b : ErrorBound) → Opened (rescue_answer buf used limit o b)
unfolding rescue_answer
a-rescue-told buf used limit o b =
    judged-so Opened refused (λ j pos z. absurd (omega (arith, pos, z))) (rescue_causes b (length buf) used limit) (omega arith, (omega arith, (omega arith, tt))) _
    (go (read_whole S limit (opened o) (bits_of (take used buf))) (arrived S limit (opened o) (bits_of (take used buf))))
  where
    S : Stream Known
    S = stream_in (is_first o)

    go : (q : Reading Known) → ArrivedOf S limit (opened o) (bits_of (take used buf)) q → Opened (resumed (coder_of b (is_first o)) (state_read q))
    go (done vs t r) a z = (writer_of b (is_first o) t, refl)
    go (stopped f) d z = absurd (numbered d.other)
      where
        numbered : (f.no ≡ 6) ⊎ (f.no ≡ 7) → ⊥
        numbered (inl e) = omega (arith, e, z)
        numbered (inr e) = omega (arith, e, z)

-- the words of the place and of the length
pub place_in : (m : MacaqueV) (rest : List ℕ) → place_word (writer_row m ++ rest) ≡ m.place
unfolding writer_row
place_in m rest = refl

pub length-in : (m : MacaqueV) (rest : List ℕ) → length_word (writer_row m ++ rest) ≡ m.length
unfolding writer_row
length-in m rest = refl

module _ (mode value kind bound limit used : ℕ) (buf row : List ℕ) (mode-is : mode ≤ 1) (hl : opening_value (opening_of mode value) < 2 ^ 32)
    (zero : (rescue_fault buf used limit mode value kind bound row).number ≡ 0) where
  abbrev then-row : List ℕ
  then-row = rescue_row buf used limit mode value kind bound row

  abbrev then-buffer : List ℕ
  then-buffer = rescue_buffer buf used limit mode value kind bound row

  told : NoneHolds (rescue_face_causes buf used limit mode kind bound row) × ((plain_fault (rescue_said buf used limit mode value kind bound)).number ≡ 0)
  unfolding rescue_fault
  told = none-of-them (rescue_face_causes buf used limit mode kind bound row) (omega arith, (omega arith, (omega arith, (omega arith, tt)))) (plain_fault (rescue_said buf used limit mode value kind bound)) zero

  said : (m : MacaqueV) × (rescue_answer buf used limit (opening_of mode value) (bound_of kind bound) ≡ answered m)
  said =
      let s = a-rescue-told buf used (count_in mode limit) (opening_of mode value) (bound_of kind bound) told.1 in
      (s.0, subst (λ (n : ℕ). rescue_answer buf used n (opening_of mode value) (bound_of kind bound) ≡ answered s.0) in-mode s.1)
    where
      in-mode : count_in mode limit ≡ limit
      in-mode = rw (le-leb mode 1 mode-is)

  words : writer_length ≤ length row
  words = ltb-false (length row) writer_length told.0.1.1.1.0

  -- reopening what it leaves is what it left
  pub a-rescued-row-is-a-reopened-one : RowRescues mode value kind bound limit used buf row
  unfolding grid_fault grid_out
  a-rescued-row-is-a-reopened-one =
      let o : Opening = opening_of mode value in
      let b : ErrorBound = bound_of kind bound in
      let m : MacaqueV = said.0 in
      let rest : List ℕ = drop (length (writer_row m)) row in
      let R : Rescues b o limit used buf m = call.what-is-rescued-reads-back b o hl buf used limit m said.1 in
      let most : limit ≤ most_values = (rescue-says (bound_causes b) (length buf) used limit (rescued-free buf used limit o b m said.1)).1 in
      let mem : List ℕ = rescue_memory buf used limit o b in
      let row_is : then-row ≡ writer_row m ++ rest = rescued-row kind bound mode value row mode-is words buf used limit m said.1 in
      let buffer-is : then-buffer ≡ mem = rescued-buffer kind bound mode value row mode-is words buf used limit m said.1 in
      let count : length_word then-row ≡ m.length = ap length_word row_is ∙ length-in m rest in
      let place : place_word then-row ≡ m.place = ap place_word row_is ∙ place_in m rest in
      let u : ℕ = whole_bytes m.place in
      let n : ℕ = m.length in
      let again = R.reopens in
      record {
        writer = m;
        rescues = R;
        counted = count;
        placed = place;
        draws = λ out room.
            let g = call.what-is-rescued-is-drawn R most out (subst (λ (i : ℕ). i ≤ length out) count room) in
            rw (le-leb mode 1 mode-is, count, place, buffer-is) (ap plain_fault g.0, g.1);
        leaves = λ small. rw (place, buffer-is) (R.leaves small);
        reopens = rw (count, place, buffer-is) (reopened-fault kind bound mode value row mode-is words mem u n n m again);
        same_row = rw (count, place, buffer-is) (reopened-row kind bound mode value row mode-is words mem u n n m again) ∙ sym row_is;
        same_buffer = rw (count, place, buffer-is) (reopened-buffer kind bound mode value row mode-is words mem u n n m again ∙ R.stays);
      }

  -- so its sum is what the sum call answers on the bytes in use
  pub a-rescued-row-sums : (out : List ℕ) → 1 ≤ length out → RowSumsAsTheCall mode value then-buffer then-row out
  a-rescued-row-sums out room =
      let A = a-rescued-row-is-a-reopened-one in
      let u : ℕ = whole_bytes (place_word then-row) in
      let n : ℕ = length_word then-row in
      subst (λ (r : List ℕ). RowSumsAsTheCall mode value then-buffer r out) A.same_row
      (subst (λ (z : List ℕ). RowSumsAsTheCall mode value z (reopen_row then-buffer u n n mode value kind bound row) out) A.same_buffer
      (a-reopened-row-sums then-buffer u n n mode value kind bound row mode-is hl (ap (λ (f : Fault). f.number) A.reopens) out room))

-- ---- a stream that arrived whole, with its count: what reopening there answers and leaves, row and buffer

pub a-whole-stream-is-reopened : (mode value kind bound used n : ℕ) (buf row : List ℕ) → mode ≤ 1 → opening_value (opening_of mode value) < 2 ^ 32 → (vs : List ℕ)
    → values_in (take used buf) n (opening_of mode value) ≡ answered vs
    → (rescue_fault buf used n mode value kind bound row ≡ reopen_fault buf used n n mode value kind bound row)
    × (rescue_row buf used n mode value kind bound row ≡ reopen_row buf used n n mode value kind bound row)
    × (rescue_buffer buf used n mode value kind bound row ≡ reopen_buffer buf used n n mode value kind bound row)
unfolding rescue_fault rescue_row rescue_buffer reopen_fault reopen_row reopen_buffer
a-whole-stream-is-reopened mode value kind bound used n buf row mode-is hl vs h =
    let o : Opening = opening_of mode value in
    let b : ErrorBound = bound_of kind bound in
    let e = call.rescue-of-a-whole-stream-is-reopening b o hl buf used n vs h in
    let causes = sym (same-causes (bound_causes b) (length buf) used n) in
    rw (le-leb mode 1 mode-is) (
      ap₂ (λ (cs : List Cause) (q : Said MacaqueV). judge itself (cs ++ (4 when ltb (length row) writer_length ∷ [])) (plain_fault q)) causes e.0,
      ap₂ (λ (cs : List Cause) (q : Said MacaqueV). judge (keeping row) (cs ++ (4 when ltb (length row) writer_length ∷ [])) (row_in writer_row row q)) causes e.0,
      ap₂ (λ (cs : List Cause) (z : List ℕ). judge (keeping buf) (cs ++ (4 when ltb (length row) writer_length ∷ [])) z) causes e.1,
    )

-- ---- what is refused

-- a mode above 1 is 3, after the bound
pub no-mode-is-3-in-a-rescue : (buf : List ℕ) (used limit mode value kind bound : ℕ) (row : List ℕ) → bound_allowed (bound_of kind bound) ≡ true → 1 < mode
    → rescue_fault buf used limit mode value kind bound row ≡ fault 3
unfolding rescue_fault judge
no-mode-is-3-in-a-rescue buf used limit mode value kind bound row ok h = rw (ok, lt-leb mode 1 h)

-- a fault tells the first cause that holds, or what the call behind says: its number, value and place
pub fault-tells : {A : Type 0} (causes : List Cause) (q : Said A) → ((judge itself causes (plain_fault q)).number ≡ 0 → ⊥)
    → (verdict causes ≡ refused (judge itself causes (plain_fault q))) ⊎ ((verdict causes ≡ answered tt) × (q ≡ refused (judge itself causes (plain_fault q))))
unfolding judge
fault-tells [] (answered m) z = absurd (z refl)
fault-tells [] (refused f) z = inr (refl, refl)
fault-tells (n when true ∷ more) q z = inl refl
fault-tells (n when false ∷ more) q z = fault-tells more q z

-- so it is 1, 3, 12 or 4 by the causes of the row, else the 6 or 7 that the call behind meets (`what-rescue-refuses`)
pub what-a-rescued-row-refuses : (buf : List ℕ) (used limit mode value kind bound : ℕ) (row : List ℕ) → ((rescue_fault buf used limit mode value kind bound row).number ≡ 0 → ⊥)
    → (verdict (rescue_face_causes buf used limit mode kind bound row) ≡ refused (rescue_fault buf used limit mode value kind bound row))
    ⊎ ((verdict (rescue_face_causes buf used limit mode kind bound row) ≡ answered tt) × (rescue_said buf used limit mode value kind bound ≡ refused (rescue_fault buf used limit mode value kind bound row)))
unfolding rescue_fault
what-a-rescued-row-refuses buf used limit mode value kind bound row = fault-tells (rescue_face_causes buf used limit mode kind bound row) (rescue_said buf used limit mode value kind bound)

-- a refusal leaves the row and the buffer as they were
pub a-refused-rescue-changes-nothing : (buf : List ℕ) (used limit mode value kind bound : ℕ) (row : List ℕ) → ((rescue_fault buf used limit mode value kind bound row).number ≡ 0 → ⊥)
    → (rescue_row buf used limit mode value kind bound row ≡ row) × (rescue_buffer buf used limit mode value kind bound row ≡ buf)
unfolding rescue_fault rescue_row rescue_buffer judge
a-refused-rescue-changes-nothing buf used limit mode value kind bound row nonzero = by (rescue_face_causes buf used limit mode kind bound row) nonzero
  where
    o : Opening
    o = opening_of mode value

    b : ErrorBound
    b = bound_of kind bound

    q : Said MacaqueV
    q = rescue_said buf used limit mode value kind bound

    in_bytes : (s : Said MacaqueV) → q ≡ s → ((plain_fault s).number ≡ 0 → ⊥) → (row_in writer_row row s ≡ row) × (rescue_memory buf used (count_in mode limit) o b ≡ buf)
    in_bytes (answered m) e z = absurd (z refl)
    in_bytes (refused f) e z = (refl, (call.what-rescue-refuses b o buf used (count_in mode limit) f e).0)

    by : (causes : List Cause) → ((judge itself causes (plain_fault q)).number ≡ 0 → ⊥)
        → (judge (keeping row) causes (row_in writer_row row q) ≡ row) × (judge (keeping buf) causes (rescue_memory buf used (count_in mode limit) o b) ≡ buf)
    by [] z = let i = in_bytes q refl z in (i.0, i.1)
    by (n when true ∷ cs) z = (refl, refl)
    by (n when false ∷ cs) z = by cs z
