-- `MadeBeside` holds of a fresh writer with an empty table, each accepted write keeps it, and so does reopening at any value: however often a stream is
-- stopped and resumed, the table beside it is that of one fresh run. Assumes nothing.
use mathlib.Core.Path.{◌≡◌, refl, sym, ap, ap₂, ◌∙◌}
use mathlib.Core.List.{List, [], ◌∷◌, ◌++◌}
use mathlib.Core.Option.{some}
use Prim.Native.Nat.{ℕ, suc, ◌*◌, ◌^◌, ◌≤◌, ◌<◌}
use native.Mathlib.Omega.{arith}
use lib.ListN.{length, take, get_elem?}
use lib.Seq.{length-take-le}
use Rattle.bits.specs.Bits.{Below, bits_of, whole_bytes}
use Rattle.stream.specs.Format.{with_first, raw_next, Stream, State, fresh, is_raw}
use Rattle.stream.specs.Write.{kept_one, kept_from, kept, Keeps, after, wrote, wrote_in}
use Rattle.stream.specs.Read.{Reopened, reopen, buffer_after}
use Rattle.places.specs.Table.{spacing, Entry, entry_of, entries_for, entries, table_of, added, table_wrote, table_after, MadeBeside}
use Rattle.stream.specs.Needs.{Good}
use Rattle.stream.proofs.Writing.{count-after, length-kept, take-kept, kept_append}
use Rattle.stream.proofs.Made.{made-fresh, made-write, made-reopen}
use Rattle.places.proofs.Entries.{raw-entry, entries-append, fresh-entries, take-entries, starts_with, entry-written}

-- what is added from a state of length 0 in the mode with a first value begins with the entry of +0
pub raw-entry-added : {A : Type 0} (rule : ℕ → ℕ → ℕ) (S : Stream A) (s : State A) → S.mode ≡ with_first → s.count ≡ 0 → (x : ℕ) (xs : List ℕ)
    → get_elem? (added rule S s (x ∷ xs)) 0 ≡ some (record { place = s.place; last = 0; win = s.win })
unfolding kept_from
raw-entry-added rule S s mode none x xs =
    let v : ℕ = kept_one rule (is_raw S s) s.last x in
    ap (λ (es : List Entry). get_elem? es 0) (starts_with S s 0 v (kept rule S (record { last = v; win = s.win; place = s.place; count = suc s.count; seen = s.seen }) xs) (omega arith))
    ∙ ap some (raw-entry S s (ap₂ raw_next mode none))

module _ {A : Type 0} (rule : ℕ → ℕ → ℕ) (S : Stream A) (l : ℕ) where
  -- entry i of the table of xs is of the state before value 64 * i
  pub entry-of-run : (xs : List ℕ) (i : ℕ) → spacing * i < length xs
      → get_elem? (table_of rule S l xs) i ≡ some (entry_of S (wrote rule S (fresh S l) (take (spacing * i) xs)))
  entry-of-run xs i lt =
      let f : State A = fresh S l in
      entry-written S l (kept rule S f xs) i (omega (arith, length-kept S rule f xs))
      ∙ ap (λ (us : List ℕ). some (entry_of S (after S f us))) (take-kept S rule f (spacing * i) xs)

  pub run-number : (xs : List ℕ) → length (table_of rule S l xs) ≡ entries_for (length xs)
  run-number xs = fresh-entries S l (kept rule S (fresh S l) xs) ∙ ap entries_for (length-kept S rule (fresh S l) xs)

  -- the table of both lists is that of the first, and what the second adds
  pub table-append : (xs ys : List ℕ) → table_of rule S l (xs ++ ys) ≡ table_wrote rule S (wrote rule S (fresh S l) xs) ys (table_of rule S l xs)
  table-append xs ys =
      let f : State A = fresh S l in
      ap (entries S f) (kept_append S rule f xs ys) ∙ entries-append S f (kept rule S f xs) (kept rule S (wrote rule S f xs) ys)

  -- that of the first k inputs is its first entries
  pub table-take : (xs : List ℕ) (k : ℕ) → k ≤ length xs → take (entries_for k) (table_of rule S l xs) ≡ table_of rule S l (take k xs)
  table-take xs k le =
      let f : State A = fresh S l in
      take-entries S l (kept rule S f xs) k (omega (arith, length-kept S rule f xs)) ∙ ap (entries S f) (take-kept S rule f k xs)

  pub beside-fresh : (buf : List ℕ) → MadeBeside rule S l [] buf (fresh S l) []
  unfolding entries kept_from
  beside-fresh buf = record { made = made-fresh rule S l buf; beside = refl }

  pub run-count : (xs : List ℕ) → (wrote rule S (fresh S l) xs).count ≡ length xs
  run-count xs = omega (arith, count-after S (fresh S l) (kept rule S (fresh S l) xs), length-kept S rule (fresh S l) xs)

  module _ {xs buf : List ℕ} {s : State A} {table : List Entry} (M : MadeBeside rule S l xs buf s table) where
    -- it has the number of entries its count asks for
    pub beside-number : length table ≡ entries_for s.count
    beside-number =
        ap length M.beside ∙ run-number xs
        ∙ ap entries_for (sym (ap (λ (t : State A). t.count) M.made.state ∙ run-count xs))

    pub beside-write : (ys : List ℕ) → (wrote rule S s ys).place ≤ 8 * length buf
        → MadeBeside rule S l (xs ++ ys) (wrote_in rule S s ys buf) (wrote rule S s ys) (table_wrote rule S s ys table)
    beside-write ys room =
        record {
          made = made-write rule S l M.made ys room;
          beside = ap₂ (λ (t : State A) (d : List Entry). table_wrote rule S t ys d) M.made.state M.beside ∙ sym (table-append xs ys);
        }

    -- reopened at k: the entries below k stay
    pub beside-reopen : Good S.format → Keeps S.format.width rule → l < 2 ^ S.format.width → Below S.format.width xs → (k : ℕ) → k ≤ length xs
        → (table_after (reopen S (length xs) k (fresh S l) (bits_of (take (whole_bytes s.place) buf))) table ≡ take (entries_for k) table)
        × MadeBeside rule S l (take k xs) (buffer_after (reopen S (length xs) k (fresh S l) (bits_of (take (whole_bytes s.place) buf))) buf) (wrote rule S (fresh S l) (take k xs))
        (table_after (reopen S (length xs) k (fresh S l) (bits_of (take (whole_bytes s.place) buf))) table)
    beside-reopen good K hl bx k le =
        let back = made-reopen rule S l M.made good K hl bx k le in
        let c : (wrote rule S (fresh S l) (take k xs)).count ≡ k = run-count (take k xs) ∙ length-take-le k xs le in
        let stay : table_after (reopen S (length xs) k (fresh S l) (bits_of (take (whole_bytes s.place) buf))) table ≡ take (entries_for k) table =
        ap (λ (q : Reopened A). table_after q table) back.0 ∙ ap (λ (n : ℕ). take (entries_for n) table) c in
        (stay, record { made = back.1; beside = stay ∙ ap (take (entries_for k)) M.beside ∙ table-take xs k le })
