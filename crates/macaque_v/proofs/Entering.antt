-- The entries that the writer notes: what the table holds up to a value, and how it goes on from there. Assumes nothing.
use mathlib.Core.Path.{◌≡◌, refl, sym, ap, ap₂, ◌∙◌, subst}
use mathlib.Core.Bool.{Bool, true, false, cond, true≢false}
use mathlib.Core.List.{List, [], ◌∷◌, ◌++◌, append-nil}
use Prim.Native.Nat.{ℕ, zero, suc, ◌+◌, ◌-◌, ◌/◌, ◌%◌, ◌≤◌, ◌<◌}
use native.Mathlib.Numerals.{add-one}
use native.Mathlib.Omega.{arith}
use borrow.Author.Tests.{eqb-true, eqb-false}
use lib.Dec.{eqb}
use lib.ListN.{length, take, get_or}
use lib.Seq.{take-suc, take_all, length-take-le}
use Rattle.stream.specs.Format.{State, raw_next}
use Rattle.stream.specs.Write.{kept_from}
use Rattle.places.specs.Table.{spacing, Entry, entry_of, noted, entries_for, entries}
use Rattle.places.specs.Calls.{entries_lent, laid_entries}
use Rattle.places.proofs.Entries.{noted_one, noted-none}
use Rattle.places.proofs.Steps.{noted_more, added-count}
use Rattle.places.proofs.Words.{laid_none, laid_more, laid-length}
use Rattle.macaque_v.specs.State.{Known, mode_of, state_of}
use Rattle.macaque_v.specs.Write.{stream_by, rule_by}
use Rattle.macaque_v.specs.Inner.Write.{entries_by, noted_where}
use Rattle.macaque_v.specs.Inner.Noting.{DueAt, entry_by, noted_by}
use Rattle.macaque_v.specs.declared.MacaqueV.{MacaqueV}
use Rattle.macaque_v.specs.declared.write.Pen.{Pen}
use Rattle.macaque_v.proofs.Stepping.{PenAt}
use Rattle.macaque_v.proofs.Writing.{after_first, after-count}

-- the table `words`, which was `old`, has the entries of those of the values xs before number `to`; and value `to`, if there is one, has the next
pub record Noting (note : Bool) (m : MacaqueV) (xs old : List ℕ) (to : ℕ) (words : List ℕ) : Type 0 where
  pub table : words ≡ noted_where note old m (take to xs)
  pub few : to ≤ length xs
  pub next : note ≡ true → to < length xs → (m.length + to) % spacing ≡ 0
  pub none : note ≡ false → to ≡ length xs
  pub long : length words ≡ length old

-- there is room for the entries of all values
abbrev pub Room : Bool → MacaqueV → List ℕ → List ℕ → Type 0
Room note m xs old = note ≡ true → entries_for (m.length + length xs) ≤ entries_lent (length old)

pub note-end : (note : Bool) (m : MacaqueV) (xs old : List ℕ) (to : ℕ) (words : List ℕ) → Noting note m xs old to words → length xs ≤ to → words ≡ noted_where note old m xs
note-end note m xs old to words N h = N.table ∙ ap (noted_where note old m) (take_all to xs h)

-- the entry of value `to` has its place in the table
pub note-fits : (note : Bool) (m : MacaqueV) (xs old : List ℕ) (to : ℕ) (words : List ℕ) → Noting note m xs old to words → Room note m xs old → to < length xs
    → (m.length + to) / spacing < entries_lent (length words)
note-fits true m xs old to words N room h = omega (arith, room refl, N.long)
note-fits false m xs old to words N room h = absurd (omega (arith, h, N.none refl))

-- ---- one value more

module _ (m : MacaqueV) (xs : List ℕ) (i : ℕ) (h : i < length xs) where
  abbrev s : State Known
  s = after_first m xs i

  -- how many entries are in use before it
  in_use : entries_for m.length + length (entries_by m (take i xs)) ≡ entries_for (m.length + i)
  in_use =
      added-count (stream_by m) (rule_by m) (state_of m) (take i xs)
      ∙ ap (λ (n : ℕ). entries_for (m.length + n)) (length-take-le i xs (omega arith))

  more : entries_by m (take (i + 1) xs) ≡ entries_by m (take i xs) ++ noted (stream_by m) s
  more = ap (entries_by m) (ap (λ (n : ℕ). take n xs) (add-one i) ∙ take-suc xs i 0 h) ∙ noted_more (stream_by m) (rule_by m) (state_of m) (take i xs) (get_or xs i 0)

  counted : s.count ≡ m.length + i
  counted = after-count m xs i (omega arith)

  -- one that has no entry
  without : ((m.length + i) % spacing ≡ 0 → ⊥) → entries_by m (take (i + 1) xs) ≡ entries_by m (take i xs)
  without apart =
      more
      ∙ ap (λ (z : List Entry). entries_by m (take i xs) ++ z) (noted-none (stream_by m) s (λ z. apart (omega (arith, z, counted))))
      ∙ append-nil (entries_by m (take i xs))

  -- one that has: the table after its words
  with-one : (old words words' : List ℕ) (p : Pen) (raw : Bool) → raw ≡ raw_next (mode_of m.with_first) (m.length + i) → PenAt m s i p → Noting true m xs old i words → Room true m xs old
      → words' ≡ noted_by raw p ((m.length + i) / spacing) words → words' ≡ noted_where true old m (take (i + 1) xs)
  with-one old words words' p raw same P N room w =
      let due : (m.length + i) % spacing ≡ 0 = N.next refl h in
      let k : (m.length + i) / spacing ≡ entries_for m.length + length (entries_by m (take i xs)) = omega (arith, in_use, due) in
      let said : entry_by raw p ≡ entry_of (stream_by m) s = ap (λ (b : Bool). entry_by b p) (same ∙ ap (raw_next (mode_of m.with_first)) (sym counted)) ∙ ap (entry_of (stream_by m)) (sym P.state) in
      let one : noted (stream_by m) s ≡ entry_by raw p ∷ [] = noted_one (stream_by m) s (omega (arith, counted, due)) ∙ ap (λ (x : Entry). x ∷ []) (sym said) in
      w
      ∙ ap₂ (λ (n : ℕ) (z : List ℕ). laid_entries z n (entry_by raw p ∷ [])) k N.table
      ∙ laid_more old (entries_for m.length) (entries_by m (take i xs)) (omega (arith, room refl)) (entry_by raw p ∷ [])
      ∙ ap (laid_entries old (entries_for m.length)) (ap (λ (z : List Entry). entries_by m (take i xs) ++ z) (sym one) ∙ sym more)

-- ---- values more, up to the next that has an entry

same_entries : (m : MacaqueV) (xs : List ℕ) (due i k : ℕ) → i + k ≤ length xs → i + k ≤ due → due < i + spacing → (m.length + due) % spacing ≡ 0
    → entries_by m (take (i + k) xs) ≡ entries_by m (take i xs)
same_entries m xs due i zero few far near next = ap (λ (n : ℕ). entries_by m (take n xs)) (none_more i)
  where
    none_more : (i : ℕ) → i + 0 ≡ i
    none_more i = omega arith
same_entries m xs due i (suc k) few far near next =
    ap (λ (n : ℕ). entries_by m (take n xs)) (further i k)
    ∙ without m xs (i + k) (omega arith) (λ z. omega (arith, z, next, far, near))
    ∙ same_entries m xs due i k (omega arith) (omega arith) near next
  where
    further : (i k : ℕ) → i + suc k ≡ i + k + 1
    further i k = omega arith

up_to : (m : MacaqueV) (xs : List ℕ) (due i to : ℕ) → i ≤ to → to ≤ length xs → to ≤ due → due < i + spacing → (m.length + due) % spacing ≡ 0
    → entries_by m (take to xs) ≡ entries_by m (take i xs)
up_to m xs due i to from few far near next =
    ap (λ (n : ℕ). entries_by m (take n xs)) (apart i to from) ∙ same_entries m xs due i (to - i) (omega arith) (omega arith) near next
  where
    apart : (i to : ℕ) → i ≤ to → to ≡ i + (to - i)
    apart i to h = omega arith

-- before the first value, none up to the first that has one
pub note-start : (note : Bool) (m : MacaqueV) (xs old : List ℕ) (due to : ℕ) → DueAt note m.length (length xs) 0 due → to ≡ due - (due - length xs) → Noting note m xs old to old
unfolding kept_from entries
note-start true m xs old due to d e =
    let none : entries_by m (take to xs) ≡ [] = up_to m xs due 0 to (omega arith) (omega (arith, e)) (omega (arith, e)) (omega (arith, d.1)) d.2 in
    record {
      table = sym (laid_none old (entries_for m.length)) ∙ ap (laid_entries old (entries_for m.length)) (sym none);
      few = omega (arith, e);
      next = λ t h. subst (λ (n : ℕ). (m.length + n) % spacing ≡ 0) (omega (arith, e, h)) d.2;
      none = λ f. absurd (true≢false f);
      long = refl;
    }
note-start false m xs old due to d e =
    record { table = refl; few = omega (arith, e, d); next = λ t h. absurd (true≢false (sym t)); none = λ f. omega (arith, e, d); long = refl }

-- before value i, which has one: that one, and up to the next
note-more : (note : Bool) (m : MacaqueV) (xs old words words' : List ℕ) (i to : ℕ) (p : Pen) (raw : Bool) → i < length xs → raw ≡ raw_next (mode_of m.with_first) (m.length + i)
    → PenAt m (after_first m xs i) i p → Noting note m xs old i words → Room note m xs old → words' ≡ noted_by raw p ((m.length + i) / spacing) words → to ≡ (i + spacing) - ((i + spacing) - length xs)
    → Noting note m xs old to words'
note-more false m xs old words words' i to p raw h same P N room w e = absurd (omega (arith, h, N.none refl))
note-more true m xs old words words' i to p raw h same P N room w e =
    let due : (m.length + (i + spacing)) % spacing ≡ 0 = omega (arith, N.next refl h) in
    let on : entries_by m (take to xs) ≡ entries_by m (take (i + 1) xs) = up_to m xs (i + spacing) (i + 1) to (omega (arith, e, h)) (omega (arith, e)) (omega (arith, e)) (omega arith) due in
    record {
      table = with-one m xs i h old words words' p raw same P N room w ∙ ap (laid_entries old (entries_for m.length)) (sym on);
      few = omega (arith, e);
      next = λ t l. omega (arith, e, l, due);
      none = λ f. absurd (true≢false f);
      long = ap length w ∙ laid-length words ((m.length + i) / spacing) (entry_by raw p ∷ []) (omega (arith, note-fits true m xs old i words N room h)) ∙ N.long;
    }

-- before a value that may have one
pub note-on : (note : Bool) (m : MacaqueV) (xs old words words' : List ℕ) (i to to' : ℕ) (p : Pen) (raw : Bool) → i < length xs → raw ≡ raw_next (mode_of m.with_first) (m.length + i)
    → PenAt m (after_first m xs i) i p → Noting note m xs old to words → Room note m xs old
    → words' ≡ cond (eqb i to) (noted_by raw p ((m.length + i) / spacing) words) words → to' ≡ cond (eqb i to) ((i + spacing) - ((i + spacing) - length xs)) to
    → Noting note m xs old to' words'
note-on note m xs old words words' i to to' p raw h same P N room w e = go (eqb i to) refl w e
  where
    go : (b : Bool) → eqb i to ≡ b → words' ≡ cond b (noted_by raw p ((m.length + i) / spacing) words) words → to' ≡ cond b ((i + spacing) - ((i + spacing) - length xs)) to
        → Noting note m xs old to' words'
    go true t w e = note-more note m xs old words words' i to' p raw h same P (subst (λ (n : ℕ). Noting note m xs old n words) (sym (eqb-true i to t)) N) room w e
    go false t w e = subst (λ (z : List ℕ). Noting note m xs old to' z) (sym w) (subst (λ (n : ℕ). Noting note m xs old n words) (sym e) N)

-- it goes on behind value i
pub note-ahead : (i n to to' : ℕ) → i < n → i ≤ to → to' ≡ cond (eqb i to) ((i + spacing) - ((i + spacing) - n)) to → i < to'
note-ahead i n to to' h l e = go (eqb i to) refl e
  where
    go : (b : Bool) → eqb i to ≡ b → to' ≡ cond b ((i + spacing) - ((i + spacing) - n)) to → i < to'
    go true t e = omega (arith, e, h)
    go false t e = let apart : ¬ (i ≡ to) = eqb-false i to t in omega (arith, e, l, apart)
