use mathlib.Core.Path.{◌≡◌, sym, ap, ◌∙◌, subst}
use mathlib.Core.Bool.{Bool, true}
use mathlib.Core.List.{List}
use Prim.Native.Nat.{ℕ, ◌+◌, ◌*◌, ◌/◌, ◌^◌, ◌≤◌, ◌<◌}
use native.Mathlib.Omega.{arith}
use lib.ListN.{length}
use lib.Seq.{take_all}
use lib.Dec.{ltb, eqb}
use Rattle.bits.specs.Bits.{field}
use Rattle.bits.proofs.Fields.{length-field}
use Rattle.bits.proofs.InBytes.{length-laid_in}
use Rattle.stream.specs.Format.{State}
use Rattle.stream.specs.Write.{bits_one}
use Rattle.places.specs.Table.{spacing}
use Rattle.places.specs.Calls.{entries_lent}
use Rattle.macaque_v.specs.State.{Known}
use Rattle.macaque_v.specs.Write.{stream_by, wrote_by, writer_at}
use Rattle.macaque_v.specs.Inner.Write.{written_by, laid_where, noted_where, RawAt, left_by}
use Rattle.macaque_v.specs.declared.MacaqueV.{MacaqueV}
use borrow.Author.Tests.{ltb-true}
use Rattle.models.proofs.Tests.{and_left, and_right}
use Rattle.macaque_v.proofs.Stepping.{PenAt}
use Rattle.macaque_v.proofs.Entering.{Noting, Room, note-start, note-on, note-ahead, note-fits, note-end}
use Rattle.macaque_v.proofs.Writing.{Laying, lay-start, lay-next, lay-long, lay-end, lay-none, place-grows, after_first, kept_at, after-most, pen-start, pen-more, left_is, next_place, step-digits}
use Rattle.macaque_v.proofs.MacaqueV.write_noting.Goals as goal
use Rattle.macaque_v.proofs.MacaqueV.write_noting.Goals.{After-loop-i, After-noted-to, After-step-step, At-loop-i, At-loop-i-2, In-loop-i-2, Start}
use Rattle.macaque_v.proofs.MacaqueV.write_noting.Lts
use Rattle.macaque_v.proofs.MacaqueV.write_noting.Reads
use Rattle.macaque_v.proofs.MacaqueV.write_noting.Tie

-- the places that the facts below are about, as they follow one another
abbrev Begun : Type 0
Begun = Lts.Start Tie.the-claims Reads.Pre Reads.Post goal.the-invariant-loop-i-2 goal.the-decreases-loop-i-2 goal.the-invariant-loop-i goal.the-decreases-loop-i Tie.handed_clauses

abbrev Outer : Type 0
Outer = Lts.At-loop Tie.the-claims Reads.Pre Reads.Post goal.the-invariant-loop-i-2 goal.the-decreases-loop-i-2 goal.the-invariant-loop-i goal.the-decreases-loop-i Tie.handed_clauses

abbrev Entered : Type 0
Entered = Lts.After-noted Tie.the-claims Reads.Pre Reads.Post goal.the-invariant-loop-i-2 goal.the-decreases-loop-i-2 goal.the-invariant-loop-i goal.the-decreases-loop-i Tie.handed_clauses

abbrev Inner : Type 0
Inner = Lts.At-loop2 Tie.the-claims Reads.Pre Reads.Post goal.the-invariant-loop-i-2 goal.the-decreases-loop-i-2 goal.the-invariant-loop-i goal.the-decreases-loop-i Tie.handed_clauses

abbrev Within : Type 0
Within = Lts.In-loop2 Tie.the-claims Reads.Pre Reads.Post goal.the-invariant-loop-i-2 goal.the-decreases-loop-i-2 goal.the-invariant-loop-i goal.the-decreases-loop-i Tie.handed_clauses

abbrev Stepped : Type 0
Stepped = Lts.After-step Tie.the-claims Reads.Pre Reads.Post goal.the-invariant-loop-i-2 goal.the-decreases-loop-i-2 goal.the-invariant-loop-i goal.the-decreases-loop-i Tie.handed_clauses

abbrev Behind : Type 0
Behind = Lts.After-loop Tie.the-claims Reads.Pre Reads.Post goal.the-invariant-loop-i-2 goal.the-decreases-loop-i-2 goal.the-invariant-loop-i goal.the-decreases-loop-i Tie.handed_clauses

-- the least and the greatest value are words of 32 bits
small : (c : Begun) → (c.args.self.min_value < 2 ^ 32) × (c.args.self.max_value < 2 ^ 32)
small c = (omega arith, omega arith)

-- ---- in the loop: the arguments, and the buffer that it begins with, which is as it was
abbrev start : Outer → Begun
start c = c.before.before.before.before.before.before.before.before.before.before.before.before

abbrev self : Outer → MacaqueV
self c = (start c).args.self

abbrev values : Outer → List ℕ
values c = (start c).args.values.now

abbrev lay : Outer → Bool
lay c = (start c).args.lay

abbrev buffer₀ : Outer → List ℕ
buffer₀ c = c.opened-waiting.new.bytes

begun : (c : Outer) → buffer₀ c ≡ (start c).args.buffer.now
begun c = c.opened-waiting.ensures.same

-- the table that it begins with, and what is noted in it
abbrev note : Outer → Bool
note c = (start c).args.note

abbrev table₀ : Outer → List ℕ
table₀ c = (start c).args.table.now

entered : (c : Outer) → Room (note c) (self c) (values c) (table₀ c)
entered c = (start c).requires.3

-- which value is raw
abbrev raw : Outer → ℕ
raw c = c.raw_at-raw.result

raw_at : (c : Outer) → RawAt (self c) (length (values c)) (raw c)
raw_at c = c.raw_at-raw.ensures

-- there is room in the buffer that it begins with
room : (c : Outer) → lay c ≡ true → (wrote_by (self c) (values c)).place ≤ 8 * length (buffer₀ c)
room c e = omega (arith, ap length (begun c), (start c).requires.1 e)

laying-from : (c : Outer) → lay c ≡ true → Laying true (self c) (values c) (buffer₀ c) c.loop-i.i c.loop-i.buffer c.loop-i.waiting
laying-from c e = subst (λ (b : Bool). Laying b (self c) (values c) (buffer₀ c) c.loop-i.i c.loop-i.buffer c.loop-i.waiting) e c.loop-i.invariant.2

few-of : (c : Outer) → c.loop-i.i ≤ length (values c)
few-of c = omega (arith, c.loop-i.invariant.0, c.loop-i.invariant.3.few)

most-of : (c : Outer) → (after_first (self c) (values c) c.loop-i.i).place ≤ (self c).place + 45 * c.loop-i.i
most-of c = after-most (self c) (values c) c.loop-i.i (few-of c)

-- ---- where the entry was noted, if the value has one: the table, and how far the values go till the next
abbrev from : Entered → Outer
from c = c.before.before.before

some-value : (c : Entered) → (from c).loop-i.i < length (values (from c))
some-value c = c.loop-i-test.true

entering : (c : Entered) → Noting (note (from c)) (self (from c)) (values (from c)) (table₀ (from c)) c.noted-to.result c.noted-to.new.table
entering c =
    let l = from c in
    note-on (note l) (self l) (values l) (table₀ l) l.loop-i.table c.noted-to.new.table l.loop-i.i l.loop-i.to c.noted-to.result l.loop-i.pen (eqb l.loop-i.i (raw l)) (some-value c)
    (raw_at l l.loop-i.i (some-value c)) l.loop-i.invariant.1 l.loop-i.invariant.3 (entered l) c.noted-to.ensures.words c.noted-to.ensures.next

goes_on : (c : Entered) → (from c).loop-i.i < c.noted-to.result
goes_on c =
    let l = from c in
    note-ahead l.loop-i.i (length (values l)) l.loop-i.to c.noted-to.result (some-value c) l.loop-i.invariant.0 c.noted-to.ensures.next

-- ---- in the inner loop
abbrev before2 : Inner → Entered
before2 c = c.before.before.before

abbrev outer : Inner → Outer
outer c = from (before2 c)

few : (c : Inner) → c.loop-i-2.i ≤ length (values (outer c))
few c = omega (arith, c.loop-i-2.invariant.0, (entering (before2 c)).few)

within : (c : Within) → c.loop-i-2.i < length (values (outer c.before))
within c = omega (arith, c.loop-i-2-test.true, (entering (before2 c.before)).few)

-- where the pen stands
here : (c : Inner) → c.loop-i-2.pen.place ≡ (after_first (self (outer c)) (values (outer c)) c.loop-i-2.i).place
here c = ap (λ (s : State Known). s.place) (sym c.loop-i-2.invariant.1.state)

most : (c : Inner) → (after_first (self (outer c)) (values (outer c)) c.loop-i-2.i).place ≤ (self (outer c)).place + 45 * c.loop-i-2.i
most c = after-most (self (outer c)) (values (outer c)) c.loop-i-2.i (few c)

-- the buffer, and the bits that wait
lays : (c : Inner) → Laying (lay (outer c)) (self (outer c)) (values (outer c)) (buffer₀ (outer c)) c.loop-i-2.i c.loop-i-2.buffer c.loop-i-2.waiting
lays c = c.loop-i-2.invariant.2 (buffer₀ (outer c)) (room (outer c)) (outer c).loop-i.invariant.2

laying : (c : Inner) → lay (outer c) ≡ true → Laying true (self (outer c)) (values (outer c)) (buffer₀ (outer c)) c.loop-i-2.i c.loop-i-2.buffer c.loop-i-2.waiting
laying c e = subst (λ (b : Bool). Laying b (self (outer c)) (values (outer c)) (buffer₀ (outer c)) c.loop-i-2.i c.loop-i-2.buffer c.loop-i-2.waiting) e (lays c)

-- ---- one value more
abbrev at_loop : Stepped → Inner
at_loop c = c.before.before.before

next-value : (c : Stepped) → (at_loop c).loop-i-2.i < length (values (outer (at_loop c)))
next-value c = within c.before.before

digits : (c : Stepped)
    → field c.step-step.result.width c.step-step.result.bits ≡ bits_one (stream_by (self (outer (at_loop c)))) (after_first (self (outer (at_loop c))) (values (outer (at_loop c))) (at_loop c).loop-i-2.i) (kept_at (self (outer (at_loop c))) (values (outer (at_loop c))) (at_loop c).loop-i-2.i)
digits c =
    let l = at_loop c in
    let o = outer l in
    step-digits (self o) (values o) l.loop-i-2.i (next-value c) l.loop-i-2.pen l.loop-i-2.invariant.1 (eqb l.loop-i-2.i (raw o)) (raw_at o l.loop-i-2.i (next-value c)) c.step-step.result c.step-step.ensures

moved : (c : Stepped) → PenAt (self (outer (at_loop c))) (after_first (self (outer (at_loop c))) (values (outer (at_loop c))) ((at_loop c).loop-i-2.i + 1)) ((at_loop c).loop-i-2.i + 1) c.step-step.result.pen
moved c =
    let l = at_loop c in
    let o = outer l in
    pen-more (self o) (values o) l.loop-i-2.i (next-value c) l.loop-i-2.pen l.loop-i-2.invariant.1 (eqb l.loop-i-2.i (raw o)) (raw_at o l.loop-i-2.i (next-value c)) c.step-step.result c.step-step.ensures (omega (arith, c.step-step.type_inv))

-- ---- the end: the writer that is left
left : (c : Behind) → left_by (self c.before) c.loop-i.pen c.loop-i.i ≡ writer_at (self c.before) (wrote_by (self c.before) (values c.before))
left c =
    let l = c.before in
    left_is (self l) (values l) l.loop-i.i (few-of l) l.loop-i.pen l.loop-i.invariant.1
    ∙ ap (λ (ys : List ℕ). writer_at (self l) (wrote_by (self l) ys)) (take_all l.loop-i.i (values l) c.loop-i-test.false)

-- and the table
all_noted : (c : Behind) → c.loop-i.table ≡ noted_where (note c.before) (table₀ c.before) (self c.before) (values c.before)
all_noted c =
    let l = c.before in
    note-end (note l) (self l) (values l) (table₀ l) l.loop-i.to l.loop-i.table l.loop-i.invariant.3 (omega (arith, c.loop-i-test.false, l.loop-i.invariant.0))

pub loop-i-init : goal.loop-i-init
loop-i-init c =
    let b = c in
    let a = b.args in
    let o = c.opened-waiting in (
      omega arith,
      pen-start a.self a.values.now c.pen-pen.result c.pen-pen.ensures (small (goal.at.loop-i-init b).Start).0 (small (goal.at.loop-i-init b).Start).1,
      lay-start a.lay a.self a.values.now a.buffer.now o.new.bytes o.result o.ensures.same (λ n. (c.slice_known-3-1.given n).fits) o.ensures.waiting b.requires.1,
      note-start a.note a.self a.values.now a.table.now c.first_due-due.result c.min-to.result c.first_due-due.ensures (omega arith),
    )

pub noted-to-requires : goal.noted-to-requires
noted-to-requires c =
    let l = c in
    let more : l.loop-i.i < length (values (goal.at.noted-to-requires l).At-loop-i.before) = c.loop-i-test.true in (
      (start (goal.at.noted-to-requires l).At-loop-i.before).requires.0,
      more,
      λ e.
          subst (λ (n : ℕ). ((self (goal.at.noted-to-requires l).At-loop-i.before).length + n) / spacing < entries_lent (length l.loop-i.table)) (sym e)
          (note-fits (note (goal.at.noted-to-requires l).At-loop-i.before) (self (goal.at.noted-to-requires l).At-loop-i.before) (values (goal.at.noted-to-requires l).At-loop-i.before) (table₀ (goal.at.noted-to-requires l).At-loop-i.before) l.loop-i.to l.loop-i.table l.loop-i.invariant.3 (entered (goal.at.noted-to-requires l).At-loop-i.before) (omega (arith, e, more))),
    )

pub loop-i-2-init : goal.loop-i-2-init
loop-i-2-init c =
    let k = c in
    (omega (arith, goes_on (goal.at.loop-i-2-init k).After-noted-to.before), (from (goal.at.loop-i-2-init k).After-noted-to.before).loop-i.invariant.1, λ old room L. L)

pub loop-i-smaller : goal.loop-i-smaller
loop-i-smaller c =
    let k = before2 (goal.at.loop-i-smaller c).At-loop-i-2.before in
    omega (arith, goes_on k, c.loop-i-2-test.false, some-value k)

pub loop-i-preserved : goal.loop-i-preserved
loop-i-preserved c =
    let k = c in
    (k.loop-i-2.invariant.0, k.loop-i-2.invariant.1, lays (goal.at.loop-i-preserved k).At-loop-i-2.before, entering (before2 (goal.at.loop-i-preserved k).At-loop-i-2.before))

pub step-step-requires : goal.step-step-requires
step-step-requires c = omega (arith, here (goal.at.step-step-requires c).At-loop-i-2.before, most (goal.at.step-step-requires c).At-loop-i-2.before, within (goal.at.step-step-requires c).In-loop-i-2.before, (start (outer (goal.at.step-step-requires c).At-loop-i-2.before)).requires.2)

pub append-waiting-requires : goal.append-waiting-requires
append-waiting-requires c =
    let k = c in
    let l = at_loop (goal.at.append-waiting-requires k).After-step-step.before in
    let o = outer l in
    let r = k.step-step.result in
    let s = k.step-step.ensures.code in
    let t = c.if-lay.true in
    let L = laying l t in
    let next = next_place (self o) (values o) l.loop-i-2.i (next-value (goal.at.append-waiting-requires k).After-step-step.before) r.width r.bits (digits (goal.at.append-waiting-requires k).After-step-step.before) in (
      L.1.waits,
      omega (arith, s.short),
      omega (arith, L.0, L.1.here, next, room o t, place-grows (self o) (values o) (l.loop-i-2.i + 1)),
      s.small,
    )

pub overflow_add-i : goal.overflow_add-i
overflow_add-i c =
    let k = c in
    omega (arith, next-value (goal.at.overflow_add-i k).After-step-step.before, (start (outer (at_loop (goal.at.overflow_add-i k).After-step-step.before))).requires.0)

pub loop-i-2-preserved-then-lay : goal.loop-i-2-preserved-then-lay
loop-i-2-preserved-then-lay c =
    let k = c in
    let l = at_loop (goal.at.loop-i-2-preserved-then-lay k).After-step-step.before in
    let o = outer l in
    let A = c.append-waiting in
    let t = c.if-lay.true in (
      omega (arith, k.loop-i-2-test.true),
      moved (goal.at.loop-i-2-preserved-then-lay k).After-step-step.before,
      λ old room L.
          subst (λ (b : Bool). Laying b (self o) (values o) old (l.loop-i-2.i + 1) A.new.bytes A.result) (sym t)
          (lay-next (self o) (values o) l.loop-i-2.i (next-value (goal.at.loop-i-2-preserved-then-lay k).After-step-step.before) k.step-step.result.width k.step-step.result.bits (digits (goal.at.loop-i-2-preserved-then-lay k).After-step-step.before) k.step-step.ensures.code.some old l.loop-i-2.buffer A.new.bytes l.loop-i-2.waiting A.result (room t)
          (subst (λ (b : Bool). Laying b (self o) (values o) old l.loop-i-2.i l.loop-i-2.buffer l.loop-i-2.waiting) t (l.loop-i-2.invariant.2 old room L)) A.ensures),
    )

pub overflow_add-i-else-lay : goal.overflow_add-i-else-lay
overflow_add-i-else-lay c =
    let k = c in
    omega (arith, next-value (goal.at.overflow_add-i-else-lay k).After-step-step.before, (start (outer (at_loop (goal.at.overflow_add-i-else-lay k).After-step-step.before))).requires.0)

pub loop-i-2-preserved : goal.loop-i-2-preserved
loop-i-2-preserved c =
    let k = c in
    let l = at_loop (goal.at.loop-i-2-preserved k).After-step-step.before in
    let o = outer l in
    let counts = c.if-lay.false in (
      omega (arith, k.loop-i-2-test.true),
      moved (goal.at.loop-i-2-preserved k).After-step-step.before,
      λ old room L.
          subst (λ (b : Bool). Laying b (self o) (values o) old (l.loop-i-2.i + 1) l.loop-i-2.buffer l.loop-i-2.waiting) (sym counts)
          (subst (λ (b : Bool). Laying b (self o) (values o) old l.loop-i-2.i l.loop-i-2.buffer l.loop-i-2.waiting) counts (l.loop-i-2.invariant.2 old room L)),
    )

pub overflow_mul-waiting : goal.overflow_mul-waiting
overflow_mul-waiting c =
    let l = c in
    let L = laying-from (goal.at.overflow_mul-waiting l).At-loop-i.before (and_left _ _ c.if-lay-i.true) in
    omega (arith, L.1.here, most-of (goal.at.overflow_mul-waiting l).At-loop-i.before, few-of (goal.at.overflow_mul-waiting l).At-loop-i.before, (start (goal.at.overflow_mul-waiting l).At-loop-i.before).requires.2)

pub put-requires : goal.put-requires
put-requires c =
    let l = c in
    let t = and_left _ _ c.if-lay-i.true in
    let L = laying-from (goal.at.put-requires l).At-loop-i.before t in
    (omega (arith, L.1.waits.fewer), omega (arith, L.0, L.1.here, room (goal.at.put-requires l).At-loop-i.before t, place-grows (self (goal.at.put-requires l).At-loop-i.before) (values (goal.at.put-requires l).At-loop-i.before) l.loop-i.i), L.1.waits.small)

pub shape_of-buffer-then-lay-i : goal.shape_of-buffer-then-lay-i
shape_of-buffer-then-lay-i c =
    let l = c in
    let w = l.loop-i.waiting in
    let t = and_left (lay (goal.at.shape_of-buffer-then-lay-i l).At-loop-i.before) (ltb 0 l.loop-i.i) c.if-lay-i.true in
    let L = laying-from (goal.at.shape_of-buffer-then-lay-i l).At-loop-i.before t in
    ap length c.put.ensures
    ∙ length-laid_in l.loop-i.buffer (8 * w.at) (field w.held w.word) (omega (arith, L.0, L.1.here, length-field w.held w.word, room (goal.at.shape_of-buffer-then-lay-i l).At-loop-i.before t, place-grows (self (goal.at.shape_of-buffer-then-lay-i l).At-loop-i.before) (values (goal.at.shape_of-buffer-then-lay-i l).At-loop-i.before) l.loop-i.i))
    ∙ L.0
    ∙ ap length (begun (goal.at.shape_of-buffer-then-lay-i l).At-loop-i.before)

pub shape_of-table-then-lay-i : goal.shape_of-table-then-lay-i
shape_of-table-then-lay-i c = c.loop-i.invariant.3.long

pub returns-then-lay-i : goal.returns-then-lay-i
returns-then-lay-i c =
    let l = c in
    let t = c.if-lay-i.true in record {
      state = c.left_by.ensures ∙ left (goal.at.returns-then-lay-i c).After-loop-i.before;
      bytes = lay-end (lay (goal.at.returns-then-lay-i l).At-loop-i.before) (self (goal.at.returns-then-lay-i l).At-loop-i.before) (values (goal.at.returns-then-lay-i l).At-loop-i.before) (buffer₀ (goal.at.returns-then-lay-i l).At-loop-i.before) l.loop-i.i l.loop-i.buffer l.loop-i.waiting c.put.new.bytes l.loop-i.invariant.2 (and_left (lay (goal.at.returns-then-lay-i l).At-loop-i.before) (ltb 0 l.loop-i.i) t)
          (ltb-true 0 l.loop-i.i (and_right (lay (goal.at.returns-then-lay-i l).At-loop-i.before) (ltb 0 l.loop-i.i) t)) c.loop-i-test.false c.put.ensures
          ∙ ap (λ (b : List ℕ). laid_where (lay (goal.at.returns-then-lay-i l).At-loop-i.before) b (self (goal.at.returns-then-lay-i l).At-loop-i.before).place (written_by (self (goal.at.returns-then-lay-i l).At-loop-i.before) (values (goal.at.returns-then-lay-i l).At-loop-i.before))) (begun (goal.at.returns-then-lay-i l).At-loop-i.before);
      words = all_noted (goal.at.returns-then-lay-i c).After-loop-i.before;
    }

pub shape_of-buffer : goal.shape_of-buffer
shape_of-buffer c =
    let l = c in
    lay-long (lay (goal.at.shape_of-buffer l).At-loop-i.before) (self (goal.at.shape_of-buffer l).At-loop-i.before) (values (goal.at.shape_of-buffer l).At-loop-i.before) (buffer₀ (goal.at.shape_of-buffer l).At-loop-i.before) l.loop-i.i l.loop-i.buffer l.loop-i.waiting l.loop-i.invariant.2 ∙ ap length (begun (goal.at.shape_of-buffer l).At-loop-i.before)

pub shape_of-table : goal.shape_of-table
shape_of-table c = c.loop-i.invariant.3.long

pub returns : goal.returns
returns c =
    let l = c in record {
      state = c.left_by-2.ensures ∙ left (goal.at.returns c).After-loop-i.before;
      bytes = lay-none (lay (goal.at.returns l).At-loop-i.before) (self (goal.at.returns l).At-loop-i.before) (values (goal.at.returns l).At-loop-i.before) (buffer₀ (goal.at.returns l).At-loop-i.before) l.loop-i.i l.loop-i.buffer l.loop-i.waiting (λ n. (l.slice_known-3-1.given n).fits) l.loop-i.invariant.2 c.if-lay-i.false c.loop-i-test.false
          ∙ ap (λ (b : List ℕ). laid_where (lay (goal.at.returns l).At-loop-i.before) b (self (goal.at.returns l).At-loop-i.before).place (written_by (self (goal.at.returns l).At-loop-i.before) (values (goal.at.returns l).At-loop-i.before))) (begun (goal.at.returns l).At-loop-i.before);
      words = all_noted (goal.at.returns c).After-loop-i.before;
    }

pub offset_bounds-values-i : goal.offset_bounds-values-i
offset_bounds-values-i c = omega (arith, within (goal.at.offset_bounds-values-i c).In-loop-i-2.before, (start (outer (goal.at.offset_bounds-values-i c).At-loop-i-2.before)).requires.0)

pub bounds-values-i : goal.bounds-values-i
bounds-values-i c = omega (arith, within (goal.at.bounds-values-i c).In-loop-i-2.before)
