-- The walk through two streams side by side: what each of them has at an index, one step, and all of them. Assumes nothing.
use mathlib.Core.Path.{◌≡◌, refl, sym, ap, ap₂, ◌∙◌, subst}
use mathlib.Core.Bool.{Bool, true, false, cond}
use mathlib.Core.List.{List, [], ◌∷◌, ◌++◌, append_assoc}
use Prim.Native.Nat.{ℕ, zero, suc, ◌+◌, ◌-◌, ◌≤◌, ◌<◌, max}
use native.Mathlib.Nat.{add-zero}
use native.Mathlib.Omega.{arith}
use borrow.Author.Tests.{eq-eqb, ne_eqb, le-ltb, leb-true, leb-false, not-false}
use Rattle.std.specs.Prelude.{Option, Some, None}
use lib.Dec.{eqb, leb}
use lib.ListN.{length, drop, get_or, length-drop}
use lib.Seq.{length-sets}
use Rattle.models.specs.Answers.{Said, answered, SaidOn, answered_on, refused_on, judge, NoneHolds}
use Rattle.models.specs.Limits.{most_values}
use Rattle.models.proofs.Judged.{not-answered-on, same-answer-on, accepted-on}
use Rattle.stream.specs.Format.{bare}
use Rattle.stream.specs.Read as stream
use Rattle.stream.specs.Read.{step_at}
use Rattle.macaque_v.specs.State.{mode_of}
use Rattle.macaque_v.specs.ReadRun.{state_at, ahead, moved_by}
use Rattle.reader.specs.Calls.{may_use, Taken, next_causes, handed, next_read, next_answer}
use Rattle.reader.specs.Run.{Run, also, and_then, nexts}
use Rattle.reader.specs.declared.position.Position.{Position}
use Rattle.listing.proofs.Putting.{text-laid}
use Rattle.comparing.specs.File.{file_stream}
use Rattle.comparing.specs.Differences.{entry_at, same_entry, both_at, differences_from}
use Rattle.comparing.specs.Text.{difference_text, differ_text, laid}
use Rattle.comparing.specs.Compared.{lines_text}
use Rattle.comparing.specs.Calls.{behind_value, took_value, turn_of, Told, further, finished, pair_of, index_of, told_same, told_difference, told_by, told_both, may_go, is_full, step_told, step_said, step_left, step_answer, step_memory}
use Rattle.comparing.specs.Printed.{step_printed, steps_printed}
use Rattle.comparing.specs.declared.Difference.{Difference}
use Rattle.comparing.specs.declared.Half.{Half}
use Rattle.comparing.specs.declared.Pair.{Pair}
use Rattle.comparing.specs.declared.Turn.{Turn}
use Rattle.comparing.proofs.Laws.{entry-there, entry-missing, same-equal}
use Rattle.comparing.proofs.Lines.{difference-most, differ-most}

-- ---- lists by their front

abbrev front_of : List ℕ → Option ℕ
front_of [] = None
front_of (u ∷ us) = Some u

abbrev rest_of : List ℕ → List ℕ
rest_of [] = []
rest_of (u ∷ us) = us

front-drop : (us : List ℕ) (i : ℕ) → front_of (drop i us) ≡ entry_at us i
unfolding entry_at
front-drop [] zero = refl
front-drop [] (suc i) = refl
front-drop (u ∷ us) zero = refl
front-drop (u ∷ us) (suc i) = front-drop us i

rest-drop : (us : List ℕ) (i : ℕ) → rest_of (drop i us) ≡ drop (suc i) us
rest-drop [] zero = refl
rest-drop [] (suc i) = refl
rest-drop (u ∷ us) zero = refl
rest-drop (u ∷ us) (suc i) = rest-drop us i

not-empty : {u : ℕ} {us : List ℕ} → u ∷ us ≡ [] → ⊥
not-empty e = omega (arith, ap length e)

same-front : {u v : ℕ} {us vs : List ℕ} → u ∷ us ≡ v ∷ vs → u ≡ v
same-front e = cc

same_rest : {u v : ℕ} {us vs : List ℕ} → u ∷ us ≡ v ∷ vs → us ≡ vs
same_rest e = cc

-- ---- one stream: the values that its nexts answer

abbrev ran : List ℕ → Position → Run
ran us after = record { values = us; after = after }

-- as many nexts as there are values to come answer these
pub record Gives (bytes : List ℕ) (h : Half) (us : List ℕ) : Type 0 where
  pub after : Position
  pub reads : nexts bytes h.rest h.position ≡ answered_on (ran us after)

module _ (bytes : List ℕ) where
  none_left : (n : ℕ) (p q : Position) → nexts bytes n p ≡ answered_on (ran [] q) → n ≡ 0
  unfolding nexts
  none_left zero p q e = refl
  none_left (suc n) p q e = absurd (go (next_answer bytes p) e)
    where
      behind : (t : Taken) (r : SaidOn Position Run) → also t.value r ≡ answered_on (ran [] q) → ⊥
      behind t (answered_on r) k = not-empty (ap (λ (x : Run). x.values) (same-answer-on k))
      behind t (refused_on f s) k = not-answered-on k

      go : (a : SaidOn Position Taken) → and_then a (λ t. also t.value (nexts bytes n t.after)) ≡ answered_on (ran [] q) → ⊥
      go (answered_on t) k = behind t (nexts bytes n t.after) k
      go (refused_on f s) k = not-answered-on k

  record OneMore (n : ℕ) (p q : Position) (u : ℕ) (us : List ℕ) : Type 0 where
    less : ℕ
    is : n ≡ suc less
    taken : Taken
    answers : next_answer bytes p ≡ answered_on taken
    value : taken.value ≡ u
    later : nexts bytes less taken.after ≡ answered_on (ran us q)

  one_left : (n : ℕ) (p q : Position) (u : ℕ) (us : List ℕ) → nexts bytes n p ≡ answered_on (ran (u ∷ us) q) → OneMore n p q u us
  unfolding nexts
  one_left zero p q u us e = absurd (not-empty (sym (ap (λ (x : Run). x.values) (same-answer-on e))))
  one_left (suc n) p q u us e = go (next_answer bytes p) refl e
    where
      behind : (t : Taken) → next_answer bytes p ≡ answered_on t → (r : SaidOn Position Run) → nexts bytes n t.after ≡ r → also t.value r ≡ answered_on (ran (u ∷ us) q)
          → OneMore (suc n) p q u us
      behind t a (answered_on r) l k =
          let same = same-answer-on k in
          let values = ap (λ (x : Run). x.values) same in
          record {
            less = n;
            is = refl;
            taken = t;
            answers = a;
            value = same-front values;
            later = l ∙ ap₂ (λ (xs : List ℕ) (s : Position). answered_on (ran xs s)) (same_rest values) (ap (λ (x : Run). x.after) same);
          }
      behind t a (refused_on f s) l k = absurd (not-answered-on k)

      go : (a : SaidOn Position Taken) → next_answer bytes p ≡ a → and_then a (λ t. also t.value (nexts bytes n t.after)) ≡ answered_on (ran (u ∷ us) q) → OneMore (suc n) p q u us
      go (answered_on t) a k = behind t a (nexts bytes n t.after) refl k
      go (refused_on f s) a k = absurd (not-answered-on k)

  -- there are as many
  pub gives-long : (us : List ℕ) (n : ℕ) (p q : Position) → nexts bytes n p ≡ answered_on (ran us q) → length us ≡ n
  gives-long [] n p q e = sym (none_left n p q e)
  gives-long (u ∷ us) n p q e =
      let m = one_left n p q u us e in
      omega (arith, m.is, gives-long us m.less m.taken.after q m.later)

  -- a next is one value further
  counted-on : (p : Position) (t : Taken) → next_answer bytes p ≡ answered_on t → t.after.at.count ≡ p.at.count + 1
  unfolding next_answer next_read
  counted-on p t h = go (step_at (bare (mode_of p.with_first)) (state_at p.at) (ahead bytes p.at)) (accepted-on p (next_causes (length bytes) p.at) _ t h).1
    where
      go : (q : stream.Step) → handed p (moved_by p.at q) ≡ answered_on t → t.after.at.count ≡ p.at.count + 1
      go (stream.got v win used) e = ap (λ (x : Taken). x.after.at.count) (sym (same-answer-on e))
      go (stream.halt n) e = absurd (not-answered-on e)

  -- no cause of a next that is answered holds
  none-refuse : (p : Position) (t : Taken) → next_answer bytes p ≡ answered_on t → NoneHolds (next_causes (length bytes) p.at)
  unfolding next_answer
  none-refuse p t h = (accepted-on p (next_causes (length bytes) p.at) (next_read bytes p) t h).0

  -- what a stream has at its front, and what it gives behind that
  record Turns (h : Half) (us : List ℕ) : Type 0 where
    next : Half
    takes : turn_of bytes h ≡ answered (record { entry = front_of us; after = next })
    gives : Gives bytes next (rest_of us)
    most : next.position.at.count ≤ h.position.at.count + 1
    ended : length us ≡ 0 → next.position.at.count ≡ h.position.at.count
    counted : 0 < length us → next.position.at.count ≡ h.position.at.count + 1
    goes : may_go (length bytes) h ≡ true
    room : is_full h ≡ false

  turns : (h : Half) (us : List ℕ) → Gives bytes h us → Turns h us
  unfolding turn_of
  turns h [] g =
      let none : eqb h.rest 0 ≡ true = eq-eqb h.rest 0 (none_left h.rest h.position g.after g.reads) in
      record {
        next = h;
        takes = rw none;
        gives = g;
        most = omega arith;
        ended = λ e. refl;
        counted = λ e. absurd (omega arith);
        goes = rw none;
        room = rw none;
      }
  turns h (u ∷ us) g =
      let m = one_left h.rest h.position g.after u us g.reads in
      let less : h.rest - 1 ≡ m.less = omega (arith, m.is) in
      let on = counted-on h.position m.taken m.answers in
      let some : eqb h.rest 0 ≡ false = ne_eqb h.rest 0 (λ e. omega (arith, m.is)) in
      let allowed = none-refuse h.position m.taken m.answers in
      record {
        next = behind_value h m.taken.after;
        takes =
            rw some
            (ap (took_value h) m.answers ∙ ap (λ (v : ℕ). answered (record { entry = Some v; after = behind_value h m.taken.after })) m.value);
        gives = record { after = g.after; reads = ap (λ (k : ℕ). nexts bytes k m.taken.after) less ∙ m.later };
        most = omega (arith, on);
        ended = λ e. absurd (omega arith);
        counted = λ e. on;
        goes = rw some (not-false (may_use (length bytes) h.position.at) allowed.0);
        room = rw some allowed.1.0;
      }

-- ---- both, from index i on

module _ (left right us vs : List ℕ) where
  -- one side before index i: it gives what its list has from there on, and its reader's number is i as long as it has a value
  pub record Before (bytes ws : List ℕ) (h : Half) (i : ℕ) : Type 0 where
    pub gives : Gives bytes h (drop i ws)
    pub most : h.position.at.count ≤ i
    pub counted : i < length ws → h.position.at.count ≡ i

  pub record Stands (at : Pair) (i : ℕ) : Type 0 where
    pub at_left : Before (file_stream left) us at.left i
    pub at_right : Before (file_stream right) vs at.right i

  on : (bytes ws : List ℕ) (h : Half) (i : ℕ) → Before bytes ws h i → (t : Turns bytes h (drop i ws)) → Before bytes ws t.next (suc i)
  on bytes ws h i b t =
      let long = length-drop i ws in
      record {
        gives = subst (Gives bytes t.next) (rest-drop ws i) t.gives;
        most = omega (arith, t.most, b.most);
        counted = λ e. omega (arith, t.counted (omega (arith, long)), b.counted (omega arith));
      }

  record Steps (at : Pair) (i : ℕ) : Type 0 where
    a : Turn
    b : Turn
    tells : step_told left right at ≡ answered (told_by at a b)
    on_left : a.entry ≡ entry_at us i
    on_right : b.entry ≡ entry_at vs i
    stands : (found : ℕ) → Stands (pair_of a b found) (suc i)

  steps : (at : Pair) (i : ℕ) → Stands at i → at.found ≤ most_values → Steps at i
  unfolding step_told judge
  steps at i s few =
      let l = turns (file_stream left) at.left (drop i us) s.at_left.gives in
      let r = turns (file_stream right) at.right (drop i vs) s.at_right.gives in
      record {
        a = record { entry = front_of (drop i us); after = l.next };
        b = record { entry = front_of (drop i vs); after = r.next };
        tells = rw (le-ltb most_values at.found few, l.goes, r.goes, l.room, r.room) (ap₂ (told_both at) l.takes r.takes);
        on_left = front-drop us i;
        on_right = front-drop vs i;
        stands = λ found. record { at_left = on (file_stream left) us at.left i s.at_left l; at_right = on (file_stream right) vs at.right i s.at_right r };
      }

  -- the number of the value that stands at the index is the index
  index_is : (at : Pair) (i : ℕ) → Stands at i → i < max (length us) (length vs) → index_of at ≡ i
  index_is at i s h = go (leb (length us) i) refl
    where
      go : (t : Bool) → leb (length us) i ≡ t → index_of at ≡ i
      go true e = omega (arith, leb-true (length us) i e, s.at_right.counted (omega (arith, leb-true (length us) i e)), s.at_left.most)
      go false e = omega (arith, s.at_left.counted (leb-false (length us) i e), s.at_right.most)

  -- ---- the whole walk

  -- a step whose text is `text`
  module _ (at : Pair) (line text : List ℕ) (e : length line ≡ 80) (fits : length text ≤ 80) where
    goes_on : (k : ℕ) (next : Pair) → step_told left right at ≡ answered (further text next)
        → steps_printed (suc k) left right at line ≡ text ++ steps_printed k left right next (laid text line)
    unfolding steps_printed step_answer step_memory
    goes_on k next h =
        ap (λ (t : Said Told). step_printed (step_said t) (step_left line t) (λ z. steps_printed k left right z (step_left line t))) h
        ∙ ap (λ (x : List ℕ). x ++ steps_printed k left right next (laid text line)) (text-laid text line e fits)

    ends : (k : ℕ) → step_told left right at ≡ answered (finished text) → steps_printed (suc k) left right at line ≡ text
    unfolding steps_printed step_answer step_memory
    ends k h =
        ap (λ (t : Said Told). step_printed (step_said t) (step_left line t) (λ z. steps_printed k left right z (step_left line t))) h
        ∙ text-laid text line e fits

  -- what is printed of n indices and the last line
  abbrev Walks : ℕ → ℕ → Type 0
  Walks n i =
      (k : ℕ) (at : Pair) (line : List ℕ) → length line ≡ 80 → Stands at i → i + n ≡ max (length us) (length vs) → n < k → at.found + n ≤ most_values
      → steps_printed k left right at line ≡ lines_text (differences_from n i us vs) ++ differ_text (at.found + length (differences_from n i us vs))

  abbrev told_as : Pair → Turn → Turn → Option ℕ → Bool → Told
  told_as at a b x t = cond t (told_same at a b x) (told_difference at a b)

  -- one step, by what both have at the index
  told-as : (at : Pair) (i : ℕ) (S : Steps at i) (x : Option ℕ) (t : Bool) → entry_at us i ≡ x → same_entry (entry_at us i) (entry_at vs i) ≡ t
      → step_told left right at ≡ answered (told_as at S.a S.b x t)
  unfolding told_by
  told-as at i S x t is same =
      S.tells
      ∙ ap₂ (λ (y : Option ℕ) (c : Bool). answered (told_as at S.a S.b y c)) (S.on_left ∙ is) (ap₂ same_entry S.on_left S.on_right ∙ same)

  pub walks : (n i : ℕ) → Walks n i
  unfolding differences_from
  walks zero i zero at line e s all few room = absurd (omega arith)
  walks (suc n) i zero at line e s all few room = absurd (omega arith)
  walks zero i (suc k) at line e s all few room =
      let S = steps at i s (omega arith) in
      let l : entry_at us i ≡ None = entry-missing us i (omega arith) in
      let r : entry_at vs i ≡ None = entry-missing vs i (omega arith) in
      ends at line (differ_text at.found) e (differ-most at.found) k (told-as at i S None true l (ap₂ same_entry l r))
      ∙ ap differ_text (sym (add-zero at.found))
  walks (suc n) i (suc k) at line e s all few room = go (same_entry (entry_at us i) (entry_at vs i)) refl (walks n (suc i))
    where
      S : Steps at i
      S = steps at i s (omega arith)

      later : List Difference
      later = differences_from n (suc i) us vs

      found : ℕ
      found = at.found

      value_there : same_entry (entry_at us i) (entry_at vs i) ≡ true → (u : ℕ) × (entry_at us i ≡ Some u)
      value_there same = there (leb (length us) i) refl
        where
          there : (t : Bool) → leb (length us) i ≡ t → (u : ℕ) × (entry_at us i ≡ Some u)
          there true h = (get_or vs i 0, same-equal (entry_at us i) (entry_at vs i) same ∙ entry-there vs i (omega (arith, leb-true (length us) i h)))
          there false h = (get_or us i 0, entry-there us i (leb-false (length us) i h))

      go : (t : Bool) → same_entry (entry_at us i) (entry_at vs i) ≡ t → Walks n (suc i)
          → steps_printed (suc k) left right at line ≡ lines_text (cond t later (both_at us vs i ∷ later)) ++ differ_text (found + length (cond t later (both_at us vs i ∷ later)))
      go true same ih =
          let u = value_there same in
          goes_on at line [] e (omega arith) k (pair_of S.a S.b found) (told-as at i S (Some u.0) true u.1 same)
          ∙ ih k (pair_of S.a S.b found) line e (S.stands found) (omega arith) (omega arith) (omega arith)
      go false same ih =
          let d : Difference = both_at us vs i in
          let text : List ℕ = difference_text d in
          let fits : length text ≤ 80 = difference-most d in
          let next : Pair = pair_of S.a S.b (found + 1) in
          let long : length (laid text line) ≡ 80 = length-sets line 0 text ∙ e in
          let is : told_difference at S.a S.b ≡ further text next =
          ap₂ (λ (x : ℕ) (y : Option ℕ × Option ℕ). further (difference_text (record { index = x; left = y.0; right = y.1 })) next) (index_is at i s (omega arith))
          (ap₂ {C = Option ℕ × Option ℕ} (λ (y z : Option ℕ). (y, z)) S.on_left S.on_right) in
          let more : found + 1 + length later ≡ found + suc (length later) = omega arith in
          goes_on at line text e fits k next (told-as at i S (entry_at us i) false refl same ∙ ap answered is)
          ∙ ap (λ (x : List ℕ). text ++ x) (ih k next (laid text line) long (S.stands (found + 1)) (omega arith) (omega arith) (omega arith))
          ∙ sym (append_assoc text (lines_text later) (differ_text (found + 1 + length later)))
          ∙ ap (λ (x : ℕ). text ++ lines_text later ++ differ_text x) more
