-- What a call answers and leaves in a lent row, case by case. Assumes nothing.
use mathlib.Core.Path.{◌≡◌, refl, sym, ap, ◌∙◌}
use Rattle.std.specs.Prelude.{Result, Ok, Err}
use mathlib.Core.Bool.{Bool, true, false, cond, not, false≢true}
use mathlib.Core.List.{List, [], ◌∷◌, ◌++◌}
use mathlib.Core.Logic.{◌⊎◌, inl, inr}
use Prim.Native.Nat.{ℕ, ◌≤◌, ◌<◌}
use native.Mathlib.Omega.{arith}
use borrow.Author.Tests.{le-leb, lt-leb, ltb-true, ltb-false}
use lib.Dec.{leb, ltb}
use lib.ListN.{length, drop, set}
use Rattle.models.specs.Answers.{fault, no_fault, Done, Said, answered, refused, SaidOn, stateless, Cause, ◌when◌, judge, judged_on}
use Rattle.models.specs.declared.Fault.{Fault}
use Rattle.models.specs.declared.Refusal.{Refusal}
use Rattle.models.proofs.Tests.{or_right}
use Rattle.exports.specs.Face.{before_short, no_state, refusal_fault, fault_said, row_in, row_after, plain_fault, step_fault, step_row}
use Rattle.exports.specs.Inner.Put.{worded, words_said, whole_row}

-- the fault, and the row
abbrev pub Faced : {A : Type 0} → (A → List ℕ) → ℕ → List ℕ → Said A → Fault → List ℕ → Type 0
Faced words need row said told after = (told ≡ fault_said need (length row) said) × (after ≡ row_after need words row said)

pub same : {A : Type 0} (b : Bool) (x : A) → cond b x x ≡ x
same true x = refl
same false x = refl

module _ {A : Type 0} (words : A → List ℕ) (need : ℕ) (row : List ℕ) (said : Said A) where
  pub refused-row : (f : Fault) → said ≡ refused f → {told : Fault} → told ≡ refusal_fault need (length row) f → Faced words need row said told row
  unfolding fault_said row_after
  refused-row f e is = rw e (is, sym (same (leb need (length row)) row))

  pub short_row : (x : A) → said ≡ answered x → length row < need → Faced words need row said (fault 4) row
  unfolding fault_said row_after
  short_row x e h = rw (e, lt-leb need (length row) h) (refl, refl)

  pub full-row : (x : A) → said ≡ answered x → need ≤ length row → Faced words need row said no_fault (words x ++ drop (length (words x)) row)
  unfolding fault_said row_after
  full-row x e h = rw (e, le-leb need (length row) h) (refl, refl)

-- ---- an answer goes by its words alone
by-words : {A : Type 0} (words : A → List ℕ) (need : ℕ) (row : List ℕ) (said : Said A) → Faced words need row said (fault_said need (length row) (worded words said)) (row_after need whole_row row (worded words said))
unfolding fault_said row_after
by-words words need row (answered x) = (refl, refl)
by-words words need row (refused f) = (refl, refl)

pub alike : {A B : Type 0} (words : A → List ℕ) (others : B → List ℕ) (need : ℕ) (row : List ℕ) (said : Said A) (other : Said B) → worded others other ≡ worded words said
    → {told : Fault} {after : List ℕ} → Faced others need row other told after → Faced words need row said told after
alike words others need row said other e f =
    let g = by-words words need row said in
    let k = by-words others need row other in
    (f.0 ∙ sym k.0 ∙ ap (fault_said need (length row)) e ∙ g.0, f.1 ∙ sym k.1 ∙ ap (row_after need whole_row row) e ∙ g.1)

whole : (v : Result Done Refusal) (ws : List ℕ) → worded whole_row (words_said v ws) ≡ words_said v ws
whole (Ok u) ws = refl
whole (Err r) ws = refl

-- words that were put are those of an answer
pub put : {A : Type 0} (words : A → List ℕ) (need : ℕ) (row : List ℕ) (said : Said A) (v : Result Done Refusal) (ws : List ℕ) → length ws ≡ need → words_said v ws ≡ worded words said
    → {told : Fault} {after : List ℕ} → Faced whole_row (length ws) row (words_said v ws) told after → Faced words need row said told after
put words need row said v ws size e f =
    alike words whole_row need row said (words_said v ws) (whole v ws ∙ e) (rw size at f)

-- ---- a step through a row, whose words go where those of its state stood

-- an answer that a cause before 4 turns back: the row's room is not looked at
abbrev pub early : {A : Type 0} → Said A → Bool
early (answered x) = false
early (refused f) = before_short f.number

-- the row holds the words of an answer, or there is none
abbrev pub Roomy : {A : Type 0} → ℕ → List ℕ → Said A → Type 0
Roomy need row said = (need ≤ length row) ⊎ (early said ≡ true)

-- then the fault is that of the answer alone, and the row takes its words
module _ {A : Type 0} (words : A → List ℕ) (need : ℕ) (row : List ℕ) where
  roomy-fault : (said : Said A) → Roomy need row said → fault_said need (length row) said ≡ plain_fault said
  unfolding fault_said refusal_fault
  roomy-fault (answered x) (inl h) = rw (le-leb need (length row) h)
  roomy-fault (refused f) (inl h) = rw (le-leb need (length row) h, or_right (before_short f.number) true refl)
  roomy-fault (answered x) (inr h) = absurd (false≢true h)
  roomy-fault (refused f) (inr h) = rw h

  roomy-row : (said : Said A) → Roomy need row said → row_after need words row said ≡ row_in words row said
  unfolding row_after
  roomy-row said (inl h) = rw (le-leb need (length row) h)
  roomy-row (answered x) (inr h) = absurd (false≢true h)
  roomy-row (refused f) (inr h) = same (leb need (length row)) row

  -- so a refusal is told as it is, whatever its number, and leaves the row
  pub refused-with-room : (said : Said A) (f : Fault) → said ≡ refused f → need ≤ length row → (fault_said need (length row) said ≡ f) × (row_after need words row said ≡ row)
  refused-with-room said f e h = (roomy-fault said (inl h) ∙ ap plain_fault e, roomy-row said (inl h) ∙ ap (row_in words row) e)

-- words that were put into a row that holds them
pub put-plain : {A : Type 0} (words : A → List ℕ) (need : ℕ) (row : List ℕ) (said : Said A) (v : Result Done Refusal) (ws : List ℕ) → need ≤ length row → length ws ≡ need → words_said v ws ≡ worded words said
    → {told : Fault} {after : List ℕ} → Faced whole_row (length ws) row (words_said v ws) told after → (told ≡ plain_fault said) × (after ≡ row_in words row said)
put-plain words need row said v ws room size e f =
    let g = put words need row said v ws size e f in
    (g.0 ∙ roomy-fault words need row said (inl room), g.1 ∙ roomy-row words need row said (inl room))

module _ {S A : Type 0} (need : ℕ) (words : A → List ℕ) (row : List ℕ) (said : SaidOn S A) where
  pub step-said : Roomy need row (stateless said) → {told : Fault} {after : List ℕ} → Faced words need row (stateless said) told after → (told ≡ step_fault said) × (after ≡ step_row words row said)
  step-said h f =
      (f.0 ∙ roomy-fault words need row (stateless said) h, f.1 ∙ roomy-row words need row (stateless said) h)

-- ---- a state that may not be used: the bound is judged, and then the state is refused, whatever is judged later
pub no-state : {S A : Type 0} (s : S) (allowed wrong : Bool) (later : List Cause) (a : A) → wrong ≡ true
    → stateless (judged_on s (1 when not allowed ∷ 2 when wrong ∷ later) a) ≡ refused (no_state allowed)
unfolding judge
no-state s true wrong later a h = rw h
no-state s false wrong later a h = refl

-- so a step through a row has room, where a row that is too short stands for no state
pub roomy : {A : Type 0} (need : ℕ) (row : List ℕ) (said : Said A) (allowed : Bool) → (length row < need → said ≡ refused (no_state allowed)) → Roomy need row said
roomy need row said allowed short = by (ltb (length row) need) refl
  where
    before-4 : (b : Bool) → before_short (no_state b).number ≡ true
    before-4 true = refl
    before-4 false = refl

    by : (b : Bool) → ltb (length row) need ≡ b → Roomy need row said
    by true e = inr (ap early (short (ltb-true (length row) need e)) ∙ before-4 allowed)
    by false e = inl (ltb-false (length row) need e)

-- ---- a word set by itself
pub one_set : (row : List ℕ) (a : ℕ) → 1 ≤ length row → set row 0 a ≡ a ∷ drop 1 row
one_set [] a h = absurd (omega arith)
one_set (x ∷ row) a h = refl
