-- The row that a call left stands for the state that the call handed out, whatever words it held before, and so does the row after any list of such
-- calls. Assumes nothing.
use mathlib.Core.Path.{◌≡◌, refl, ap, ◌∙◌}
use mathlib.Core.Bool.{true, false, not}
use mathlib.Core.List.{List, [], ◌∷◌, ◌++◌, foldl}
use Prim.Native.Nat.{ℕ, ◌≤◌}
use borrow.Author.Tests.{le-leb}
use lib.ListN.{length, drop}
use Rattle.models.specs.declared.Stepped.{Stepped}
use Rattle.models.specs.Answers.{failing, state_after, SaidOn, Cause, ◌when◌, judge, judged, judged_on, NoneHolds}
use Rattle.models.specs.Bound.{bound_allowed}
use Rattle.models.specs.declared.ErrorBound.{ErrorBound}
use Rattle.exports.specs.Face.{row_after, step_row}

-- its words of what a step gives, and the state that words stand for. A state whose fields are of their formats is read back from its words, whatever
-- stands behind them; and of whatever words, what is read is such a state.
pub record StateRow (S : Type 0) : Type 1 where
  pub size : ℕ
  pub words : Stepped S → List ℕ
  pub read : List ℕ → S
  pub Formed : S → Type 0
  pub long : (t : Stepped S) → length (words t) ≡ size
  pub back : (t : Stepped S) (rest : List ℕ) → Formed t.state → read (words t ++ rest) ≡ t.state
  pub formed : (row : List ℕ) → Formed (read row)

-- the words of a fresh state
abbrev pub fresh_words : {S : Type 0} → StateRow S → S → List ℕ
fresh_words r s = r.words (failing s)

module _ {S : Type 0} (r : StateRow S) (row : List ℕ) where
  -- ---- after the call that hands out a fresh state, in a row that holds its words
  pub new-stands : r.size ≤ length row → (b : ErrorBound) (s : S) → bound_allowed b ≡ true → r.Formed s
      → r.read (row_after r.size (fresh_words r) row (judged (1 when not (bound_allowed b) ∷ []) s)) ≡ s
  unfolding judge row_after
  new-stands room b s allowed ok = rw (allowed, le-leb r.size (length row) room) (r.back (failing s) (drop (length (fresh_words r s)) row) ok)

  -- ---- after a step: a refused one leaves the row, and hands back the state that the row stands for
  said-stands : (step : Stepped S) (causes : List Cause) → (NoneHolds causes → r.Formed step.state)
      → r.read (step_row r.words row (judged_on (r.read row) causes step)) ≡ state_after (judged_on (r.read row) causes step)
  unfolding judge
  said-stands step [] ok = r.back step (drop (length (r.words step)) row) (ok tt)
  said-stands step (n when true ∷ causes) ok = refl
  said-stands step (n when false ∷ causes) ok = said-stands step causes (λ none. ok (refl, none))

-- ---- after a list of steps, each by its causes of refusal and by what it tries
module _ {S A : Type 0} (r : StateRow S) (causes : S → A → List Cause) (tried : S → A → Stepped S) (keeps : (s : S) (a : A) → r.Formed s → NoneHolds (causes s a) → r.Formed (tried s a).state) where
  abbrev said : S → A → SaidOn S (Stepped S)
  said s a = judged_on s (causes s a) (tried s a)

  abbrev next : S → A → S
  next s a = state_after (said s a)

  abbrev after : List ℕ → A → List ℕ
  after row a = step_row r.words row (said (r.read row) a)

  pub step-stands : (row : List ℕ) (a : A) → r.read (after row a) ≡ next (r.read row) a
  step-stands row a = said-stands r row (tried (r.read row) a) (causes (r.read row) a) (keeps (r.read row) a (r.formed row))

  pub rows-stand : (row : List ℕ) (l : List A) → r.read (foldl after row l) ≡ foldl next (r.read row) l
  rows-stand row [] = refl
  rows-stand row (a ∷ l) = rows-stand (after row a) l ∙ ap (λ (s : S). foldl next s l) (step-stands row a)
