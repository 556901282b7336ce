-- What a reader's calls say and answer: for each, its causes of refusal in 01's order, the answer, and the law that its results are told apart.
-- Assumes nothing.
use Rattle.std.specs.Prelude.{◌≡◌, refl, Result, Ok, Err, Bool, not, List, [], ◌∷◌, ℕ, eqb, length}
use Rattle.std.proofs.Common.{sym, ◌∙◌}
use Rattle.std.specs.Borrow.{Bor}
use Rattle.models.specs.Answers.{Said, Done, answered, refused, SaidOn, answered_on, refused_on, Cause, ◌when◌, judge, Injective, told-apart, refusing}
use Rattle.models.specs.Limits.{most_values}
use Rattle.models.specs.Refusals.{refusal_of, refusal-told, fault_of}
use Rattle.models.specs.declared.Refusal.{Refusal}
use Rattle.stream.specs.Format.{macaque, window_in, keeps_rule}
use Rattle.macaque_v.specs.State.{is_first}
use Rattle.macaque_v.specs.Calls.{lent_bytes}
use Rattle.macaque_v.specs.ReadRun.{next_from, end_said}
use Rattle.macaque_v.specs.Read.{start_of}
use Rattle.macaque_v.specs.declared.Opening.{Opening}
use Rattle.macaque_v.specs.declared.read_run.Cursor.{Cursor}
use Rattle.reader.specs.declared.Next.{Next}
use Rattle.reader.specs.declared.Reader.{Reader}
use Rattle.reader.specs.declared.position.Position.{Position}
use Rattle.reader.specs.declared.position.Moved.{Moved}

-- ---- open: before any value

abbrev pub opened_at : Opening → Position
opened_at o = record { with_first = is_first o; at = start_of o }

-- ---- "Its place, that number and its window keep the rule for a writer's state, else 2"

abbrev pub may_use : ℕ → Cursor → Bool
may_use bytes at = keeps_rule macaque (lent_bytes bytes) (window_in at.lead at.trail) at.place at.count

-- ---- next: "to read the next value (or 5 to 7, the reader unchanged)", "a next at 65,536 is 3"

abbrev pub next_causes : ℕ → Cursor → List Cause
next_causes bytes at = 2 when not (may_use bytes at) ∷ 3 when eqb at.count most_values ∷ []

-- the value, and where the reader stands behind it
pub record Taken : Type 0 where
  pub value : ℕ
  pub after : Position

-- behind the value or, where it is refused, where it was
abbrev pub moved_to : Position → Cursor → Position
moved_to p to = record { with_first = p.with_first; at = to }

abbrev pub handed : Position → Said Cursor → SaidOn Position Taken
handed p (answered to) = answered_on (record { value = to.last; after = moved_to p to })
handed p (refused f) = refused_on f p

-- by the theory's step from the place on
unfoldable pub next_read : List ℕ → Position → SaidOn Position Taken
next_read bytes p = handed p (next_from p.with_first bytes p.at)

unfoldable pub next_answer : List ℕ → Position → SaidOn Position Taken
next_answer bytes p = judge (refusing p) (next_causes (length bytes) p.at) (next_read bytes p)

abbrev pub says_next : Result ℕ Refusal → Position → SaidOn Position Taken
says_next (Ok v) p = answered_on (record { value = v; after = p })
says_next (Err r) p = refused_on (fault_of r) p

abbrev pub says_moved : Moved → SaidOn Position Taken
says_moved s = says_next s.answer s.after

abbrev moved_back : SaidOn Position Taken → Moved
moved_back (answered_on t) = record { answer = Ok t.value; after = t.after }
moved_back (refused_on n p) = record { answer = Err (refusal_of n); after = p }

moved_told : (s : Moved) → moved_back (says_moved s) ≡ s
moved_told s = go s.answer
  where
    go : (a : Result ℕ Refusal) → moved_back (says_next a s.after) ≡ record { answer = a; after = s.after }
    go (Ok v) = refl
    go (Err r) = rw (refusal-told r)

pub says_moved-injective : Injective says_moved
says_moved-injective = told-apart says_moved moved_back moved_told

-- a contract of `open` or `next` allows one reader, and one answer: the stream is the one lent, at the same place in memory
pub one_reader : (s : Bor (List ℕ)) (p : Position) (a b : Reader) → (a.stream ≡ s) × (a.position ≡ p) → (b.stream ≡ s) × (b.position ≡ p) → a ≡ b
one_reader s p a b e f = λ i. record { stream = (e.0 ∙ sym f.0) i; position = (e.1 ∙ sym f.1) i }

pub one-next : (s : Bor (List ℕ)) (said : SaidOn Position Taken) (a b : Next)
    → (a.reader.stream ≡ s) × (says_next a.answer a.reader.position ≡ said) → (b.reader.stream ≡ s) × (says_next b.answer b.reader.position ≡ said) → a ≡ b
one-next s said a b e f =
    let same = says_moved-injective (record { answer = a.answer; after = a.reader.position }) (record { answer = b.answer; after = b.reader.position }) (e.1 ∙ sym f.1) in
    λ i. record { answer = (same i).answer; reader = record { stream = (e.0 ∙ sym f.0) i; position = (same i).after } }

-- ---- end: "to end (8 or done)", "the end call judges what follows its place"

abbrev pub end_causes : ℕ → Cursor → List Cause
end_causes bytes at = 2 when not (may_use bytes at) ∷ []

unfoldable pub end_answer : List ℕ → Position → Said Done
end_answer bytes p = judge refused (end_causes (length bytes) p.at) (end_said bytes p.at)
