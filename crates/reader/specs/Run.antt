-- Reading on: n nexts from where a reader stands, and the end behind them; and the last value that is read so. Assumes nothing.
use Rattle.std.specs.Prelude.{List, [], ◌∷◌, ℕ, zero, suc}
use Rattle.models.specs.Answers.{Said, Done, answered, refused, SaidOn, answered_on, refused_on, judge}
use Rattle.models.specs.Causes.{count_causes}
use Rattle.macaque_v.specs.Read.{values_in}
use Rattle.macaque_v.specs.declared.Opening.{Opening}
use Rattle.reader.specs.Calls.{opened_at, Taken, next_answer, end_answer}
use Rattle.reader.specs.declared.position.Position.{Position}

-- the values, and where the reader stands behind them
pub record Run : Type 0 where
  pub values : List ℕ
  pub after : Position

-- a value before others
abbrev pub also : ℕ → SaidOn Position Run → SaidOn Position Run
also v (answered_on r) = answered_on (record { values = v ∷ r.values; after = r.after })
also v (refused_on n p) = refused_on n p

abbrev pub and_then : SaidOn Position Taken → (Taken → SaidOn Position Run) → SaidOn Position Run
and_then (answered_on t) k = k t
and_then (refused_on n p) k = refused_on n p

-- n nexts, up to the first that is refused
unfoldable pub nexts : List ℕ → ℕ → Position → SaidOn Position Run
nexts bytes zero p = answered_on (record { values = []; after = p })
nexts bytes (suc n) p = and_then (next_answer bytes p) (λ t. also t.value (nexts bytes n t.after))

-- the values, where the end is right too
abbrev pub if_ended : List ℕ → Said Done → Said (List ℕ)
if_ended vs (answered u) = answered vs
if_ended vs (refused n) = refused n

abbrev pub and_end : List ℕ → SaidOn Position Run → Said (List ℕ)
and_end bytes (answered_on r) = if_ended r.values (end_answer bytes r.after)
and_end bytes (refused_on n p) = refused n

-- open, n nexts, and the end
abbrev pub read_by : List ℕ → ℕ → Opening → Said (List ℕ)
read_by bytes n o = and_end bytes (nexts bytes n (opened_at o))

-- ---- the last value

-- 0 where there are none
abbrev pub last_in : ℕ → List ℕ → ℕ
last_in v [] = v
last_in v (x ∷ xs) = last_in x xs

abbrev pub last_of : ℕ → Said (List ℕ) → Said ℕ
last_of v (answered vs) = answered (last_in v vs)
last_of v (refused n) = refused n

-- of a stream's values, `count` of them: "Reading takes exactly the stream's bytes and a count"
unfoldable pub last_answer : List ℕ → ℕ → Opening → Said ℕ
last_answer bytes count o = judge refused (count_causes count) (last_of 0 (values_in bytes count o))
