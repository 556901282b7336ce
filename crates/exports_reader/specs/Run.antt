-- Reading a stream through a row, as a caller does: next after next with one output, and the end. Assumes nothing.
use Rattle.std.specs.Prelude.{◌≡◌, List, [], ◌∷◌, ℕ, zero, suc, length, get_or}
use Rattle.models.specs.Answers.{Said, answered, refused}
use Rattle.models.specs.declared.Fault.{Fault}
use Rattle.exports.specs.Face.{ask_fault, ask_row}
use Rattle.reader.specs.Calls.{next_answer}
use Rattle.exports_reader.specs.Row.{position_in}
use Rattle.exports_reader.specs.Calls.{one_value, next_row, end_fault}

-- ---- one next: the fault, the row and the output

abbrev pub next_fault : List ℕ → List ℕ → List ℕ → Fault
next_fault bytes row out = ask_fault 1 (length out) (next_answer bytes (position_in row))

abbrev pub next_moved : List ℕ → List ℕ → List ℕ → List ℕ
next_moved bytes row out = next_row row out (next_answer bytes (position_in row))

abbrev pub next_out : List ℕ → List ℕ → List ℕ → List ℕ
next_out bytes row out = ask_row 1 one_value out (next_answer bytes (position_in row))

-- ---- n of them, and the end: the values that stood in out[0], where every call answered a fault of number 0; else the first other fault

abbrev pub unless : ℕ → Fault → Said (List ℕ) → Said (List ℕ)
unless zero f later = later
unless (suc n) f later = refused f

abbrev pub if_zero : Fault → Said (List ℕ) → Said (List ℕ)
if_zero f later = unless f.number f later

-- a value before others
abbrev pub and_later : ℕ → Said (List ℕ) → Said (List ℕ)
and_later v (answered vs) = answered (v ∷ vs)
and_later v (refused f) = refused f

unfoldable pub read_through : List ℕ → ℕ → List ℕ → List ℕ → Said (List ℕ)
read_through bytes zero row out = if_zero (end_fault bytes row) (answered [])
read_through bytes (suc n) row out =
    if_zero (next_fault bytes row out)
    (and_later (get_or (next_out bytes row out) 0 0) (read_through bytes n (next_moved bytes row out) (next_out bytes row out)))

-- ---- the same, call by call

-- each next answers the number 0 and puts its value into out[0], and `then` is so of the row and the output behind them
abbrev pub EachNextZero : List ℕ → List ℕ → List ℕ → List ℕ → (List ℕ → List ℕ → Type 0) → Type 0
EachNextZero bytes row out [] then = then row out
EachNextZero bytes row out (v ∷ vs) then =
    ((next_fault bytes row out).number ≡ 0)
    × (get_or (next_out bytes row out) 0 0 ≡ v)
    × EachNextZero bytes (next_moved bytes row out) (next_out bytes row out) vs then

-- and behind them the end answers 0
abbrev pub EachAnswersZero : List ℕ → List ℕ → List ℕ → List ℕ → Type 0
EachAnswersZero bytes row out vs = EachNextZero bytes row out vs (λ after left. (end_fault bytes after).number ≡ 0)
