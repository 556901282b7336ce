-- What a format and a writer have to meet for the promises to hold. Assumes nothing.
use Rattle.std.specs.Prelude.{◌≡◌, Bool, List, ◌++◌, ℕ, ◌+◌, ◌*◌, ◌%◌, ◌^◌, ◌≤◌, ◌<◌, length}
use Rattle.std.proofs.Math.Option.{some}
use Rattle.stream.specs.Format.{Format, Kind, word_of, opening, State, most_values}
use Rattle.stream.specs.Write.{Keeps}
use Rattle.stream.specs.Read.{read_word, count_of}
use Rattle.stream.specs.Calls.{Coder}

-- the bits of a value's code are at most so many: a new window's header, and all of the value's bits
abbrev pub longest : Format → ℕ
longest F = length F.new_word + F.lead_bits + F.count_bits + F.width

-- What a format has to meet: its words are told apart and not empty, none is longer than a new window's, its count field holds each count from 1 to the width, and no count of
-- leading zeros is the opening window's.
pub record Good (F : Format) : Type 0 where
  pub words : (k : Kind) (r : List Bool) → read_word F (word_of F k ++ r) ≡ some k
  pub counts : (m : ℕ) → 0 < m → m ≤ F.width → count_of F (m % 2 ^ F.count_bits) ≡ m
  pub narrow : F.width ≤ opening.lead
  pub wide : 0 < F.width
  pub long : (k : Kind) → 0 < length (word_of F k)
  pub most : (k : Kind) → length (word_of F k) ≤ length F.new_word

-- What a writer has to meet: its format is good, what it keeps of values of the width is of the width, its words hold a state, and the bits of all
-- values that a stream may have lie in the bytes of a buffer that count.
pub record GoodCoder {A W : Type 0} (C : Coder A W) : Type 0 where
  pub format : Good C.stream.format
  pub keeps : Keeps C.stream.format.width C.rule
  pub holds : (s : State A) → C.state (C.hold s) ≡ s
  pub near : most_values * longest C.stream.format ≤ 8 * 2 ^ 60
