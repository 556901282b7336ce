-- What is said of a stream that reading refuses with 5 to 8: the values that were read before it broke, and where and why reading stopped behind them.
-- Assumes nothing.
use Rattle.std.specs.Prelude.{◌≡◌, Bool, List, ℕ, ◌*◌, ◌≤◌, ◌<◌, length, take}
use Rattle.std.proofs.Math.Option.{some}
use Rattle.bits.specs.Bits.{bits_of}
use Rattle.stream.specs.Format.{Stream, State, fresh}
use Rattle.stream.specs.Read.{halt, StreamRefusal, done, stopped, step_at, read_n, leftover, read_all}

-- 5 to 7: a value more was wanted, its code begins at the place, and reading it stops by the number; t is the state before it and `rest` are the bits
-- from there on
pub record InsideAValue {A : Type 0} (S : Stream A) (n : ℕ) (t : State A) (rest : List Bool) (r : StreamRefusal) : Type 0 where
  pub wanted : r.value < n
  pub begins : t.place ≡ r.place
  pub halts : step_at S t rest ≡ halt r.no

-- 8: all n values were read, and the place is that of the first bit that is left over behind them
pub record BehindTheLast {A : Type 0} (n : ℕ) (t : State A) (rest : List Bool) (r : StreamRefusal) : Type 0 where
  pub all : r.value ≡ n
  pub left : leftover t.place rest ≡ some r.place

-- Of bits that are asked for n values and refused by r: as many values as r says were read, each accepted, and the state behind them; none of their bits
-- stands at the place of r or behind it; and what stopped reading there.
pub record BrokenAt {A : Type 0} (S : Stream A) (l n : ℕ) (bits : List Bool) (r : StreamRefusal) : Type 0 where
  pub values : List ℕ
  pub state : State A
  pub rest : List Bool
  pub reads : read_n S r.value (fresh S l) bits ≡ done values state rest
  pub long : length values ≡ r.value
  pub counted : state.count ≡ r.value
  pub few : r.value ≤ n
  pub before : state.place ≤ r.place
  pub from5 : 5 ≤ r.no
  pub to8 : r.no ≤ 8
  pub inside : ¬ (r.no ≡ 8) → InsideAValue S n state rest r
  pub behind : r.no ≡ 8 → BehindTheLast n state rest r

-- Of a stream of n values, us, only the first m bytes arrived: reading n values of them is refused with 5; the values before it are the first of those that
-- were sent, and every value whose bits all arrived is among them.
pub record CutShort {A : Type 0} (S : Stream A) (l n : ℕ) (bytes us : List ℕ) (m : ℕ) : Type 0 where
  pub refusal : StreamRefusal
  pub refuses : read_all S n (fresh S l) (bits_of (take m bytes)) ≡ stopped refusal
  pub five : refusal.no ≡ 5
  pub broken : BrokenAt S l n (bits_of (take m bytes)) refusal
  pub as_sent : take refusal.value us ≡ broken.values
  pub all_whole : (k : ℕ) → k ≤ n → (ws : List ℕ) (w : State A) (x : List Bool) → read_n S k (fresh S l) (bits_of bytes) ≡ done ws w x → w.place ≤ 8 * m
      → k ≤ refusal.value
