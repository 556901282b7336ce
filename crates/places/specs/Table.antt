-- The place table beside a stream: its entries as they are written and as they are read, what is added and what is kept, the check of a table against a
-- stream, and the reading of a range. Assumes nothing.
use Rattle.std.specs.Prelude.{◌≡◌, Bool, true, false, cond, ◌&&◌, ◌||◌, List, [], ◌∷◌, ◌++◌, ◌⊎◌, ℕ, zero, suc, ◌+◌, ◌-◌, ◌*◌, ◌/◌, ◌%◌, ◌^◌, ◌≤◌, ◌<◌, eqb, leb, ltb, length, take, drop}
use Rattle.std.proofs.Math.Option.{Option, none, some}
use Rattle.std.proofs.Math.ListN.{get_elem?}
use Rattle.models.specs.Answers.{Said, Done, answered, refused, fault}
use Rattle.models.specs.declared.Fault.{Fault}
use Rattle.stream.specs.Format.{Format, Window, is_opening, leaves_a_bit, Stream, State, fresh, is_raw, advance}
use Rattle.stream.specs.Write.{kept, next}
use Rattle.stream.specs.Read.{Step, got, halt, step_at, Reading, done, stopped, read_n, read_all, Reopened, reopened, unopened}
use Rattle.stream.specs.Calls.{fault_at}
use Rattle.stream.specs.Made.{Made}

-- ---- entries: "for each value number that is a multiple of 64 and below the count: bit place, last kept value and window before that value"

abbrev pub spacing : ℕ
spacing = 64

pub record Entry : Type 0 where
  pub place : ℕ
  pub last : ℕ
  pub win : Window

-- before a raw value there is no kept one: +0 stands for it, whatever the state holds
abbrev pub last_before : {A : Type 0} → Stream A → State A → ℕ
last_before S s = cond (is_raw S s) 0 s.last

abbrev pub entry_of : {A : Type 0} → Stream A → State A → Entry
entry_of S s = record { place = s.place; last = last_before S s; win = s.win }

-- what is noted before the next value
abbrev pub noted : {A : Type 0} → Stream A → State A → List Entry
noted S s = cond (eqb (s.count % spacing) 0) (entry_of S s ∷ []) []

-- "the number of entries its count asks for"
abbrev pub entries_for : ℕ → ℕ
entries_for n = (n + (spacing - 1)) / spacing

-- of kept values, written from the state s
unfoldable pub entries : {A : Type 0} → Stream A → State A → List ℕ → List Entry
entries S s [] = []
entries S s (v ∷ vs) = noted S s ++ entries S (next S s v) vs

-- of n values, read from the state s: those up to a refusal
abbrev pub unless_halted : Step → (ℕ → Window → ℕ → List Entry) → List Entry
unless_halted (got v win used) k = k v win used
unless_halted (halt n) k = []

unfoldable pub entries_in : {A : Type 0} → Stream A → ℕ → State A → List Bool → List Entry
entries_in S zero s bs = []
entries_in S (suc n) s bs = noted S s ++ unless_halted (step_at S s bs) (λ v win used. entries_in S n (advance S s v win used) (drop used bs))

-- ---- the table beside a stream that is written

-- of one fresh run over xs
abbrev pub table_of : {A : Type 0} → (ℕ → ℕ → ℕ) → Stream A → ℕ → List ℕ → List Entry
table_of rule S l xs = entries S (fresh S l) (kept rule S (fresh S l) xs)

-- "Writing adds entries"
abbrev pub added : {A : Type 0} → (ℕ → ℕ → ℕ) → Stream A → State A → List ℕ → List Entry
added rule S s xs = entries S s (kept rule S s xs)

abbrev pub table_wrote : {A : Type 0} → (ℕ → ℕ → ℕ) → Stream A → State A → List ℕ → List Entry → List Entry
table_wrote rule S s xs table = table ++ added rule S s xs

-- "reopening at k drops those for k and above", where k is the count of the state that it answers
abbrev pub table_after : {A : Type 0} → Reopened A → List Entry → List Entry
table_after (reopened s) table = take (entries_for s.count) table
table_after (unopened r) table = table

-- the bytes in use, the state and the table are those of one fresh run over xs
pub record MadeBeside {A : Type 0} (rule : ℕ → ℕ → ℕ) (S : Stream A) (l : ℕ) (xs : List ℕ) (buf : List ℕ) (s : State A) (table : List Entry) : Type 0 where
  pub made : Made rule S l xs buf s
  pub beside : table ≡ table_of rule S l xs

-- ---- "13, table doesn't match"

abbrev pub no_match : {X : Type 0} → Said X
no_match = refused (fault 13)

-- ---- the check: the number of entries, then the stream's own refusal, then what the entries hold

abbrev pub same_entry : Entry → Entry → Bool
same_entry d e = eqb d.place e.place && (eqb d.last e.last && (eqb d.win.lead e.win.lead && eqb d.win.trail e.win.trail))

abbrev pub same_entries : List Entry → List Entry → Bool
same_entries [] [] = true
same_entries [] (e ∷ es) = false
same_entries (d ∷ ds) [] = false
same_entries (d ∷ ds) (e ∷ es) = same_entry d e && same_entries ds es

abbrev pub matched : {A : Type 0} → Bool → Reading A → Said Done
matched same (done vs t rest) = cond same (answered tt) no_match
matched same (stopped r) = refused (fault_at r)

-- "goes through the stream once and refuses a table that doesn't belong to it"
unfoldable pub check_table : {A : Type 0} → Stream A → ℕ → State A → List Bool → List Entry → Said Done
check_table S n s bs table = cond (eqb (length table) (entries_for n)) (matched (same_entries table (entries_in S n s bs)) (read_all S n s bs)) no_match

-- the stream is accepted, and the table is its own
pub record Belongs {A : Type 0} (S : Stream A) (n : ℕ) (s : State A) (bs : List Bool) (table : List Entry) : Type 0 where
  pub values : List ℕ
  pub state : State A
  pub rest : List Bool
  pub reads : read_all S n s bs ≡ done values state rest
  pub own : table ≡ entries_in S n s bs

-- ---- a range: "values p to q − 1 .. starts from the entry at or before p"

abbrev pub entry_before : ℕ → ℕ
entry_before p = p / spacing

-- the number of the first value that is read, and how many are
abbrev pub reads_from : ℕ → ℕ
reads_from p = spacing * entry_before p

abbrev pub reads_in_all : ℕ → ℕ → ℕ
reads_in_all p q = q - reads_from p

-- the state before value n, as its entry says it; nothing has been gathered
abbrev pub state_from : {A : Type 0} → Stream A → ℕ → Entry → State A
state_from S n e = record { last = e.last; win = e.win; place = e.place; count = n; seen = S.gather.none }

-- the entry is there and its last value is one of the width, its place is not "beyond the stream's bits", and its window is "the opening one" or "of
-- leading + trailing at most 31"
abbrev pub may_start : Format → ℕ → Option Entry → Bool
may_start F bits none = false
may_start F bits (some e) = ltb e.last (2 ^ F.width) && (leb e.place bits && (is_opening e.win || leaves_a_bit F e.win))

abbrev pub without : {A : Type 0} → ℕ → Reading A → Said (List ℕ)
without k (done vs t rest) = answered (drop k vs)
without k (stopped r) = refused (fault_at r)

-- "answers what reading from there gives, with 5 to 7 as they arise; 8 isn't judged"
abbrev pub range_from : {A : Type 0} → Stream A → List Bool → ℕ → ℕ → Option Entry → Said (List ℕ)
range_from S bs p q none = no_match
range_from S bs p q (some e) = without (p - reads_from p) (read_n S (reads_in_all p q) (state_from S (reads_from p) e) (drop e.place bs))

abbrev pub range_at : {A : Type 0} → Stream A → List Bool → ℕ → ℕ → Option Entry → Said (List ℕ)
range_at S bs p q e = cond (may_start S.format (length bs) e) (range_from S bs p q e) no_match

-- "takes any table": of p = q no values
unfoldable pub read_range : {A : Type 0} → Stream A → List Bool → List Entry → ℕ → ℕ → Said (List ℕ)
read_range S bs table p q = cond (eqb p q) (answered []) (range_at S bs p q (get_elem? table (entry_before p)))

-- with any table: q − p values; or 13; or 5 to 7, at one of the values that are read

-- a refusal met while n values were read from value number m on
pub record MetIn (m n : ℕ) (f : Fault) : Type 0 where
  pub low : 5 ≤ f.number
  pub high : f.number ≤ 7
  pub from : m ≤ f.value
  pub below : f.value < m + n

abbrev pub RangeSays : ℕ → ℕ → Said (List ℕ) → Type 0
RangeSays p q (answered vs) = length vs ≡ q - p
RangeSays p q (refused f) = (f ≡ fault 13) ⊎ MetIn (reads_from p) (reads_in_all p q) f
