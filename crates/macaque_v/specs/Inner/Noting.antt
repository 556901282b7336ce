-- Words of inner contracts and of proofs: the entries that the writer notes. Assumes nothing.
use Rattle.std.specs.Prelude.{◌≡◌, Bool, true, false, cond, List, [], ◌∷◌, ℕ, ◌+◌, ◌%◌, ◌≤◌, ◌<◌}
use Rattle.stream.specs.Format.{window_in}
use Rattle.places.specs.Table.{spacing, Entry}
use Rattle.places.specs.Calls.{laid_entries}
use Rattle.macaque_v.specs.declared.write.Pen.{Pen}

-- of the values from number i on, behind `count` others, `due` is the first with an entry; n, behind them all, where none is noted
abbrev pub DueAt : Bool → ℕ → ℕ → ℕ → ℕ → Type 0
DueAt true count n i due = (i ≤ due) × (due < i + spacing) × ((count + due) % spacing ≡ 0)
DueAt false count n i due = due ≡ n

-- an entry by its four words
abbrev pub entry_in : ℕ → ℕ → ℕ → ℕ → Entry
entry_in place last lead trail = record { place = place; last = last; win = window_in lead trail }

-- the entry of where the pen stands, before a value that is raw or not
abbrev pub entry_by : Bool → Pen → Entry
entry_by raw p = entry_in p.place (cond raw 0 p.last) p.lead p.trail

-- it stands in its four words
abbrev pub noted_by : Bool → Pen → ℕ → List ℕ → List ℕ
noted_by raw p k words = laid_entries words k (entry_by raw p ∷ [])
