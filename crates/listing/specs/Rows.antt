-- The rows of a with-first stream: of each value its kind, the leading zeros of its window, the bits that its code takes, and the value.
-- Assumes nothing.
use Rattle.std.specs.Prelude.{Bool, true, false, List, [], ◌∷◌, ◌++◌, ℕ, zero, suc, ◌+◌, drop}
use Rattle.std.proofs.Math.Option.{Option, none, some}
use Rattle.stream.specs.Format as format
use Rattle.stream.specs.Format.{macaque, Window, with_first, Stream, State, is_raw, advance, bare}
use Rattle.stream.specs.Read.{Step, got, halt, read_word, step_at}
use Rattle.listing.specs.Text.{row_text}
use Rattle.listing.specs.declared.Kind.{Kind}
use Rattle.listing.specs.declared.Kind.TheVariants.{Raw, Same, New, Keep}
use Rattle.listing.specs.declared.Fields.{Fields}

-- "reads a with-first stream"
abbrev pub listed : Stream Unit
listed = bare with_first

-- a value with no code word is raw
abbrev pub kind_by : Option format.Kind → Kind
kind_by none = Raw
kind_by (some format.same) = Same
kind_by (some format.keep) = Keep
kind_by (some format.new) = New

-- the kind of the value that these bits begin with
unfoldable pub kind_read : Bool → List Bool → Kind
kind_read true bs = Raw
kind_read false bs = kind_by (read_word macaque bs)

-- the row of the value v that these bits begin with, its window (in a keep row the one kept) and the bits used
abbrev pub row_of : Bool → List Bool → ℕ → Window → ℕ → Fields
row_of raw bs v win used = record { kind = kind_read raw bs; lead = win.lead; bits = used; value = v }

abbrev pub rows_by : Step → (ℕ → Window → ℕ → List Fields) → List Fields
rows_by (got v win used) k = k v win used
rows_by (halt n) k = []

-- the rows of n values from the state s, whose bits come first in the list
unfoldable pub rows_from : ℕ → State Unit → List Bool → List Fields
rows_from zero s bs = []
rows_from (suc n) s bs =
    rows_by (step_at listed s bs) (λ v win used. row_of (is_raw listed s) bs v win used ∷ rows_from n (advance listed s v win used) (drop used bs))

-- the sum of the bits column
unfoldable pub total_bits : List Fields → ℕ
total_bits [] = 0
total_bits (row ∷ rows) = row.bits + total_bits rows

-- the lines of rows, the first of value number `n`
unfoldable pub rows_text : ℕ → List Fields → List ℕ
rows_text n [] = []
rows_text n (row ∷ rows) = row_text n row ++ rows_text (suc n) rows
