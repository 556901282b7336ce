-- Words of inner contracts and of proofs, beside specs/Write. Assumes nothing.
use Rattle.std.specs.Prelude.{◌≡◌, Bool, true, false, List, ℕ, zero, suc, ◌+◌, ◌<◌, eqb}
use Rattle.std.specs.Float.{binary32}
use Rattle.std.specs.Float.Ieee.{add, of_bits}
use Rattle.bits.specs.Bits.{laid_in}
use Rattle.models.specs.declared.ErrorBound.{ErrorBound}
use Rattle.stream.specs.Format.{State, raw_next, window_in}
use Rattle.stream.specs.Write.{kept_one, written}
use Rattle.places.specs.Table.{Entry, entries_for, added}
use Rattle.places.specs.Calls.{laid_entries}
use Rattle.coding.specs.Keep.{keep_rule}
use Rattle.coding.specs.Inner.Code.{Coded}
use Rattle.coding.specs.declared.code.Code.{Code}
use Rattle.macaque_v.specs.State.{Known, ends_in, mode_of, state_of}
use Rattle.macaque_v.specs.Inner.Span.{span_from, span_with, min_max_said}
use Rattle.macaque_v.specs.Inner.Total.{added_to}
use Rattle.macaque_v.specs.declared.MacaqueV.{MacaqueV}
use Rattle.macaque_v.specs.declared.write.Pen.{Pen}
use Rattle.macaque_v.specs.declared.write.Stroke.{Stroke}
use Rattle.macaque_v.specs.Write.{stream_by, rule_by, writer_at}

-- the bits that m writes of a list of inputs, and the state after them
abbrev pub written_by : MacaqueV → List ℕ → List Bool
written_by m xs = written (rule_by m) (stream_by m) (state_of m) xs

-- bits laid at a place, or only counted
abbrev pub laid_where : Bool → List ℕ → ℕ → List Bool → List ℕ
laid_where true buf p bits = laid_in buf p bits
laid_where false buf p bits = buf

-- the entries that m adds to a table for a list of inputs, behind those that its length asks for; or none
abbrev pub entries_by : MacaqueV → List ℕ → List Entry
entries_by m xs = added (rule_by m) (stream_by m) (state_of m) xs

abbrev pub noted_where : Bool → List ℕ → MacaqueV → List ℕ → List ℕ
noted_where true words m xs = laid_entries words (entries_for m.length) (entries_by m xs)
noted_where false words m xs = words

-- of n values the one at r, if any, is stored raw
abbrev pub RawAt : MacaqueV → ℕ → ℕ → Type 0
RawAt m n r = (i : ℕ) → i < n → eqb i r ≡ raw_next (mode_of m.with_first) (m.length + i)

-- ---- the pen: a state, but for the count, with the least and the greatest value and the sum as they are held

abbrev pub pen_of : MacaqueV → Pen
pen_of m =
    record {
      last = m.last_value;
      lead = m.last_leading_zero_bits;
      trail = m.last_trailing_zero_bits;
      place = m.place;
      span = span_from m.min_value m.max_value;
      sum = added_to (raw_next (mode_of m.with_first) m.length) m.sum;
    }

-- the state in which the pen stands, behind n values and with these things gathered
abbrev pub state_by : Pen → ℕ → Known → State Known
state_by p n k = record { last = p.last; win = window_in p.lead p.trail; place = p.place; count = n; seen = k }

-- the writer m after n values, behind which the pen stands
abbrev pub left_by : MacaqueV → Pen → ℕ → MacaqueV
left_by m p zero = m
left_by m p (suc n) = writer_at m (state_by p (m.length + suc n) (min_max_said p.span (ends_in (state_of m)) p.last, p.sum))

abbrev pub code_in : Stroke → Code
code_in r = record { width = r.width; bits = r.bits; lead = r.pen.lead; trail = r.pen.trail }

-- r is one input's bits, and the pen behind them
pub record StrokeSays (raw : Bool) (b : ErrorBound) (p : Pen) (x : ℕ) (r : Stroke) : Type 0 where
  pub kept : r.pen.last ≡ kept_one (keep_rule b) raw p.last x
  pub code : Coded raw (window_in p.lead p.trail) p.last r.pen.last (code_in r)
  pub place : r.pen.place ≡ p.place + r.width
  pub span : r.pen.span ≡ span_with p.span r.pen.last
  pub sum : r.pen.sum ≡ add binary32 p.sum (of_bits binary32 r.pen.last)
