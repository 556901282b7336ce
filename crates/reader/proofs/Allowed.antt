-- A reader that may be used is where one value can be read. Assumes nothing.
use mathlib.Core.Path.{◌≡◌, sym, ap, ◌∙◌}
use mathlib.Core.Logic.{◌⊎◌, inl, inr}
use mathlib.Core.Bool.{true, false≢true}
use mathlib.Core.List.{List}
use Prim.Native.Nat.{ℕ, ◌^◌, ◌≤◌, ◌<◌}
use native.Mathlib.Nat.{min-le_left, min-le_right}
use native.Mathlib.Omega.{arith}
use lib.ListN.{length}
use Rattle.models.specs.Limits.{most_values}
use Rattle.stream.specs.Format.{macaque, opening, window_in, unset}
use Rattle.stream.proofs.Formats.{macaque-good, Framed}
use Rattle.stream.proofs.Rule.{usable-says}
use Rattle.coding.specs.Inner.Ahead.{WindowSound}
use Rattle.macaque_v.specs.Calls.{lent_bytes}
use Rattle.macaque_v.specs.ReadRun.{state_at}
use Rattle.macaque_v.specs.Inner.ReadRun.{ReadableAt}
use Rattle.macaque_v.specs.declared.read_run.Cursor.{Cursor}
use Rattle.reader.specs.Calls.{may_use}

pub readable : (bytes : List ℕ) (at : Cursor) → may_use (length bytes) at ≡ true → at.last < 2 ^ 32 → ReadableAt bytes at × (at.count ≤ most_values)
readable bytes at allowed small =
    let u = usable-says macaque macaque-good (lent_bytes (length bytes)) (state_at at) allowed in (
      record {
        within = omega (arith, u.0, min-le_left (length bytes) (2 ^ 60));
        near = omega (arith, u.0, min-le_right (length bytes) (2 ^ 60));
        small = small;
        held = held u.2.window;
      },
      u.1,
    )
  where
    held : {N : Type 0} → (window_in at.lead at.trail ≡ opening) ⊎ (N × Framed macaque (window_in at.lead at.trail)) → WindowSound at.lead at.trail
    held (inl e) set = absurd (false≢true (sym set ∙ ap unset e))
    held (inr f) set = f.1.some
