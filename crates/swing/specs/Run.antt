-- A list of points tried one after the other.
use Rattle.std.specs.Prelude.{◌≡◌, Bool, ℕ, ℤ}
use mathlib.Core.List.{List, foldl}
use Rattle.std.specs.Float.{binary32}
use Rattle.std.specs.Float.Ieee.{of_bits}
use Rattle.models.specs.Answers.{answered_on, fitting, state_after}
use Rattle.models.specs.Floats.{is_finite}
use Rattle.swing.specs.Calls.{fit_answer}
use Rattle.swing.specs.declared.Swing.{Swing}

-- a timestamp and a value's pattern
pub record Given : Type 0 where
  pub time : ℤ
  pub bits : ℕ

-- the state that fit_data_point hands back
abbrev pub next : Swing → Given → Swing
next s g = state_after (fit_answer s g.time g.bits)

abbrev pub run : Swing → List Given → Swing
run s given = foldl next s given

-- the call answers that the point fits
abbrev pub Fits : Swing → Given → Type 0
Fits s g = (t : Swing) × (fit_answer s g.time g.bits ≡ answered_on (fitting t))

-- its value is finite
abbrev pub finite : Given → Bool
finite g = is_finite (of_bits binary32 g.bits)
