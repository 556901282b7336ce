-- A list of values tried one after the other.
use mathlib.Core.List.{List, foldl}
use Rattle.std.specs.Prelude.{ℕ}
use Rattle.models.specs.Answers.{state_after}
use Rattle.pmc_mean.specs.Calls.{fit_answer}
use Rattle.pmc_mean.specs.declared.PMCMean.{PMCMean}

-- the state that fit_value hands back
abbrev pub next : PMCMean → ℕ → PMCMean
next s value = state_after (fit_answer s value)

abbrev pub run : PMCMean → List ℕ → PMCMean
run s values = foldl next s values
