-- A builder that was put into a row is read back from it, where the fields of its models are of their formats: proofs/Stands shows that those of every builder
-- that calls make are. Assumes nothing.
use mathlib.Core.Path.{◌≡◌, ap, ◌∙◌}
use mathlib.Core.List.{List, ◌++◌, append_assoc}
use Prim.Native.Nat.{ℕ}
use native.Mathlib.Omega.{arith}
use borrow.Author.Tests.{le-ltb}
use lib.ListN.{length}
use Rattle.types.specs.declared.ModelBuilder.{ModelBuilder}
use Rattle.exports.proofs.Back.{flag_small, flag-back}
use Rattle.exports_fit.specs.Row.{pmc_row, swing_row}
use Rattle.exports_fit.proofs.Back.{PmcHeld, pmc-back, SwingHeld, swing-back}
use Rattle.exports_choice.specs.Row.{builder_length, builder_row, builder_in}

module _ (b : ModelBuilder) (rest : List ℕ) where
  abbrev first : List ℕ
  first = pmc_row b.pmc_mean b.pmc_mean_could_fit_all

  abbrev later : List ℕ
  later = swing_row b.swing b.swing_could_fit_all ++ rest

  one-row : builder_row b ++ rest ≡ first ++ later
  unfolding builder_row
  one-row = append_assoc first (swing_row b.swing b.swing_could_fit_all) rest

  parts : PmcHeld b.pmc_mean → SwingHeld b.swing → builder_in (first ++ later) ≡ b
  unfolding builder_in pmc_row swing_row
  parts p s =
      rw (le-ltb (length (first ++ later)) builder_length (omega arith), flag_small b.pmc_mean_could_fit_all, flag_small b.swing_could_fit_all, flag-back b.pmc_mean_could_fit_all, flag-back b.swing_could_fit_all, pmc-back b.pmc_mean b.pmc_mean_could_fit_all later p, swing-back b.swing b.swing_could_fit_all rest s)

  pub builder-back : PmcHeld b.pmc_mean → SwingHeld b.swing → builder_in (builder_row b ++ rest) ≡ b
  builder-back p s = ap builder_in one-row ∙ parts p s
