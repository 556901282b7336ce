-- `exports_choice::builder_words` meets its contract: the two copies are the two models' rows. Assumes nothing.
use Rattle.exports_fit.specs.Row.{pmc_row, swing_row}
use Rattle.exports_choice.specs.Row.{builder_row}
use Rattle.exports_choice.proofs.builder_words.Goals as goal

pub returns : goal.returns
unfolding builder_row pmc_row swing_row
returns c =
    rw (c.copy_from_slice.ensures.after, c.copy_from_slice-2.ensures.after, c.pmc_words.ensures, c.swing_words.ensures)
