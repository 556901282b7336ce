-- `macaque_v::read::open_behind` meets its contract. Assumes nothing.
use mathlib.Core.Path.{sym, ap, ◌∙◌, subst}
use mathlib.Core.Bool.{Bool}
use Rattle.models.specs.Answers.{answered}
use Rattle.macaque_v.specs.State.{writer_of, is_first}
use Rattle.macaque_v.specs.Inner.ReadRun.{known_in}
use Rattle.macaque_v.specs.Inner.Read.{state_with, EndsIn, opened_behind, cut_behind}
use Rattle.std.specs.Prelude.{Result}
use Rattle.models.specs.declared.Refusal.{Refusal}
use Rattle.macaque_v.specs.declared.read_run.Cursor.{Cursor}
use Rattle.macaque_v.specs.declared.read_run.Tally.{Tally}
use Rattle.macaque_v.proofs.read.open_behind.Goals as goal

pub cut-requires : goal.cut-requires
cut-requires c = subst (EndsIn c.args.buffer.now) c.in_ok-at.was c.requires

pub returns-in_err-at-clause-bytes : goal.returns-in_err-at-clause-bytes
returns-in_err-at-clause-bytes c = sym (ap (λ (w : Result (Cursor × Tally) Refusal). cut_behind w c.args.buffer.now) c.in_err-at.was)

pub returns : goal.returns
returns c =
    let a = c.args in
    let at = c.in_ok-at.at in
    let tally = c.in_ok-at.tally in
    let is = c.in_ok-at.was in record {
      answer = ap (λ (first : Bool). answered (writer_of a.error_bound first (state_with at (known_in tally)))) c.is_first.ensures
          ∙ sym (ap (opened_behind a.error_bound (is_first a.opening)) is);
      bytes = c.cut.ensures ∙ sym (ap (λ (w : Result (Cursor × Tally) Refusal). cut_behind w a.buffer.now) is);
    }
