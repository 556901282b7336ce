-- What the answers of a model's calls say, as what goes into a row. Assumes nothing.
use mathlib.Core.Path.{◌≡◌, refl, sym, ap, ◌∙◌}
use Rattle.std.specs.Prelude.{Result, Ok, Err}
use mathlib.Core.List.{List}
use Prim.Native.Nat.{ℕ}
use lib.ListN.{length}
use Rattle.models.specs.Answers.{Said, answered, stateless}
use Rattle.models.specs.Calls.{said_on}
use Rattle.models.specs.declared.Fault.{Fault}
use Rattle.models.specs.declared.Refused.{Refused}
use Rattle.swing.specs.Calls.{says_model}
use Rattle.swing.specs.declared.Swing.{Swing}
use Rattle.exports.specs.Face.{fault_said, row_after}
use Rattle.exports.specs.Inner.Put.{worded, pair_row, front_after}
use Rattle.exports.proofs.Rows.{Faced, put}
use Rattle.exports_fit.specs.Row.{ends_row}

-- words of an answer that were put
pub put-answered : {A : Type 0} (words : A → List ℕ) (need : ℕ) (row : List ℕ) (said : Said A) (x : A) (ws : List ℕ) → length ws ≡ need → ws ≡ words x → said ≡ answered x
    → {told : Fault} {after : List ℕ} → told ≡ fault_said (length ws) (length row) (answered ws) → after ≡ front_after ws row → Faced words need row said told after
unfolding row_after front_after
put-answered words need row said x ws size is e f r =
    put words need row said (Ok tt) ws size (ap answered is ∙ ap (worded words) (sym e)) (f, r)

pub swing-models : (a : Result (ℕ × ℕ) (Refused Swing)) → worded pair_row (stateless (said_on a)) ≡ worded ends_row (stateless (says_model a))
swing-models (Ok ends) = refl
swing-models (Err e) = refl
