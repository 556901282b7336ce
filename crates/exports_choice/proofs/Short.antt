-- A row that is too short stands for no builder: each call on it is refused with 2, or with 1 where a bound that is in it is not allowed. Assumes nothing.
use mathlib.Core.Path.{◌≡◌, refl}
use mathlib.Core.Bool.{Bool, true, ◌&&◌}
use mathlib.Core.List.{List}
use Prim.Native.Nat.{ℕ, ◌<◌}
use borrow.Author.Tests.{lt-ltb}
use lib.ListN.{length}
use lib.IntN.{ℤ}
use Rattle.models.specs.Answers.{refused, stateless}
use Rattle.models.specs.Bound.{bound_allowed}
use Rattle.types.specs.Builder.{bounds_allowed, states_allowed}
use Rattle.types.specs.Calls.{update_answer, finish_answer}
use Rattle.exports.specs.Face.{no_state}
use Rattle.exports.specs.Words.{bound_front}
use Rattle.exports.proofs.Rows.{no-state, Roomy, roomy}
use Rattle.exports_choice.specs.Row.{builder_length, later_bound, no_builder, builder_in}

abbrev both_allowed : List ℕ → Bool
both_allowed row = bound_allowed (bound_front row) && bound_allowed (later_bound row)

module _ (row : List ℕ) (h : length row < builder_length) where
  builder-none : builder_in row ≡ no_builder row
  unfolding builder_in
  builder-none = rw (lt-ltb (length row) builder_length h)

  pub update-short : (t : ℤ) (value : ℕ) → stateless (update_answer (builder_in row) t value) ≡ refused (no_state (both_allowed row))
  unfolding update_answer bounds_allowed states_allowed
  update-short t value = rw builder-none (no-state (no_builder row) (both_allowed row) true _ _ refl)

  pub finish-short : (m : ℕ) → stateless (finish_answer (builder_in row) m) ≡ refused (no_state (both_allowed row))
  unfolding finish_answer
  finish-short m = rw builder-none (no-state (no_builder row) (both_allowed row) true _ _ refl)

pub update-roomy : (row : List ℕ) (t : ℤ) (value : ℕ) → Roomy builder_length row (stateless (update_answer (builder_in row) t value))
update-roomy row t value = roomy builder_length row (stateless (update_answer (builder_in row) t value)) (both_allowed row) (λ h. update-short row h t value)
