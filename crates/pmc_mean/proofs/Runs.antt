-- A list of values tried one after the other: the laws of runs, of PMC-Mean's step. Assumes nothing.
use mathlib.Core.Path.{◌≡◌, refl}
use mathlib.Core.Bool.{true}
use mathlib.Core.List.{List, [], ◌++◌}
use Prim.Native.Nat.{ℕ, ◌+◌, ◌≤◌, ◌<◌}
use native.Mathlib.Omega.{arith}
use borrow.Author.Tests.{leb-true, le-leb}
use lib.ListN.{length}
use lib.Ieee.{Float, binary32, of_bits}
use Rattle.models.specs.Limits.{most_values}
use Rattle.models.specs.Bound.{bound_allowed}
use Rattle.models.specs.Answers.{NoneHolds}
use Rattle.models.proofs.Judged.{after_test}
use Rattle.models.proofs.Runs as Shared
use Rattle.models.proofs.Runs.{Fitting}
use Rattle.models.specs.declared.ErrorBound.{ErrorBound}
use Rattle.pmc_mean.specs.State.{fresh, usable, fits, tried, with_value}
use Rattle.pmc_mean.specs.Calls.{fit_causes, fit_answer}
use Rattle.pmc_mean.specs.Run.{run}
use Rattle.pmc_mean.specs.declared.PMCMean.{PMCMean}

-- ---- the laws of a step
pub fresh-has : (b : ErrorBound) → ((fresh b).error_bound ≡ b) × (usable (fresh b) ≡ true) × ((fresh b).length ≡ 0)
unfolding fresh
fresh-has b = (refl, refl, refl)

pub step-has : (s : PMCMean) (v : Float) → ((tried s v).state.error_bound ≡ s.error_bound) × ((tried s v).state.length ≤ s.length + 1)
unfolding tried with_value
step-has s v =
    after_test (λ (t : PMCMean). (t.error_bound ≡ s.error_bound) × (t.length ≤ s.length + 1)) (fits (with_value s v)) _ _ (λ h. (refl, omega arith)) (λ h. (refl, omega arith))

pub step-usable : (s : PMCMean) (v : Float) → usable s ≡ true → s.length < most_values → usable (tried s v).state ≡ true
unfolding tried with_value
step-usable s v ok room = after_test (λ (t : PMCMean). usable t ≡ true) (fits (with_value s v)) _ _ (λ h. le-leb (s.length + 1) most_values (omega arith)) (λ h. ok)

abbrev pub pmc-mean : Fitting PMCMean ℕ
pmc-mean =
    record {
      bound = λ (s : PMCMean). s.error_bound;
      usable = usable;
      size = λ (s : PMCMean). s.length;
      later = λ (s : PMCMean) (value : ℕ). [];
      step = λ (s : PMCMean) (value : ℕ). tried s (of_bits binary32 value);
      fresh = fresh;
      fresh-has = fresh-has;
      size-limit = λ s ok. leb-true s.length most_values ok;
      step-has = λ s value. step-has s (of_bits binary32 value);
      step-usable = λ s value ok room later. step-usable s (of_bits binary32 value) ok room;
    }

-- ---- the laws of a run
pub run-append : (s : PMCMean) (xs ys : List ℕ) → run s (xs ++ ys) ≡ run (run s xs) ys
unfolding fit_answer
run-append = Shared.run-append pmc-mean

pub run-usable : (b : ErrorBound) (values : List ℕ) → usable (run (fresh b) values) ≡ true
unfolding fit_answer
run-usable = Shared.run-usable pmc-mean

pub run_length : (b : ErrorBound) (values : List ℕ) → (run (fresh b) values).length ≤ length values
unfolding fit_answer
run_length = Shared.run_length pmc-mean

-- a step on it is refused by nothing but a full state
pub run-steps : (b : ErrorBound) (values : List ℕ) → bound_allowed b ≡ true → (run (fresh b) values).length < most_values → NoneHolds (fit_causes (run (fresh b) values))
unfolding fit_answer
run-steps b values allowed room = Shared.run-steps pmc-mean b values 0 allowed room tt
