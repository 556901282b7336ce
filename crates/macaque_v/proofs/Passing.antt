-- An error that is passed on is the result. Assumes nothing.
use Rattle.std.specs.Prelude.{◌≡◌, Result, Ok, Err, IsErrAnd}
use Rattle.std.proofs.Common.{ap}

pub passed-on : {T E : Type 0} {e : E} (r : Result T E) → IsErrAnd r (λ (y : E). y ≡ e) → r ≡ Err e
passed-on (Ok x) h = absurd h
passed-on (Err y) h = ap Err h
