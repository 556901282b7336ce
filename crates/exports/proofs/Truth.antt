-- The number that a truth converts to is its word. Assumes nothing.
use Rattle.std.specs.Prelude.{◌≡◌, refl, Bool, true, false}
use Rattle.std.specs.Int.{from_bool}
use Rattle.exports.specs.Face.{word_of}

pub truth_word : (b : Bool) → from_bool b ≡ word_of b
truth_word true = refl
truth_word false = refl
