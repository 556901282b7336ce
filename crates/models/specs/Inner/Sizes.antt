-- |x| as the greater of x and -x, where -0 stays: what one comparison of the code gives. A bound's rules speak of `abs_f`; the tests of `near_in` cannot tell the
-- two apart (`size-at-most`, `percent-at-most` of proofs/Laws).
use Rattle.std.specs.Prelude.{cond, Float}
use Rattle.std.specs.Float.Ieee as Ieee

unfoldable pub magnitude : Float → Float
magnitude x = cond (Ieee.lt x (Ieee.neg x)) (Ieee.neg x) x
