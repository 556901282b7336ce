-- The forms of 01, "Parameter bytes": their bytes, what they give when they are read, and which one is written. Parameters and extremes are patterns of
-- an f32. Assumes nothing.
use Rattle.std.specs.Prelude.{Bool, false, cond, not, ◌&&◌, List, [], ◌∷◌, ◌++◌, ℕ, eqb, length, take, drop, get_or}
use Rattle.std.specs.Float.Ieee as Ieee
use Rattle.std.specs.Float.{binary32}
use Rattle.std.specs.Float.Ieee.{of_bits}
use Rattle.models.specs.Answers.{Said, answered, refused, fault}
use Rattle.models.specs.Floats.{min_bits, max_bits, plain_bits}
use Rattle.parameters.specs.Bytes.{little_endian, number_in}
use Rattle.parameters.specs.declared.Form.{Form}
use Rattle.parameters.specs.declared.Form.TheVariants.{Nothing, One, Value, Flagged, Both}

-- ---- the bytes of a form

abbrev pub form_bytes : Form → List ℕ
form_bytes Nothing = []
form_bytes (One b) = b ∷ []
form_bytes (Value v) = little_endian 4 v
form_bytes (Flagged f v) = f ∷ little_endian 4 v
form_bytes (Both a b) = little_endian 4 a ++ little_endian 4 b

-- ---- reading, against the segment's minimum and maximum

-- "PMC: length 0 reads the segment minimum, 1 the maximum, 4 the value." A NaN is answered as 7FC00000.
unfoldable pub pmc_mean_from : ℕ → ℕ → List ℕ → Said ℕ
pmc_mean_from min max bytes =
    cond (eqb (length bytes) 0) (answered (plain_bits min))
    (cond (eqb (length bytes) 1) (answered (plain_bits max))
    (cond (eqb (length bytes) 4) (answered (plain_bits (number_in (take 4 bytes))))
    (refused (fault 9))))

-- a line's first and last value
abbrev pub Ends : Type 0
Ends = ℕ × ℕ

abbrev pub answered_ends : ℕ → ℕ → Said Ends
answered_ends first last = answered (plain_bits first, plain_bits last)

-- "5 by flag: 0 (value, max), 1 (max, value), 2 (min, value), 3 (value, min)"
unfoldable pub by_flag : ℕ → ℕ → ℕ → ℕ → Said Ends
by_flag min max flag v =
    cond (eqb flag 0) (answered_ends v max)
    (cond (eqb flag 1) (answered_ends max v)
    (cond (eqb flag 2) (answered_ends min v)
    (cond (eqb flag 3) (answered_ends v min)
    (refused (fault 9)))))

-- "Swing: 0 (min, max); 1 (max, min); 5 by flag; 8 both."
unfoldable pub swing_from : ℕ → ℕ → List ℕ → Said Ends
swing_from min max bytes =
    cond (eqb (length bytes) 0) (answered_ends min max)
    (cond (eqb (length bytes) 1) (answered_ends max min)
    (cond (eqb (length bytes) 5) (by_flag min max (get_or bytes 0 0) (number_in (take 4 (drop 1 bytes))))
    (cond (eqb (length bytes) 8) (answered_ends (number_in (take 4 bytes)) (number_in (take 4 (drop 4 bytes))))
    (refused (fault 9)))))

-- ---- the Rust's form: what residuals from low to high leave of a model's own minimum and maximum need not be stored

abbrev pub lower : ℕ → ℕ → Bool
lower a b = Ieee.lt (of_bits binary32 a) (of_bits binary32 b)

unfoldable pub rusts_for_pmc_mean : ℕ → ℕ → ℕ → Form
rusts_for_pmc_mean value low high =
    cond (not (lower low value)) Nothing
    (cond (Ieee.le (of_bits binary32 high) (of_bits binary32 value)) (One 1)
    (Value value))

unfoldable pub rusts_for_swing : ℕ → ℕ → ℕ → ℕ → Form
rusts_for_swing first last low high =
    let rises = lower first last in
    let min = min_bits first last in
    let max = max_bits first last in
    cond (lower low min)
    (cond (lower max high)
    (cond rises (Both min max) (Both max min))
    (cond rises (Flagged 0 min) (Flagged 1 min)))
    (cond (lower max high)
    (cond rises (Flagged 2 max) (Flagged 3 max))
    (cond rises Nothing (One 0)))

-- ---- what is written: "if the Rust's form, read against the finished minimum and maximum, doesn't give the model's parameters bit for bit (each NaN taken
-- as 7FC00000 first), the 4 or 8 byte form is written"

abbrev pub gives : ℕ → Said ℕ → Bool
gives value (answered read) = eqb read value
gives value (refused n) = false

abbrev pub gives_ends : ℕ → ℕ → Said Ends → Bool
gives_ends first last (answered read) = eqb read.0 first && eqb read.1 last
gives_ends first last (refused n) = false

abbrev pub pmc_mean_form_of : ℕ → ℕ → ℕ → Form
pmc_mean_form_of v low high =
    let form = rusts_for_pmc_mean v low high in
    cond (gives v (pmc_mean_from (min_bits v low) (max_bits v high) (form_bytes form))) form (Value v)

unfoldable pub pmc_mean_form : ℕ → ℕ → ℕ → Form
pmc_mean_form value low high = pmc_mean_form_of (plain_bits value) low high

abbrev pub swing_form_of : ℕ → ℕ → ℕ → ℕ → Form
swing_form_of a b low high =
    let form = rusts_for_swing a b low high in
    cond (gives_ends a b (swing_from (min_bits (min_bits a b) low) (max_bits (max_bits a b) high) (form_bytes form))) form (Both a b)

unfoldable pub swing_form : ℕ → ℕ → ℕ → ℕ → Form
swing_form first last low high = swing_form_of (plain_bits first) (plain_bits last) low high
