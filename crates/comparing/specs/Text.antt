-- The text of a comparison's lines as ASCII codes. Assumes nothing.
use Rattle.std.specs.Prelude.{Option, Some, None, List, [], ◌∷◌, ◌++◌, ℕ}
use Rattle.models.specs.declared.Fault.{Fault}
pub use Rattle.listing.specs.Text.{laid}
use Rattle.listing.specs.Text.{decimal, hexadecimal, field, last_field, refused_text}
use Rattle.comparing.specs.declared.Side.{Side}
use Rattle.comparing.specs.declared.Side.TheVariants.{Left, Right}
use Rattle.comparing.specs.declared.Difference.{Difference}

-- "a dash for the missing side"
abbrev pub entry_text : Option ℕ → List ℕ
entry_text (Some v) = hexadecimal v
entry_text None = 45 ∷ []

-- "A line reads as `3 3F800000 40000000`, or `4 - 40000000` where the left is shorter."
unfoldable pub difference_text : Difference → List ℕ
difference_text d = field (decimal d.index) ++ field (entry_text d.left) ++ last_field (entry_text d.right)

-- "differ"
abbrev pub differ_word : List ℕ
differ_word = 100 ∷ 105 ∷ 102 ∷ 102 ∷ 101 ∷ 114 ∷ []

-- "A last line, as `differ 2`, gives the number of differences."
unfoldable pub differ_text : ℕ → List ℕ
differ_text n = field differ_word ++ last_field (decimal n)

-- "left", "right"
abbrev pub side_word : Side → List ℕ
side_word Left = 108 ∷ 101 ∷ 102 ∷ 116 ∷ []
side_word Right = 114 ∷ 105 ∷ 103 ∷ 104 ∷ 116 ∷ []

-- "as `left refused 7 2 40`"
unfoldable pub side_text : Side → Fault → List ℕ
side_text side f = field (side_word side) ++ refused_text f
