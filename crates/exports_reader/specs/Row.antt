-- Where a reader stands as a row of six words, in the order of a writer's row: the last value; the window's leading and trailing zeros; 1 where the
-- stream stores its first value in full, else 0; the place; how many values are read. Assumes nothing.
use Rattle.std.specs.Prelude.{Bool, false, cond, ◌&&◌, List, [], ◌∷◌, ℕ, eqb, leb, length, get_or}
use Rattle.exports.specs.Face.{word_of}
use Rattle.exports.specs.Words.{small}
use Rattle.stream.specs.Format.{opening}
use Rattle.reader.specs.declared.position.Position.{Position}

abbrev pub reader_length : ℕ
reader_length = 6

unfoldable pub reader_row : Position → List ℕ
reader_row p = p.at.last ∷ p.at.lead ∷ p.at.trail ∷ word_of p.with_first ∷ p.at.place ∷ p.at.count ∷ []

-- six words or more, words of 32 bits where a reader has such, and a flag of 0 or 1
unfoldable pub stands_for_reader : List ℕ → Bool
stands_for_reader row =
    leb reader_length (length row) && (small (get_or row 0 0) && (small (get_or row 1 0) && (small (get_or row 2 0) && leb (get_or row 3 0) 1)))

-- where no stream allows a reader: it has a place and no value
abbrev pub spoiled_position : Position
spoiled_position = record { with_first = false; at = record { last = 0; lead = opening.lead; trail = opening.trail; place = 1; count = 0 } }

abbrev pub read_position : List ℕ → Position
read_position row =
    record {
      with_first = eqb (get_or row 3 0) 1;
      at = record { last = get_or row 0 0; lead = get_or row 1 0; trail = get_or row 2 0; place = get_or row 4 0; count = get_or row 5 0 };
    }

-- a row that is too short stands for no reader, as one with wrong words does
unfoldable pub position_in : List ℕ → Position
position_in row = cond (stands_for_reader row) (read_position row) spoiled_position
