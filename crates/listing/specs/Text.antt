-- The text of a line as ASCII codes: numbers, words and fields, and what putting it into a lent line leaves. Assumes nothing.
use Rattle.std.specs.Prelude.{cond, List, [], ◌∷◌, ◌++◌, ℕ, zero, suc, ◌+◌, ◌/◌, ◌%◌, ltb}
use Rattle.std.proofs.lemmas.List.Edits.{sets}
use Rattle.models.specs.declared.Fault.{Fault}
use Rattle.listing.specs.declared.Kind.{Kind}
use Rattle.listing.specs.declared.Kind.TheVariants.{Raw, Same, New, Keep}
use Rattle.listing.specs.declared.Fields.{Fields}

-- ---- numbers

-- a digit below 16: `0` to `9`, then `A` to `F`
unfoldable pub digit_text : ℕ → ℕ
digit_text d = cond (ltb d 10) (48 + d) (55 + d)

-- the last k digits of n to the base b, the most significant first
unfoldable pub digits_of : ℕ → ℕ → ℕ → List ℕ
digits_of b zero n = []
digits_of b (suc k) n = digits_of b k (n / b) ++ (digit_text (n % b) ∷ [])

-- how many decimal digits n has, of `suc most` at the most
unfoldable pub places_up_to : ℕ → ℕ → ℕ
places_up_to zero n = 1
places_up_to (suc most) n = cond (ltb n 10) 1 (suc (places_up_to most (n / 10)))

-- 20 digits hold every number below 2^64
abbrev pub places : ℕ → ℕ
places n = places_up_to 19 n

-- in decimal digits, as few as hold it
abbrev pub decimal : ℕ → List ℕ
decimal n = digits_of 10 (places n) n

-- a value: eight hexadecimal digits
abbrev pub hexadecimal : ℕ → List ℕ
hexadecimal v = digits_of 16 8 v

-- ---- words

-- "no kind lead bits value"
abbrev pub header_words : List ℕ
header_words = 110 ∷ 111 ∷ 32 ∷ 107 ∷ 105 ∷ 110 ∷ 100 ∷ 32 ∷ 108 ∷ 101 ∷ 97 ∷ 100 ∷ 32 ∷ 98 ∷ 105 ∷ 116 ∷ 115 ∷ 32 ∷ 118 ∷ 97 ∷ 108 ∷ 117 ∷ 101 ∷ []

-- "raw", "same", "new", "keep"
abbrev pub kind_word : Kind → List ℕ
kind_word Raw = 114 ∷ 97 ∷ 119 ∷ []
kind_word Same = 115 ∷ 97 ∷ 109 ∷ 101 ∷ []
kind_word New = 110 ∷ 101 ∷ 119 ∷ []
kind_word Keep = 107 ∷ 101 ∷ 101 ∷ 112 ∷ []

-- "total"
abbrev pub total_word : List ℕ
total_word = 116 ∷ 111 ∷ 116 ∷ 97 ∷ 108 ∷ []

-- "refused"
abbrev pub refused_word : List ℕ
refused_word = 114 ∷ 101 ∷ 102 ∷ 117 ∷ 115 ∷ 101 ∷ 100 ∷ []

-- ---- lines

-- one space after a field that another follows
abbrev pub field : List ℕ → List ℕ
field text = text ++ (32 ∷ [])

-- one line feed after the last field of a line
abbrev pub last_field : List ℕ → List ℕ
last_field text = text ++ (10 ∷ [])

-- `-` where no window enters the code, else the window's leading zeros
abbrev pub lead_text : Kind → ℕ → List ℕ
lead_text Raw lead = 45 ∷ []
lead_text Same lead = 45 ∷ []
lead_text New lead = decimal lead
lead_text Keep lead = decimal lead

abbrev pub header_text : List ℕ
header_text = last_field header_words

-- the row of value number `n`
unfoldable pub row_text : ℕ → Fields → List ℕ
row_text n row =
    field (decimal n) ++ field (kind_word row.kind) ++ field (lead_text row.kind row.lead) ++ field (decimal row.bits) ++ last_field (hexadecimal row.value)

unfoldable pub total_text : ℕ → List ℕ
total_text bits = field total_word ++ last_field (decimal bits)

-- "The listing's refusal line becomes `refused`, number, value, place, with single spaces"
unfoldable pub refused_text : Fault → List ℕ
refused_text f = field refused_word ++ field (decimal f.number) ++ field (decimal f.value) ++ last_field (decimal f.place)

-- ---- in a lent line

-- the text is stored from the front on, and the places behind it keep what they held
abbrev pub laid : List ℕ → List ℕ → List ℕ
laid text line = sets line 0 text
