-- The row that a line of a property file writes. 46 is `.` and 59 is `;`.
use Rattle.std.specs.Prelude.{ℕ, Bool, not, ◌&&◌, ◌==◌, nat_le, List, [], ◌∷◌, Option, Some, None, option_map, option_and_then, is_none, if◌then◌else◌}
use Rattle.std.specs.List.{slice_split}
use Rattle.rbbi_model.specs.Ranges.{Range}
use Rattle.rbbi_text.specs.Numbers.{hexadecimal}
use Rattle.rbbi_text.specs.LineParts.{trim, before_comment, is_skipped}
use Rattle.rbbi_props.specs.Rows.{Row}
use Rattle.rbbi_props.specs.LooseForms.{loose, has_letter_or_digit}

-- the code point that a text writes: four to six hexadecimal digits, at most 10FFFF
abbrev pub code_point_of : List ℕ → Option ℕ
code_point_of text = hexadecimal 4 6 0x10FFFF text

-- the range from one code point to another, where it isn't the lesser
abbrev pub span_of : ℕ → ℕ → Option Range
span_of low high = if nat_le low high then Some (record { low = low; high = high }) else None

-- the range between two texts, each of them a code point
abbrev pub span_between : List ℕ → List ℕ → Option Range
span_between low high =
    option_and_then (λ first. option_and_then (λ last. span_of first last) (code_point_of high)) (code_point_of low)

-- the range of the parts between dots: one code point, or two with two dots between
abbrev pub range_of_parts : List (List ℕ) → Option Range
range_of_parts (only ∷ []) = span_between only only
range_of_parts (low ∷ [] ∷ high ∷ []) = span_between low high
range_of_parts _ = None

-- the range that a field writes
abbrev pub range_of : List ℕ → Option Range
range_of field = range_of_parts (slice_split (λ byte. byte == 46) field)

-- the last of the parts
abbrev pub last_part : List (List ℕ) → List ℕ
last_part [] = []
last_part (part ∷ []) = part
last_part (part ∷ next ∷ parts) = last_part (next ∷ parts)

-- the row of a range and a value, which has a letter or digit
abbrev pub row_with : Option Range → List ℕ → Option Row
row_with range value =
    if has_letter_or_digit value then option_map (λ r. record { value = loose value; range = r }) range else None

-- the row of the fields between `;`: two or more, of which the first is the range and the last the value
abbrev pub row_of_fields : List (List ℕ) → Option Row
row_of_fields (first ∷ second ∷ fields) = row_with (range_of (trim first)) (trim (last_part (second ∷ fields)))
row_of_fields fields = None

-- the row that a line writes, and None where it isn't of the form
abbrev pub property_row : List ℕ → Option Row
property_row line = row_of_fields (slice_split (λ byte. byte == 59) (before_comment line))

-- whether a line is neither skipped nor of the form of a row
abbrev pub is_bad : List ℕ → Bool
is_bad line = not (is_skipped line) && is_none (property_row line)
