-- The pairs of a tailoring file, of its lines. A line is a list of bytes, and 59 is `;`.
use Rattle.std.specs.Prelude.{◌≡◌, ℕ, ◌+◌, ◌⊎◌, true, false, ◌==◌, nat_le, ◌&&◌, List, [], ◌∷◌, ◌++◌, length, Option, Some, None, option_and_then}
use Rattle.std.specs.Prelude.{if◌then◌else◌, Result, Ok, Err, IsUtf8}
use Rattle.std.specs.List.{before_first, after_first}
use Rattle.rbbi_text.specs.Bytes.{IsNotUtf8At, file_lines}
use Rattle.rbbi_text.specs.Numbers.{hexadecimal}
use Rattle.rbbi_text.specs.LineParts.{trim, before_comment, is_skipped}
use Rattle.rbbi_text.specs.LineValues.{AreValues}
use Rattle.rbbi_text.specs.declared.line_values.Line.{Line}
use Rattle.rbbi_text.specs.declared.line_values.Line.TheVariants.{Skipped, Writes, Bad}
use Rattle.rbbi_text.specs.declared.error.LinesErr.{LinesErr}
use Rattle.rbbi_text.specs.declared.error.LinesErr.TheVariants.{NotUtf8, BadLine, Memory}
use Rattle.rbbi_filter.specs.declared.pair.Pair.{Pair}
use Rattle.rbbi_filter.specs.Pairs.{second_of}

-- the code point, where it is no surrogate
abbrev pub no_surrogate : ℕ → Option ℕ
no_surrogate c = if nat_le 0xD800 c && nat_le c 0xDFFF then None else Some c

-- the character that a field writes: four to six hexadecimal digits of either case, and spaces and tabs round them
abbrev pub character_of : List ℕ → Option ℕ
character_of field = option_and_then no_surrogate (hexadecimal 4 6 0x10FFFF (trim field))

-- the pair of two characters, if both are there
abbrev pub pair_with : Option ℕ → Option ℕ → Option Pair
pair_with first second = option_and_then (λ from. option_and_then (λ to. Some (record { from = from; to = to })) second) first

-- the pair of a character before the first `;` and one after it
abbrev pub pair_in : List ℕ → Option Pair
pair_in fields = pair_with (character_of (before_first (λ byte. byte == 59) fields)) (character_of (after_first (λ byte. byte == 59) fields))

-- the pair that a line writes
abbrev pub pair_of : List ℕ → Option Pair
pair_of line = pair_in (before_comment line)

-- what a line is by itself: it is skipped where nothing but spaces and tabs stands before its first `#`, and otherwise it is a pair or bad
abbrev pub IsPairLine : List ℕ → ℕ → Line Pair → Type 0
IsPairLine line number Skipped = is_skipped line ≡ true
IsPairLine line number (Writes pair) = (is_skipped line ≡ false) × (pair_of line ≡ Some pair)
IsPairLine line number Bad = (is_skipped line ≡ false) × (pair_of line ≡ None)

-- no two pairs have the same first character
abbrev pub AreDistinct : List Pair → Type 0
AreDistinct [] = Unit {0}
AreDistinct (pair ∷ pairs) = (second_of pairs pair.from ≡ None) × AreDistinct pairs

-- The line with this number, from 1, is the first bad one: those before it are skipped or pairs with distinct first characters, and it is
-- neither skipped nor a pair, or its first character is that of an earlier line.
pub record IsFirstBadPair (lines : List (List ℕ)) (number : ℕ) : Type 0 where
  pub before : List (List ℕ)
  pub line : List ℕ
  pub after : List (List ℕ)
  pub parts : lines ≡ before ++ line ∷ after
  pub counted : number ≡ length before + 1
  pub pairs : List Pair
  pub are : AreValues IsPairLine before 0 pairs
  pub distinct : AreDistinct pairs
  pub bad : IsPairLine line number Bad ⊎ ((pair : Pair) × (second : ℕ) × IsPairLine line number (Writes pair) × (second_of pairs pair.from ≡ Some second))

-- What reading a tailoring file answers: the pairs of its lines, in order, which have distinct first characters. Otherwise the first byte
-- past the longest prefix that is UTF-8, or the first bad line.
abbrev pub ReadsPairs : List ℕ → Result (List Pair) LinesErr → Type 0
ReadsPairs bytes (Ok pairs) = IsUtf8 bytes × AreValues IsPairLine (file_lines bytes) 0 pairs × AreDistinct pairs
ReadsPairs bytes (Err (NotUtf8 at)) = IsNotUtf8At bytes at
ReadsPairs bytes (Err (BadLine number)) = IsUtf8 bytes × IsFirstBadPair (file_lines bytes) number
ReadsPairs bytes (Err Memory) = Unit {0}
