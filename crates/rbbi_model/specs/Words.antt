-- Code points, characters, words and texts.
use Rattle.std.specs.Prelude.{ℕ, ◌≤◌, List}
use Rattle.std.specs.List.{AllByRecursion}

-- a number from 0 to 0x10FFFF
abbrev pub IsCodePoint : ℕ → Type 0
IsCodePoint c = c ≤ 0x10FFFF

-- one of the code points that stand for no character
abbrev pub IsSurrogate : ℕ → Type 0
IsSurrogate c = (0xD800 ≤ c) × (c ≤ 0xDFFF)

-- a code point that is no surrogate
abbrev pub IsCharacter : ℕ → Type 0
IsCharacter c = IsCodePoint c × ¬ IsSurrogate c

-- a list of code points
abbrev pub IsWord : List ℕ → Type 0
IsWord w = AllByRecursion IsCodePoint w

-- a list of characters
abbrev pub IsText : List ℕ → Type 0
IsText x = AllByRecursion IsCharacter x

-- the most characters that a text may have, also after edits
abbrev pub most_characters : ℕ
most_characters = 16777216

-- the greatest code point
abbrev pub last_code_point : ℕ
last_code_point = 0x10FFFF
