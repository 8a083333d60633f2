-- How a line of a script writes a command. A line is a list of bytes. 32 is a space, 35 is `#` and 92 is a backslash.
use Rattle.std.specs.Prelude.{◌≡◌, ◌≢◌, ℕ, ◌⊎◌, List, [], ◌∷◌, ◌++◌, Some, codes, encode_utf8}
use Rattle.rbbi_model.specs.Words.{IsSurrogate}
use Rattle.rbbi_model.specs.Answers.{Question, First, Last, Next, Previous, Following, Preceding, IsBoundary, Current, Status, Statuses, Breaks}
use Rattle.rbbi_model.specs.Scripts.{Command, Ask, Replace, ShowText}
use Rattle.rbbi_text.specs.Numbers.{decimal, hexadecimal}

-- the greatest number of a script
abbrev pub most_number : ℕ
most_number = 4294967295

-- one decimal digit or more write the number, which may be as great as that
abbrev pub WritesNumber : List ℕ → ℕ → Type 0
WritesNumber digits n = decimal most_number digits ≡ Some n

-- the text begins with the number and one space, and this is the rest
pub record IsField (text : List ℕ) (n : ℕ) (rest : List ℕ) : Type 0 where
  pub digits : List ℕ
  pub number : WritesNumber digits n
  pub spelled : text ≡ digits ++ 32 ∷ rest

-- one to six hexadecimal digits of the character, in braces after `u`
pub record IsNumberEscape (spelling : List ℕ) (c : ℕ) : Type 0 where
  pub digits : List ℕ
  pub number : hexadecimal 1 6 0x10FFFF digits ≡ Some c
  pub character : ¬ IsSurrogate c
  pub spelled : spelling ≡ codes "u{" ++ (digits ++ codes "}")

-- what follows a backslash, and the character that both stand for: `n`, `r`, `t`, `\` or `u{H..}`
abbrev pub IsEscapeOf : List ℕ → ℕ → Type 0
IsEscapeOf spelling c =
    (spelling ≡ codes "n") ×
    (c ≡ 10) ⊎ ((spelling ≡ codes "r") × (c ≡ 13) ⊎ ((spelling ≡ codes "t") × (c ≡ 9) ⊎ ((spelling ≡ codes "\\") × (c ≡ 92) ⊎ IsNumberEscape spelling c)))

-- the text begins with the character itself, which is no backslash
pub record IsUnescaped (text : List ℕ) (c : ℕ) (rest : List ℕ) : Type 0 where
  pub no_backslash : c ≢ 92
  pub spelled : text ≡ encode_utf8 c ++ rest

-- the text begins with a backslash and an escape of the character
pub record IsEscaped (text : List ℕ) (c : ℕ) (rest : List ℕ) : Type 0 where
  pub spelling : List ℕ
  pub escape : IsEscapeOf spelling c
  pub spelled : text ≡ 92 ∷ spelling ++ rest

-- the text writes these characters, each as itself or as an escape
abbrev pub WritesCharacters : List ℕ → List ℕ → Type 0
WritesCharacters text [] = text ≡ []
WritesCharacters text (c ∷ word) = (rest : List ℕ) × (IsUnescaped text c rest ⊎ IsEscaped text c rest) × WritesCharacters rest word

-- `insert AT TEXT`
pub record IsInsert (line : List ℕ) (at removed : ℕ) (inserted : List ℕ) : Type 0 where
  pub fields : List ℕ
  pub text : List ℕ
  pub spelled : line ≡ codes "insert " ++ fields
  pub place : IsField fields at text
  pub none_removed : removed ≡ 0
  pub spells : WritesCharacters text inserted

-- `delete AT REMOVE`
pub record IsDelete (line : List ℕ) (at removed : ℕ) (inserted : List ℕ) : Type 0 where
  pub fields : List ℕ
  pub digits : List ℕ
  pub spelled : line ≡ codes "delete " ++ fields
  pub place : IsField fields at digits
  pub count : WritesNumber digits removed
  pub none_inserted : inserted ≡ []

-- `replace AT REMOVE TEXT`
pub record IsReplace (line : List ℕ) (at removed : ℕ) (inserted : List ℕ) : Type 0 where
  pub fields : List ℕ
  pub others : List ℕ
  pub text : List ℕ
  pub spelled : line ≡ codes "replace " ++ fields
  pub place : IsField fields at others
  pub count : IsField others removed text
  pub spells : WritesCharacters text inserted

-- the line is the word and the number
pub record IsNumbered (line word : List ℕ) (n : ℕ) : Type 0 where
  pub digits : List ℕ
  pub number : WritesNumber digits n
  pub spelled : line ≡ word ++ digits

-- the line asks the question
abbrev pub WritesQuestion : List ℕ → Question → Type 0
WritesQuestion line First = line ≡ codes "first"
WritesQuestion line Last = line ≡ codes "last"
WritesQuestion line Next = line ≡ codes "next"
WritesQuestion line Previous = line ≡ codes "previous"
WritesQuestion line (Following place) = IsNumbered line (codes "following ") place
WritesQuestion line (Preceding place) = IsNumbered line (codes "preceding ") place
WritesQuestion line (IsBoundary place) = IsNumbered line (codes "is ") place
WritesQuestion line Current = line ≡ codes "current"
WritesQuestion line Status = line ≡ codes "status"
WritesQuestion line Statuses = line ≡ codes "statuses"
WritesQuestion line Breaks = line ≡ codes "breaks"

-- the line writes the command
abbrev pub Writes : List ℕ → Command → Type 0
Writes line (Ask question) = WritesQuestion line question
Writes line (Replace at removed inserted) =
    IsInsert line at removed inserted ⊎ (IsDelete line at removed inserted ⊎ IsReplace line at removed inserted)
Writes line ShowText = line ≡ codes "text"

-- the line is empty or begins with `#`
abbrev pub IsSkipped : List ℕ → Type 0
IsSkipped [] = Unit {0}
IsSkipped (byte ∷ line) = byte ≡ 35
