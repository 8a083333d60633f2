-- What a line of a test file writes. A line is a list of bytes.
use Rattle.std.specs.Prelude.{◌≡◌, ℕ, Bool, true, false, not, ◌==◌, List, [], ◌∷◌, length, filter, Some}
use Rattle.std.specs.List.{slice_split}
use Rattle.rbbi_model.specs.Words.{IsSurrogate}
use Rattle.rbbi_text.specs.Numbers.{hexadecimal}
use Rattle.rbbi_text.specs.LineParts.{is_blank, before_comment}

-- the words between spaces and tabs
abbrev pub words_of : List ℕ → List (List ℕ)
words_of text = filter (λ word. not (length word == 0)) (slice_split is_blank text)

-- the word is the mark of a boundary, U+00F7, or of none, U+00D7, in UTF-8
abbrev pub IsMark : List ℕ → Bool → Type 0
IsMark word true = word ≡ 0xC3 ∷ 0xB7 ∷ []
IsMark word false = word ≡ 0xC3 ∷ 0x97 ∷ []

-- the word is four to six hexadecimal digits of the character
pub record IsHexadecimalOf (word : List ℕ) (c : ℕ) : Type 0 where
  pub number : hexadecimal 4 6 0x10FFFF word ≡ Some c
  pub character : ¬ IsSurrogate c

-- the words are a code point and a mark, any number of times
abbrev pub ArePairs : List (List ℕ) → List ℕ → List Bool → Type 0
ArePairs words [] [] = words ≡ []
ArePairs words (c ∷ text) [] = ⊥
ArePairs words [] (mark ∷ marks) = ⊥
ArePairs words (c ∷ text) (mark ∷ marks) =
    (point : List ℕ) × (sign : List ℕ) × (rest : List (List ℕ)) × (words ≡ point ∷ sign ∷ rest) × IsHexadecimalOf point c × IsMark sign mark ×
    ArePairs rest text marks

-- the line is a mark, which isn't compared, and pairs of a code point and a mark
pub record WritesTest (line text : List ℕ) (marks : List Bool) : Type 0 where
  pub sign : List ℕ
  pub mark : Bool
  pub rest : List (List ℕ)
  pub words : words_of (before_comment line) ≡ sign ∷ rest
  pub first : IsMark sign mark
  pub pairs : ArePairs rest text marks
