-- What the calls that read parts of a line answer. Each pair of a code point and a mark takes six bytes or more.
use Rattle.std.specs.Prelude.{◌≡◌, ℕ, ◌+◌, ◌*◌, ◌≤◌, Bool, List, ◌∷◌, length}
use Rattle.rbbi_conform.specs.Grammar.{words_of, IsMark, IsHexadecimalOf, ArePairs, WritesTest}

-- the first word of the text, and what follows it
pub record IsFirstWord (text word rest : List ℕ) : Type 0 where
  pub words : words_of text ≡ word ∷ words_of rest
  pub some : 1 ≤ length word
  pub parts : length word + length rest ≤ length text

-- no code point and mark begin the words
abbrev pub IsNoPair : List ℕ → List (List ℕ) → Type 0
IsNoPair point words = (c : ℕ) (mark : Bool) (sign : List ℕ) (rest : List (List ℕ)) → words ≡ sign ∷ rest → IsHexadecimalOf point c → IsMark sign mark → ⊥

-- the code point and the mark that begin the words, and what follows them
pub record IsPairOf (point after : List ℕ) (c : ℕ) (mark : Bool) (rest : List ℕ) : Type 0 where
  pub sign : List ℕ
  pub words : words_of after ≡ sign ∷ words_of rest
  pub is_point : IsHexadecimalOf point c
  pub is_mark : IsMark sign mark
  pub parts : 6 + length rest ≤ length point + length after

-- the words of the text are these pairs
pub record AreMarkedBy (words text : List ℕ) (marks : List Bool) : Type 0 where
  pub pairs : ArePairs (words_of words) text marks
  pub same : length text ≡ length marks
  pub few : 6 * length marks ≤ length words

-- the line writes this test
pub record IsMarkedOf (line text : List ℕ) (marks : List Bool) : Type 0 where
  pub writes : WritesTest line text marks
  pub same : length text ≡ length marks
  pub few : 6 * length marks ≤ length line
