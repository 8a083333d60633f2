-- The values that the lines of a file write, where it is given what a line with a number is.
use Rattle.std.specs.Prelude.{◌≡◌, ℕ, ◌+◌, ◌⊎◌, List, [], ◌∷◌, ◌++◌, length, Result, Ok, Err, IsUtf8}
use Rattle.rbbi_text.specs.Bytes.{IsNotUtf8At, file_lines}
use Rattle.rbbi_text.specs.declared.line_values.Line.{Line}
use Rattle.rbbi_text.specs.declared.line_values.Line.TheVariants.{Skipped, Writes, Bad}
use Rattle.rbbi_text.specs.declared.error.LinesErr.{LinesErr}
use Rattle.rbbi_text.specs.declared.error.LinesErr.TheVariants.{NotUtf8, BadLine, Memory}

module _ {V : Type 0} (IsLine : List ℕ → ℕ → Line V → Type 0) where
  -- each line is skipped or writes a value, and these are the values in order; so many lines come before
  abbrev pub AreValues : List (List ℕ) → ℕ → List V → Type 0
  AreValues [] before values = values ≡ []
  AreValues (line ∷ lines) before values =
      IsLine line (before + 1) Skipped × AreValues lines (before + 1) values
      ⊎ ((value : V) × (others : List V) × IsLine line (before + 1) (Writes value) × AreValues lines (before + 1) others × (values ≡ value ∷ others))

  -- the line with this number, from 1, is the first bad one: those before it are skipped or write values
  pub record IsFirstBadLine (lines : List (List ℕ)) (number : ℕ) : Type 0 where
    pub before : List (List ℕ)
    pub line : List ℕ
    pub after : List (List ℕ)
    pub parts : lines ≡ before ++ line ∷ after
    pub counted : number ≡ length before + 1
    pub good : (values : List V) × AreValues before 0 values
    pub bad : IsLine line number Bad

  -- what reading a file of such lines answers
  abbrev pub ReadsLines : List ℕ → Result (List V) LinesErr → Type 0
  ReadsLines bytes (Ok values) = IsUtf8 bytes × AreValues (file_lines bytes) 0 values
  ReadsLines bytes (Err (NotUtf8 at)) = IsNotUtf8At bytes at
  ReadsLines bytes (Err (BadLine number)) = IsUtf8 bytes × IsFirstBadLine (file_lines bytes) number
  ReadsLines bytes (Err Memory) = Unit {0}
