-- The abbreviations of a file, of its lines.
use Rattle.std.specs.Prelude.{◌≡◌, ◌≢◌, ℕ, ◌-◌, ◌≤◌, List, length, slice_index, chars, Result}
use Rattle.rbbi_text.specs.LineValues.{ReadsLines}
use Rattle.rbbi_text.specs.declared.line_values.Line.{Line}
use Rattle.rbbi_text.specs.declared.line_values.Line.TheVariants.{Skipped, Writes, Bad}
use Rattle.rbbi_text.specs.declared.error.LinesErr.{LinesErr}
use Rattle.rbbi_script.specs.Grammar.{IsSkipped}

-- 1 to 32 characters that neither begin nor end with a space
pub record IsAbbreviation (w : List ℕ) : Type 0 where
  pub some : 1 ≤ length w
  pub few : length w ≤ 32
  pub first : slice_index w 0 ≢ 32
  pub last : slice_index w (length w - 1) ≢ 32

-- what a line is: it is skipped where it is empty or begins with `#`, and otherwise it is an abbreviation or bad
abbrev pub IsAbbreviationLine : List ℕ → ℕ → Line (List ℕ) → Type 0
IsAbbreviationLine line number Skipped = IsSkipped line
IsAbbreviationLine line number (Writes w) = (¬ IsSkipped line) × (w ≡ chars line) × IsAbbreviation w
IsAbbreviationLine line number Bad = (¬ IsSkipped line) × (¬ IsAbbreviation (chars line))

-- What reading a file of abbreviations answers: those that its lines are, in order, where each line is skipped or one. Otherwise the
-- first byte past the longest prefix that is UTF-8, or the first line that is neither.
abbrev pub ReadsAbbreviations : List ℕ → Result (List (List ℕ)) LinesErr → Type 0
ReadsAbbreviations bytes answer = ReadsLines IsAbbreviationLine bytes answer
