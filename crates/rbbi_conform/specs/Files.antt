-- The tests of a file, of its lines.
use Rattle.std.specs.Prelude.{◌≡◌, ℕ, Bool, true, false, List, Result}
use Rattle.rbbi_text.specs.LineParts.{is_skipped}
use Rattle.rbbi_text.specs.LineValues.{ReadsLines}
use Rattle.rbbi_text.specs.declared.line_values.Line.{Line}
use Rattle.rbbi_text.specs.declared.line_values.Line.TheVariants.{Skipped, Writes, Bad}
use Rattle.rbbi_text.specs.declared.error.LinesErr.{LinesErr}
use Rattle.rbbi_conform.specs.Tests.{Test}
use Rattle.rbbi_conform.specs.Grammar.{WritesTest}

-- what the line with this number is: skipped, or a test, or neither
abbrev pub IsTestLine : List ℕ → ℕ → Line Test → Type 0
IsTestLine line number Skipped = is_skipped line ≡ true
IsTestLine line number (Writes test) = WritesTest line test.text test.marks × (test.line ≡ number)
IsTestLine line number Bad = (is_skipped line ≡ false) × ((text : List ℕ) (marks : List Bool) → ¬ WritesTest line text marks)

-- What reading a test file answers: the tests that its lines write, in order, where each line is skipped or writes one. Otherwise the
-- first byte past the longest prefix that is UTF-8, or the first line that is neither.
abbrev pub ReadsTests : List ℕ → Result (List Test) LinesErr → Type 0
ReadsTests bytes answer = ReadsLines IsTestLine bytes answer
