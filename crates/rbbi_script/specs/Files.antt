-- The commands of a script, of its lines.
use Rattle.std.specs.Prelude.{ℕ, List, Result}
use Rattle.rbbi_model.specs.Scripts as model
use Rattle.rbbi_model.specs.Scripts.{InsertsText}
use Rattle.rbbi_text.specs.LineValues.{ReadsLines}
use Rattle.rbbi_text.specs.declared.line_values.Line.{Line}
use Rattle.rbbi_text.specs.declared.line_values.Line.TheVariants as line
use Rattle.rbbi_text.specs.declared.error.LinesErr.{LinesErr}
use Rattle.rbbi_script.specs.declared.command.Command.{Command}
use Rattle.rbbi_script.specs.Meaning.{meaning}
use Rattle.rbbi_script.specs.Grammar.{Writes, IsSkipped}

-- what a line is: skipped, or a command, which inserts characters if it inserts anything, or neither
abbrev pub IsScriptLine : List ℕ → ℕ → Line Command → Type 0
IsScriptLine text number line.Skipped = IsSkipped text
IsScriptLine text number (line.Writes command) = Writes text (meaning command) × InsertsText (meaning command)
IsScriptLine text number line.Bad = (¬ IsSkipped text) × ((command : model.Command) → ¬ Writes text command)

-- What reading a script answers: the commands that its lines write, in order, where each line is skipped or writes one. Otherwise the
-- first byte past the longest prefix that is UTF-8, or the first line that is neither.
abbrev pub ReadsScript : List ℕ → Result (List Command) LinesErr → Type 0
ReadsScript bytes answer = ReadsLines IsScriptLine bytes answer
