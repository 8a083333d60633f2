-- A line of a script is one thing: skipped, or one command, or neither.
use Rattle.std.proofs.Common.{◌≡◌, ℕ, ◌+◌, List, [], ◌∷◌, map, refl, ap, sym, subst, ◌∙◌, inl, inr}
use Rattle.std.specs.Prelude.{Result, Ok, Err, IfOk}
use Rattle.std.specs.List.{AllByRecursion}
use Rattle.rbbi_model.specs.Answers as question
use Rattle.rbbi_model.specs.Scripts as model
use Rattle.rbbi_model.specs.Scripts.{InsertsText}
use Rattle.rbbi_text.specs.Bytes.{file_lines}
use Rattle.rbbi_text.specs.LineValues.{AreValues}
use Rattle.rbbi_text.specs.declared.error.LinesErr.{LinesErr}
use Rattle.rbbi_text.specs.declared.line_values.Line.{Line}
use Rattle.rbbi_text.specs.declared.line_values.Line.TheVariants as line
use Rattle.rbbi_script.specs.declared.command.Command.{Command}
use Rattle.rbbi_script.specs.declared.command.Command.TheVariants.{First, Last, Next, Previous, Current, Status, Statuses, Following, Preceding, Is, Replace}
use Rattle.rbbi_script.specs.declared.command.Command.TheVariants.{Breaks, Text}
use Rattle.rbbi_script.specs.Meaning.{meaning}
use Rattle.rbbi_script.specs.Files.{IsScriptLine, ReadsScript}
use Rattle.rbbi_script.proofs.OneCommand.{same_command, skipped_or_written}

-- the command of this meaning
abbrev meant : model.Command → Command
meant (model.Ask question.First) = First
meant (model.Ask question.Last) = Last
meant (model.Ask question.Next) = Next
meant (model.Ask question.Previous) = Previous
meant (model.Ask (question.Following place)) = Following place
meant (model.Ask (question.Preceding place)) = Preceding place
meant (model.Ask (question.IsBoundary place)) = Is place
meant (model.Ask question.Current) = Current
meant (model.Ask question.Status) = Status
meant (model.Ask question.Statuses) = Statuses
meant (model.Ask question.Breaks) = Breaks
meant (model.Replace at removed inserted) = Replace at removed inserted
meant model.ShowText = Text

meant_is : (command : Command) → meant (meaning command) ≡ command
meant_is First = refl
meant_is Last = refl
meant_is Next = refl
meant_is Previous = refl
meant_is Current = refl
meant_is Status = refl
meant_is Statuses = refl
meant_is (Following place) = refl
meant_is (Preceding place) = refl
meant_is (Is place) = refl
meant_is (Replace at removed inserted) = refl
meant_is Breaks = refl
meant_is Text = refl

same_meaning : (one other : Command) → meaning one ≡ meaning other → one ≡ other
same_meaning one other same = sym (meant_is one) ∙ ap meant same ∙ meant_is other

-- a line is one thing
pub same_line : (text : List ℕ) (number : ℕ) (one other : Line Command) → IsScriptLine text number one → IsScriptLine text number other → one ≡ other
same_line text number line.Skipped line.Skipped is is' = refl
same_line text number line.Skipped (line.Writes command') is is' = absurd (skipped_or_written text (meaning command') is is'.0)
same_line text number line.Skipped line.Bad is is' = absurd (is'.0 is)
same_line text number (line.Writes command) line.Skipped is is' = absurd (skipped_or_written text (meaning command) is' is.0)
same_line text number (line.Writes command) (line.Writes command') is is' =
    ap line.Writes (same_meaning command command' (same_command text (meaning command) (meaning command') is.0 is'.0))
same_line text number (line.Writes command) line.Bad is is' = absurd (is'.1 (meaning command) is.0)
same_line text number line.Bad line.Skipped is is' = absurd (is.0 is')
same_line text number line.Bad (line.Writes command') is is' = absurd (is.1 (meaning command') is'.0)
same_line text number line.Bad line.Bad is is' = refl

-- what the commands of lines insert is characters
all_insert : (lines : List (List ℕ)) (before : ℕ) (commands : List Command) → AreValues IsScriptLine lines before commands →
    AllByRecursion InsertsText (map meaning commands)
all_insert [] before commands none = subst (λ cs. AllByRecursion InsertsText (map meaning cs)) (sym none) tt
all_insert (line ∷ lines) before commands (inl (skipped, rest)) = all_insert lines (before + 1) commands rest
all_insert (line ∷ lines) before commands (inr (command, others, writes, rest, is)) =
    subst (λ cs. AllByRecursion InsertsText (map meaning cs)) (sym is) (writes.1, all_insert lines (before + 1) others rest)

pub read_inserts : (bytes : List ℕ) (answer : Result (List Command) LinesErr) → ReadsScript bytes answer →
    IfOk answer (λ commands. AllByRecursion InsertsText (map meaning commands))
read_inserts bytes (Ok commands) reads = all_insert (file_lines bytes) 0 commands reads.1
read_inserts bytes (Err error) reads = tt
