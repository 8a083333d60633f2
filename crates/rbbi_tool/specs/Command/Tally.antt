-- What `tally` answers.
use Rattle.std.specs.Prelude.{◌≡◌, ℕ, List, [], ◌∷◌, ◌++◌, codes}
use Rattle.std.specs.List.{flat_map}
use Rattle.std.specs.Fmt.{decimal}
use Rattle.rbbi_model.specs.Boundaries.{Boundary}
use Rattle.rbbi_model.specs.Answers.{Edited}
use Rattle.rbbi_model.specs.Scripts.{Command, Replace, Edit, Refused, Accepted, edit}
use Rattle.rbbi_model.specs.Lines.{line, reply_lines}
use Rattle.rbbi_tally.specs.declared.counts.ValueCount.{ValueCount}
use Rattle.rbbi_tally.specs.Counts.{segment_count, AreCounts}
use Rattle.rbbi_command.specs.Settings.{Options}
use Rattle.rbbi_command.specs.Inputs.{Inputs}
use Rattle.rbbi_command.specs.Stages.{Stage, followed_by, passing}
use Rattle.rbbi_command.specs.Refusals.{Outcome, printed}
use Rattle.rbbi_tool.specs.Texts.{text_stage}
use Rattle.rbbi_tool.specs.Scripts.{script_stage}
use Rattle.rbbi_tool.specs.Basis.{Basis, AreBoundariesBy, basis_stage}

-- a value, a space, and how many segments have it
abbrev pub count_line : ValueCount → List ℕ
count_line pair = line (decimal pair.value ++ 32 ∷ decimal pair.count)

-- how many segments there are, and a line for each value
abbrev pub count_lines : ℕ → List ValueCount → List ℕ
count_lines segments counts = line (codes "segments " ++ decimal segments) ++ flat_map count_line counts

-- these lines tell the counts of the text's segments, which are between its boundaries
pub record TellText (basis : Basis) (x lines : List ℕ) : Type 0 where
  pub boundaries : List Boundary
  pub are : AreBoundariesBy basis x boundaries
  pub counts : List ValueCount
  pub counted : AreCounts boundaries counts
  pub is : lines ≡ count_lines (segment_count boundaries) counts

-- what is reported of an edit: its reply, and after an accepted one the counts of the new text
abbrev pub TellEdit : Basis → Edit → List ℕ → Type 0
TellEdit basis (Refused reply) lines = lines ≡ reply_lines reply
TellEdit basis (Accepted text length) lines = (counts : List ℕ) × TellText basis text counts × (lines ≡ reply_lines (Edited length) ++ counts)

-- the text after an edit
abbrev pub edited_text : List ℕ → Edit → List ℕ
edited_text x (Refused reply) = x
edited_text x (Accepted text length) = text

-- the text after a command
abbrev pub text_after : List ℕ → Command → List ℕ
text_after x (Replace at removed inserted) = edited_text x (edit x at removed inserted)
text_after x command = x

-- what is reported of a command: of one that isn't an edit, nothing
abbrev pub TellCommand : Basis → List ℕ → Command → List ℕ → Type 0
TellCommand basis x (Replace at removed inserted) lines = TellEdit basis (edit x at removed inserted) lines
TellCommand basis x command lines = lines ≡ []

-- what is reported of the commands, each over the text of its moment
abbrev pub TellCommands : Basis → List ℕ → List Command → List ℕ → Type 0
TellCommands basis x [] lines = lines ≡ []
TellCommands basis x (command ∷ commands) lines =
    (first rest : List ℕ) × TellCommand basis x command first × TellCommands basis (text_after x command) commands rest × (lines ≡ first ++ rest)

-- the counts of the text, and then what is reported of the commands
pub record TellTally (basis : Basis) (x : List ℕ) (commands : List Command) (outcome : Outcome) : Type 0 where
  pub counts : List ℕ
  pub told : List ℕ
  pub first : TellText basis x counts
  pub then : TellCommands basis x commands told
  pub is : outcome ≡ printed (counts ++ told)

-- the counts of a text file and of what the edits of a script make of it, by a rule file or a table file
abbrev pub tally_stage : Options → Inputs → Stage Outcome
tally_stage options inputs =
    followed_by (basis_stage options inputs)
    (λ basis. followed_by (text_stage inputs.text) (λ x. followed_by (script_stage inputs.script) (λ commands. passing (TellTally basis x commands))))
