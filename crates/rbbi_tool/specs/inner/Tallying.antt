-- What `tally` tells by a table.
use Rattle.std.specs.Prelude.{ℕ, zero, suc, ◌==◌, if◌then◌else◌, List, [], ◌∷◌, ◌++◌, map}
use Rattle.rbbi_model.specs.Places.{largest}
use Rattle.rbbi_model.specs.Boundaries.{Boundary}
use Rattle.rbbi_model.specs.Tables.{Table}
use Rattle.rbbi_model.specs.Searches.{table_boundaries}
use Rattle.rbbi_model.specs.Answers.{Edited}
use Rattle.rbbi_model.specs.Scripts.{Command, Ask, Replace, ShowText, Edit, Refused, Accepted, edit}
use Rattle.rbbi_model.specs.Lines.{reply_lines}
use Rattle.rbbi_tally.specs.declared.counts.ValueCount.{ValueCount}
use Rattle.rbbi_tally.specs.Counts.{count, segment_count}
use Rattle.rbbi_tool.specs.Command.Tally.{count_lines, text_after}

-- the values below a number that have a count, which rise
abbrev pub counts_below : (ℕ → ℕ) → ℕ → List ValueCount
counts_below count zero = []
counts_below count (suc value) =
    counts_below count value ++ (if count value == 0 then [] else record { value = value; count = count value } ∷ [])

-- the largest status of all
abbrev pub largest_of : List Boundary → ℕ
largest_of boundaries = largest (map (λ boundary. largest boundary.statuses) boundaries)

-- the values that some segment has, with their counts
unfoldable pub counts_of : List Boundary → List ValueCount
counts_of boundaries = counts_below (count boundaries) (suc (largest_of boundaries))

-- the lines of the counts between the boundaries
abbrev pub lines_of : List Boundary → List ℕ
lines_of boundaries = count_lines (segment_count boundaries) (counts_of boundaries)

-- what is reported of an edit by the table
abbrev pub edit_lines : Table → Edit → List ℕ
edit_lines table (Refused reply) = reply_lines reply
edit_lines table (Accepted text length) = reply_lines (Edited length) ++ lines_of (table_boundaries table text)

-- what is reported of a command, and of commands
abbrev pub command_lines : Table → List ℕ → Command → List ℕ
command_lines table x (Ask question) = []
command_lines table x (Replace at removed inserted) = edit_lines table (edit x at removed inserted)
command_lines table x ShowText = []

abbrev pub commands_lines : Table → List ℕ → List Command → List ℕ
commands_lines table x [] = []
commands_lines table x (command ∷ commands) = command_lines table x command ++ commands_lines table (text_after x command) commands

-- all that is reported
abbrev pub tally_lines : Table → List ℕ → List Command → List ℕ
tally_lines table x commands = lines_of (table_boundaries table x) ++ commands_lines table x commands
