-- What a request comes to before anything is written: all that is written of it, and what is read while it is made.
use Rattle.std.specs.Prelude.{ℕ, List, map, None, Result, Ok, Err}
use Rattle.rbbi_model.specs.Lines.{boundary_lines, all_reply_lines}
use Rattle.rbbi_model.specs.Scripts.{Command, opened}
use Rattle.rbbi_text.specs.Steps.{RisesUpTo}
use Rattle.rbbi_session.specs.Walks.{View, kind_of, costs_in}
use Rattle.rbbi_script.specs.Meaning.{meaning}
use Rattle.rbbi_script.specs.Performing.{replies_in}
use Rattle.rbbi_command.specs.Refusals.{Outcome, printed}
use Rattle.rbbi_command.specs.declared.refusal.Refusal.{Refusal}
use Rattle.rbbi_tool.specs.Filters.{kind_in}
use Rattle.rbbi_tool.specs.declared.prepared.Lines.{Lines}
use Rattle.rbbi_tool.specs.declared.prepared.Lines.TheVariants.{Boundaries, Replies, Counts}
use Rattle.rbbi_tool.specs.declared.prepared.Prepared.{Prepared}
use Rattle.rbbi_tool.specs.declared.prepared.Prepared.TheVariants.{Ready, Waiting}
use Rattle.rbbi_tool.specs.Steps.{list_cost, replies_cost, tally_cost}
use Rattle.rbbi_tool.specs.inner.Tallying.{tally_lines}

-- the costs of commands from a session's text and cursor on
abbrev pub costs_of : {A Setting : Type 0} → View A Setting → A → List Command → ℕ
costs_of view session commands = costs_in (kind_of view session) (view.state session) None commands

-- the bytes of the lines
abbrev pub bytes_of : Lines → List ℕ
bytes_of (Boundaries lines) = boundary_lines ((kind_in lines.filter lines.unit lines.table).boundaries lines.text)
bytes_of (Replies lines) =
    all_reply_lines (replies_in (kind_in lines.filter lines.unit lines.table) (opened lines.text) (map meaning lines.commands))
bytes_of (Counts lines) = tally_lines lines.table lines.text (map meaning lines.commands)

-- how much of the text is read while the lines are made
abbrev pub cost_of : Lines → ℕ
cost_of (Boundaries lines) = list_cost lines.filter lines.table lines.text
cost_of (Replies lines) = replies_cost lines.filter lines.unit lines.table lines.text (map meaning lines.commands)
cost_of (Counts lines) = tally_cost lines.table lines.text (map meaning lines.commands)

-- all that is written
abbrev pub outcome_of : Prepared → Outcome
outcome_of (Ready output) = output
outcome_of (Waiting lines) = printed (bytes_of lines)

-- how much is read while it is written
abbrev pub rest_of : Prepared → ℕ
rest_of (Ready output) = 0
rest_of (Waiting lines) = cost_of lines

-- what a run comes to: all that is written, or what ends the run
abbrev pub answer_of : Result Prepared Refusal → Result Outcome Refusal
answer_of (Ok prepared) = Ok (outcome_of prepared)
answer_of (Err refusal) = Err refusal

-- how much is read while the answer is written
abbrev pub rest_after : Result Prepared Refusal → ℕ
rest_after (Ok prepared) = rest_of prepared
rest_after (Err refusal) = 0

-- what is read by an end before which so much more is read at most
abbrev pub ReadsByEnd : ℕ → (ℕ → ℕ → Type 0) → ℕ → ℕ → Type 0
ReadsByEnd rest Reads before now = (end : ℕ) → RisesUpTo rest now end → Reads before end
