-- What `run` answers.
use Rattle.std.specs.Prelude.{◌≡◌, ℕ, List}
use Rattle.rbbi_model.specs.declared.unit.Unit.{Unit as TextUnit}
use Rattle.rbbi_model.specs.Answers.{Reply}
use Rattle.rbbi_model.specs.Scripts.{Command}
use Rattle.rbbi_model.specs.Lines.{all_reply_lines}
use Rattle.rbbi_command.specs.Settings.{Options}
use Rattle.rbbi_command.specs.Inputs.{Inputs}
use Rattle.rbbi_command.specs.Stages.{Stage, followed_by, passing}
use Rattle.rbbi_command.specs.Refusals.{Outcome, printed}
use Rattle.rbbi_tool.specs.Texts.{text_stage}
use Rattle.rbbi_tool.specs.Scripts.{script_stage}
use Rattle.rbbi_tool.specs.Filters.{FilteredBasis, filtered_stage, AreRepliesBasedOn}

-- the lines of the replies by the boundaries that are reported
abbrev pub replies_stage : FilteredBasis → TextUnit → List ℕ → List Command → Stage Outcome
replies_stage by unit x commands =
    passing (λ outcome.
    (replies : List Reply) × AreRepliesBasedOn by.basis by.filter unit x commands replies × (outcome ≡ printed (all_reply_lines replies)))

-- the replies to a script, over a text file, by a rule file or a table file: in the unit that the options name, or through a filter
abbrev pub play_stage : Options → Inputs → Stage Outcome
play_stage options inputs =
    followed_by (filtered_stage options inputs)
    (λ by. followed_by (text_stage inputs.text) (λ x. followed_by (script_stage inputs.script) (replies_stage by options.unit x)))
