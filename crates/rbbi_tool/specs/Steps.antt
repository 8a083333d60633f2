-- How much a run of the program reads: characters of its text, and bytes of its other files.
use Rattle.std.specs.Prelude.{◌⊎◌, ℕ, ◌+◌, List, [], ◌∷◌, length, sum_by, Option, Some, None}
use Rattle.rbbi_model.specs.declared.unit.Unit.{Unit as TextUnit}
use Rattle.rbbi_model.specs.Tables.{Table}
use Rattle.rbbi_model.specs.Scripts as model
use Rattle.rbbi_model.specs.Costs.{script_cost, breaks_cost}
use Rattle.rbbi_text.specs.Steps.{RisesUpTo}
use Rattle.rbbi_tally.specs.Costs.{opening_cost, tally_edit_cost}
use Rattle.rbbi_command.specs.declared.words.command.Command.{Command}
use Rattle.rbbi_command.specs.declared.words.command.Command.TheVariants.{Breaks, Run, Tally}
use Rattle.rbbi_command.specs.declared.files.Role.{Role}
use Rattle.rbbi_command.specs.declared.files.Role.TheVariants.{Text}
use Rattle.rbbi_command.specs.Stages.{Stage, gives}
use Rattle.rbbi_command.specs.Settings.{Options}
use Rattle.rbbi_command.specs.Words.{Request}
use Rattle.rbbi_command.specs.Files.{sources_of}
use Rattle.rbbi_command.specs.Inputs.{Inputs, inputs_of}
use Rattle.rbbi_tool.specs.Texts.{text_stage}
use Rattle.rbbi_tool.specs.Scripts.{script_stage}
use Rattle.rbbi_tool.specs.Basis.{IsTableOf}
use Rattle.rbbi_tool.specs.Command.Tally.{text_after}
use Rattle.rbbi_session.specs.Walks.{costs_in}
use Rattle.rbbi_filter.specs.declared.filter.Filter.{Filter}
use Rattle.rbbi_filter.specs.FilterCosts.{breaks_through}
use Rattle.rbbi_filter.specs.FilterSessions.{filter_kind}
use Rattle.rbbi_tool.specs.Filters.{FilteredBasis, behind_filter, filtered_stage}

-- the bytes of a file that count: all, but none of a text, whose characters count as they are read
abbrev pub counted : Role → List ℕ → ℕ
counted Text bytes = 0
counted role bytes = length bytes

-- the bytes that count of the files that a request names to be read, as often as it names them
abbrev pub named_bytes : (List ℕ → List ℕ) → Request → ℕ
named_bytes held request = sum_by (λ source. counted source.role (held source.name)) (sources_of request)

-- There are a table, a filter or none, a text and commands: so many bytes are read, and what the commands cost over the text.
pub record ReadsFor (filtered : Stage FilteredBasis) (text : Stage (List ℕ)) (script : Stage (List model.Command))
    (cost : Option Filter → Table → List ℕ → List model.Command → ℕ) (bytes before after : ℕ) : Type 0 where
  pub by : FilteredBasis
  pub table : Table
  pub x : List ℕ
  pub commands : List model.Command
  pub passes : filtered.passes by
  pub table_is : IsTableOf table by.basis
  pub text_is : text.passes x
  pub script_is : script.passes commands
  pub reads : RisesUpTo (bytes + cost by.filter table x commands) before after

-- what an edit costs that comes to this: nothing where it is refused
abbrev pub cost_where_accepted : model.Edit → ℕ → ℕ
cost_where_accepted (model.Refused reply) cost = 0
cost_where_accepted (model.Accepted text length) cost = cost

-- the cost of keeping the counts under a command, and under commands
abbrev pub counting_cost : Table → List ℕ → model.Command → ℕ
counting_cost table x (model.Replace at removed inserted) =
    cost_where_accepted (model.edit x at removed inserted) (tally_edit_cost table x at removed inserted)
counting_cost table x command = 0

abbrev pub countings_cost : Table → List ℕ → List model.Command → ℕ
countings_cost table x [] = 0
countings_cost table x (command ∷ commands) = counting_cost table x command + countings_cost table (text_after x command) commands

-- the cost of counting the text's segments, and of keeping the counts under the commands
abbrev pub tally_cost : Table → List ℕ → List model.Command → ℕ
tally_cost table x commands = opening_cost table x + countings_cost table x commands

-- the cost of listing all boundaries that are reported of a text, and of the commands of a script
abbrev pub list_cost : Option Filter → Table → List ℕ → ℕ
list_cost None table x = breaks_cost table x 0
list_cost (Some filter) table x = breaks_through filter table x 0

abbrev pub replies_cost : Option Filter → TextUnit → Table → List ℕ → List model.Command → ℕ
replies_cost None unit table x commands = script_cost table unit x commands
replies_cost (Some filter) unit table x commands = costs_in (filter_kind filter table) (model.opened x) None commands

-- What a command reads, given its files: at most so many bytes, or also what it costs to answer, where it comes to that. Of commands other
-- than `breaks`, `run` and `tally` nothing is said.
abbrev pub CommandReads : Command → Options → Inputs → ℕ → ℕ → ℕ → Type 0
CommandReads Breaks options inputs bytes before after =
    RisesUpTo bytes before after
    ⊎ ReadsFor (filtered_stage options inputs) (text_stage inputs.text) (gives []) (λ filter table x commands. list_cost filter table x) bytes before after
CommandReads Run options inputs bytes before after =
    RisesUpTo bytes before after
    ⊎ ReadsFor (filtered_stage options inputs) (text_stage inputs.text) (script_stage inputs.script) (λ filter. replies_cost filter options.unit) bytes
    before after
CommandReads Tally options inputs bytes before after =
    RisesUpTo bytes before after
    ⊎ ReadsFor (behind_filter options inputs None) (text_stage inputs.text) (script_stage inputs.script) (λ filter. tally_cost) bytes before after
CommandReads command options inputs bytes before after = Unit {0}

-- what a request reads over files that hold this
abbrev pub RequestReads : Request → (List ℕ → List ℕ) → ℕ → ℕ → Type 0
RequestReads request held before after =
    CommandReads request.command request.options (inputs_of held (sources_of request)) (named_bytes held request) before after
