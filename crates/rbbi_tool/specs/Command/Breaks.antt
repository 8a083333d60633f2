-- What `breaks` answers.
use Rattle.std.specs.Prelude.{◌≡◌, ℕ, List}
use Rattle.rbbi_model.specs.declared.unit.Unit.{Unit as TextUnit}
use Rattle.rbbi_model.specs.Boundaries.{Boundary}
use Rattle.rbbi_model.specs.Lines.{boundary_lines}
use Rattle.rbbi_command.specs.Settings.{Options}
use Rattle.rbbi_command.specs.Inputs.{Inputs}
use Rattle.rbbi_command.specs.Stages.{Stage, followed_by, passing}
use Rattle.rbbi_command.specs.Refusals.{Outcome, printed}
use Rattle.rbbi_tool.specs.Texts.{text_stage}
use Rattle.rbbi_tool.specs.Filters.{FilteredBasis, filtered_stage, AreReportedBy}

-- a line for each boundary of a text that is reported
abbrev pub boundaries_stage : FilteredBasis → TextUnit → List ℕ → Stage Outcome
boundaries_stage by unit x =
    passing (λ outcome.
    (boundaries : List Boundary) × AreReportedBy by.basis by.filter unit x boundaries × (outcome ≡ printed (boundary_lines boundaries)))

-- the boundaries of a text file by a rule file or a table file: in the unit that the options name, or through a filter
abbrev pub breaks_stage : Options → Inputs → Stage Outcome
breaks_stage options inputs =
    followed_by (filtered_stage options inputs) (λ by. followed_by (text_stage inputs.text) (boundaries_stage by options.unit))
