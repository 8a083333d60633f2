-- What is reported of the demonstration by a table.
use Rattle.std.specs.Prelude.{◌≡◌, ℕ}
use Rattle.rbbi_model.specs.Lines.{demo_line}
use Rattle.rbbi_model.specs.Tables.{Table}
use Rattle.rbbi_demo.specs.declared.summary.Summary.{Summary}
use Rattle.rbbi_demo.specs.Summaries.{IsSummary, AreTableBoundaries}
use Rattle.rbbi_command.specs.Refusals.{Outcome, printed}

-- the summary of the number by the table is reported
abbrev pub TellsSummaryBy : ℕ → Table → Outcome → Type 0
TellsSummaryBy count table outcome =
    (summary : Summary) × IsSummary (AreTableBoundaries table) count summary
    × (outcome ≡ printed (demo_line summary.chars summary.edits summary.boundaries summary.sum))
