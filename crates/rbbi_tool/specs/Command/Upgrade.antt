-- What `upgrade` answers.
use Rattle.std.specs.Prelude.{ℕ, List}
use Rattle.rbbi_command.specs.Inputs.{Inputs}
use Rattle.rbbi_command.specs.Stages.{Stage, followed_by, gives}
use Rattle.rbbi_command.specs.Refusals.{Outcome}
use Rattle.rbbi_tool.specs.Basis.{table_stage}
use Rattle.rbbi_tool.specs.Command.Compile.{table_outcome}

-- the table of a table file of either version, rows as they are there: its file of version 2 is written under this name
abbrev pub upgrade_stage : Inputs → List ℕ → Stage Outcome
upgrade_stage inputs name = followed_by (table_stage inputs.table) (λ table. gives (table_outcome name table))
