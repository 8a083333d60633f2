-- What `compile` answers.
use Rattle.std.specs.Prelude.{◌≡◌, ℕ, List, Some}
use Rattle.rbbi_model.specs.Rules.{Rule, AreLawful}
use Rattle.rbbi_model.specs.Lines.{compile_line}
use Rattle.rbbi_model.specs.Tables.{Table}
use Rattle.rbbi_model.specs.Compiled.{IsCompiled}
use Rattle.rbbi_model.specs.Canonical.{IsCanonical}
use Rattle.rbbi_model.specs.TableFile.{spelling}
use Rattle.rbbi_command.specs.Settings.{Options}
use Rattle.rbbi_command.specs.Inputs.{Inputs}
use Rattle.rbbi_command.specs.Stages.{Stage, followed_by, passing}
use Rattle.rbbi_command.specs.Refusals.{Outcome}
use Rattle.rbbi_tool.specs.Basis.{compiled_stage}

-- the table's file is written under the name, in version 2, and its numbers are reported
abbrev pub table_outcome : List ℕ → Table → Outcome
table_outcome name table = record { status = 0; bytes = compile_line table; file = Some (record { name = name; bytes = spelling table }) }

-- the table is the canonical one of a table that is compiled from the rules
pub record IsCanonicalOf (rules : List Rule) (canonical : Table) : Type 0 where
  pub table : Table
  pub compiled : IsCompiled table rules
  pub made : IsCanonical table canonical

-- The rules are lawful: the file of a canonical table of them is written under the name, and the numbers of that one are reported.
pub record TellsTable (rules : List Rule) (name : List ℕ) (outcome : Outcome) : Type 0 where
  pub lawful : AreLawful rules
  pub canonical : Table
  pub of_rules : IsCanonicalOf rules canonical
  pub is : outcome ≡ table_outcome name canonical

-- the table file of a rule file, under this name
abbrev pub compile_stage : Options → Inputs → List ℕ → Stage Outcome
compile_stage options inputs name =
    followed_by (compiled_stage options inputs) (λ rules. passing (TellsTable rules name))
