-- The verdicts on tests by a table, and what is reported of them.
use Rattle.std.specs.Prelude.{◌≡◌, ℕ, List, [], ◌∷◌, count_by}
use Rattle.rbbi_model.specs.Words.{IsText}
use Rattle.rbbi_model.specs.Tables.{Table}
use Rattle.rbbi_model.specs.Searches.{table_boundaries}
use Rattle.rbbi_conform.specs.Tests.{Test}
use Rattle.rbbi_conform.specs.declared.verdict.Verdict.{Verdict}
use Rattle.rbbi_conform.specs.Verdicts.{IsVerdict}
use Rattle.rbbi_command.specs.declared.inputs.Input.{Input}
use Rattle.rbbi_command.specs.Refusals.{Outcome}
use Rattle.rbbi_command.specs.Stages.{Stage, followed_by, passing}
use Rattle.rbbi_tool.specs.Scripts.{tests_stage}
use Rattle.rbbi_tool.specs.Command.Conform.{is_passed, differing_lines, failed_count, told_verdicts}

-- the verdicts on the tests by the table, in order
abbrev pub AreVerdictsIn : Table → List Test → List Verdict → Type 0
AreVerdictsIn table [] [] = Unit {0}
AreVerdictsIn table (test ∷ tests) (verdict ∷ verdicts) =
    IsText test.text × IsVerdict (table_boundaries table test.text) test verdict × AreVerdictsIn table tests verdicts
AreVerdictsIn table tests verdicts = ⊥

-- the lines of the tests that differ, and how many pass and differ, by the verdicts of the table
pub record TellsVerdicts (table : Table) (tests : List Test) (lines : List ℕ) (passed failed : ℕ) : Type 0 where
  pub verdicts : List Verdict
  pub are : AreVerdictsIn table tests verdicts
  pub lines_are : lines ≡ differing_lines tests verdicts
  pub passed_is : passed ≡ count_by is_passed verdicts
  pub failed_is : failed ≡ failed_count verdicts

-- what is reported of the tests by the verdicts of the table
abbrev pub TellsTests : Table → List Test → Outcome → Type 0
TellsTests table tests outcome = (verdicts : List Verdict) × AreVerdictsIn table tests verdicts × (outcome ≡ told_verdicts tests verdicts)

-- the verdicts on a test file by the table
abbrev pub tests_stage_by : Table → Input → Stage Outcome
tests_stage_by table input = followed_by (tests_stage input) (λ tests. passing (TellsTests table tests))
