-- What `conform` answers.
use Rattle.std.specs.Prelude.{◌≡◌, ℕ, Bool, true, false, List, [], ◌∷◌, ◌++◌, None, count_by, if◌then◌else◌, ◌==◌, not}
use Rattle.rbbi_model.specs.Boundaries.{Boundary}
use Rattle.rbbi_model.specs.Lines.{differs_line, verdicts_line}
use Rattle.rbbi_conform.specs.Tests.{Test}
use Rattle.rbbi_conform.specs.declared.verdict.Verdict.{Verdict}
use Rattle.rbbi_conform.specs.declared.verdict.Verdict.TheVariants.{Same, Differs}
use Rattle.rbbi_conform.specs.Verdicts.{IsVerdict}
use Rattle.rbbi_command.specs.Settings.{Options}
use Rattle.rbbi_command.specs.Inputs.{Inputs}
use Rattle.rbbi_command.specs.Stages.{Stage, followed_by, passing}
use Rattle.rbbi_command.specs.Refusals.{Outcome}
use Rattle.rbbi_tool.specs.Scripts.{tests_stage}
use Rattle.rbbi_tool.specs.Basis.{Basis, AreBoundariesBy, basis_stage}

-- the verdict on the test by the boundaries of its text
abbrev pub IsVerdictBy : Basis → Test → Verdict → Type 0
IsVerdictBy basis test verdict = (boundaries : List Boundary) × AreBoundariesBy basis test.text boundaries × IsVerdict boundaries test verdict

-- the verdicts on the tests, in order
abbrev pub AreVerdictsBy : Basis → List Test → List Verdict → Type 0
AreVerdictsBy basis [] [] = Unit {0}
AreVerdictsBy basis (test ∷ tests) (verdict ∷ verdicts) = IsVerdictBy basis test verdict × AreVerdictsBy basis tests verdicts
AreVerdictsBy basis tests verdicts = ⊥

-- whether a test passes
abbrev pub is_passed : Verdict → Bool
is_passed Same = true
is_passed (Differs place) = false

-- the line of a test that differs; one that passes has none
abbrev pub test_lines : Test → Verdict → List ℕ
test_lines test Same = []
test_lines test (Differs place) = differs_line test.line place

-- the lines of the tests that differ
abbrev pub differing_lines : List Test → List Verdict → List ℕ
differing_lines (test ∷ tests) (verdict ∷ verdicts) = test_lines test verdict ++ differing_lines tests verdicts
differing_lines tests verdicts = []

-- how many tests differ
abbrev pub failed_count : List Verdict → ℕ
failed_count verdicts = count_by (λ verdict. not (is_passed verdict)) verdicts

-- the lines of the tests that differ, and the counts; the status is 1 where one differs
abbrev pub told_verdicts : List Test → List Verdict → Outcome
told_verdicts tests verdicts =
    record {
      status = if failed_count verdicts == 0 then 0 else 1;
      bytes = differing_lines tests verdicts ++ verdicts_line (count_by is_passed verdicts) (failed_count verdicts);
      file = None;
    }

-- the verdicts on tests
abbrev pub verdicts_stage : Basis → List Test → Stage Outcome
verdicts_stage basis tests =
    passing (λ outcome. (verdicts : List Verdict) × AreVerdictsBy basis tests verdicts × (outcome ≡ told_verdicts tests verdicts))

-- the verdicts on a test file, by a rule file or a table file
abbrev pub conform_stage : Options → Inputs → Stage Outcome
conform_stage options inputs =
    followed_by (basis_stage options inputs) (λ basis. followed_by (tests_stage inputs.tests) (verdicts_stage basis))
