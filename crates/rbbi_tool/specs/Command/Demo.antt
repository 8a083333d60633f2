-- What `demo` answers.
use Rattle.std.specs.Prelude.{◌≡◌, ℕ, false, List, [], codes}
use Rattle.rbbi_model.specs.Rules.{Rule}
use Rattle.rbbi_model.specs.Boundaries.{AreBoundaries}
use Rattle.rbbi_model.specs.Lines.{demo_line}
use Rattle.rbbi_demo.specs.declared.summary.Summary.{Summary}
use Rattle.rbbi_demo.specs.Summaries.{IsSummary}
use Rattle.rbbi_command.specs.Stages.{Stage, followed_by, passing}
use Rattle.rbbi_command.specs.Refusals.{Outcome, printed}
use Rattle.rbbi_command.specs.Counts.{IsCount}
use Rattle.rbbi_tool.specs.Basis.{compiled_bytes_stage}

-- the text of the built-in rules
unfoldable pub demo_rules : List ℕ
demo_rules = codes "$W = [a-c]; $X = [\\u0308]; $D = [12];\n$W ($W | $X)* {200}; $D+ ([.] $D+)* {100};\n' '+; [.] / ' ' {5}; .;\n"

-- the summary of the number by the rules is reported
pub record TellsSummary (count : ℕ) (rules : List Rule) (outcome : Outcome) : Type 0 where
  pub summary : Summary
  pub are : IsSummary (AreBoundaries rules) count summary
  pub is : outcome ≡ printed (demo_line summary.chars summary.edits summary.boundaries summary.sum)

-- the demonstration of the number that the word writes, by the built-in rules
abbrev pub demo_stage : List ℕ → Stage Outcome
demo_stage word =
    followed_by (passing (IsCount word))
    (λ count. followed_by (compiled_bytes_stage [] false demo_rules) (λ rules. passing (TellsSummary count rules)))
