-- What `check` answers.
use Rattle.std.specs.Prelude.{ℕ, List, length, sum_by}
use Rattle.rbbi_model.specs.Rules.{Rule, leaves_of, look_aheads}
use Rattle.rbbi_model.specs.Lines.{check_line}
use Rattle.rbbi_command.specs.Settings.{Options}
use Rattle.rbbi_command.specs.Inputs.{Inputs}
use Rattle.rbbi_command.specs.Stages.{Stage, followed_by, gives}
use Rattle.rbbi_command.specs.Refusals.{Outcome, printed}
use Rattle.rbbi_tool.specs.Rules.{rules_stage}

-- how many rules there are, how many of them look ahead, and how many leaves they have
abbrev pub counts_line : List Rule → List ℕ
counts_line rules = check_line (length rules) (length (look_aheads rules)) (sum_by leaves_of rules)

-- the counts of the rules of a rule file
abbrev pub check_stage : Options → Inputs → Stage Outcome
check_stage options inputs = followed_by (rules_stage options inputs) (λ rules. gives (printed (counts_line rules)))
