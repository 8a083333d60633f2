use Rattle.rbbi_positions.proofs.WalkLaws.{of_the_rule}
use Rattle.rbbi_positions.proofs.laws.spelled_are_of_the_rule.Goals as goal

pub returns : goal.returns
returns c = of_the_rule
