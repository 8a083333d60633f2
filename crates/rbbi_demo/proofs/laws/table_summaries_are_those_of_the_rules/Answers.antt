use Rattle.rbbi_demo.proofs.Summing.{summary_by_rules}
use Rattle.rbbi_demo.proofs.laws.table_summaries_are_those_of_the_rules.Goals as goal

pub returns : goal.returns
returns c = summary_by_rules
