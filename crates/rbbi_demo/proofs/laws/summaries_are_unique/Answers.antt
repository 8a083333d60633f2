use Rattle.rbbi_demo.proofs.Summing.{same_summary}
use Rattle.rbbi_demo.proofs.laws.summaries_are_unique.Goals as goal

pub returns : goal.returns
returns c = same_summary
