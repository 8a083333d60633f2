use Rattle.rbbi_filter.proofs.OneReading.{one_pairs}
use Rattle.rbbi_filter.proofs.laws.one_tailoring.Goals as goal

pub returns : goal.returns
returns c = one_pairs
