use Rattle.rbbi_filter.proofs.OneReading.{one_list}
use Rattle.rbbi_filter.proofs.laws.one_abbreviations.Goals as goal

pub returns : goal.returns
returns c = one_list
