use Rattle.rbbi_tree.proofs.Complete.{reading_is_one}
use Rattle.rbbi_tree.proofs.laws.at_most_one_reading.Goals as goal

pub returns : goal.returns
returns c = reading_is_one
