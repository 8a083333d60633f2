use Rattle.rbbi_tree.proofs.Depth.{deep_is_one}
use Rattle.rbbi_tree.proofs.laws.at_most_one_deep.Goals as goal

pub returns : goal.returns
returns c = deep_is_one
