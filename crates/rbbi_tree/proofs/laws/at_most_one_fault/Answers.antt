use Rattle.rbbi_tree.proofs.Places.{fault_is_one}
use Rattle.rbbi_tree.proofs.laws.at_most_one_fault.Goals as goal

pub returns : goal.returns
returns c = fault_is_one
