use Rattle.rbbi_tree.proofs.Totality.{fault_is_one_of}
use Rattle.rbbi_tree.proofs.laws.at_most_one_refusal.Goals as goal

pub returns : goal.returns
returns c = fault_is_one_of
