use Rattle.rbbi_tree.proofs.Totality.{file_or_fault}
use Rattle.rbbi_tree.proofs.laws.file_or_fault.Goals as goal

pub returns : goal.returns
returns c = file_or_fault
