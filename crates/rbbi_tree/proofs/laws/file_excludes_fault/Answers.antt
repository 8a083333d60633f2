use Rattle.rbbi_tree.proofs.Totality.{file_excludes_fault}
use Rattle.rbbi_tree.proofs.laws.file_excludes_fault.Goals as goal

pub returns : goal.returns
returns c = file_excludes_fault
