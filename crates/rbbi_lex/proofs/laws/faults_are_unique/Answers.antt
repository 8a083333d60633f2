use Rattle.rbbi_lex.proofs.LexingLemmas.{fault_unique}
use Rattle.rbbi_lex.proofs.laws.faults_are_unique.Goals as goal

pub returns : goal.returns
returns c = fault_unique
