use Rattle.rbbi_lex.proofs.Totality.{tokens_or_fault}
use Rattle.rbbi_lex.proofs.laws.tokens_or_fault.Goals as goal

pub returns : goal.returns
returns c = tokens_or_fault
