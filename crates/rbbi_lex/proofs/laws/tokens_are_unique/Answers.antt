use Rattle.rbbi_lex.proofs.LexingLemmas.{tokens_unique}
use Rattle.rbbi_lex.proofs.laws.tokens_are_unique.Goals as goal

pub returns : goal.returns
returns c = tokens_unique
