use Rattle.rbbi_lex.proofs.LexingLemmas.{not_both}
use Rattle.rbbi_lex.proofs.laws.tokens_exclude_faults.Goals as goal

pub returns : goal.returns
returns c = not_both
