use Rattle.rbbi_lex.proofs.LongestStretches.{stretch_end-longest}
use Rattle.rbbi_lex.proofs.laws.stretches_are_longest.Goals as goal

pub returns : goal.returns
returns c = stretch_end-longest
