use Rattle.rbbi_dfa.proofs.MarkedLists.{IsChainedUpTo}
use Rattle.rbbi_dfa.proofs.determinize.rows_of.chained_row.Given as goal

abbrev pub invariant-loop-position : goal.invariant-loop-position
invariant-loop-position l = IsChainedUpTo l.positions l.words l.position
