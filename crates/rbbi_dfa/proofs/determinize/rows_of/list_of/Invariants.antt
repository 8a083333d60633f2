use Rattle.rbbi_dfa.proofs.MarkedLists.{AreMarkedUpTo}
use Rattle.rbbi_dfa.proofs.determinize.rows_of.list_of.Given as goal

abbrev pub invariant-loop-position : goal.invariant-loop-position
invariant-loop-position l = AreMarkedUpTo l.positions l.kind l.list.items l.position
