-- The rows before this one are grouped by their marks.
use Rattle.rbbi_dfa.proofs.Grouping.{AreGrouped}
use Rattle.rbbi_dfa.proofs.minimize.partition.Partition.by_marks.Given as goal

abbrev pub invariant-loop-row : goal.invariant-loop-row
invariant-loop-row l = AreGrouped l.automaton l.row l.classes.items l.firsts.items
