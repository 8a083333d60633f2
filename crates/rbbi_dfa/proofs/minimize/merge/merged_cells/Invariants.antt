-- the cells so far
use Rattle.rbbi_dfa.specs.inner.Numbers.{HaveCells}
use Rattle.rbbi_dfa.proofs.minimize.merge.merged_cells.Given as goal

abbrev pub invariant-loop-place : goal.invariant-loop-place
invariant-loop-place l = HaveCells l.automaton l.partition.classes.items l.partition.firsts.items l.place l.cells.items
