-- the heads so far
use Rattle.rbbi_dfa.specs.inner.Numbers.{HaveHeads}
use Rattle.rbbi_dfa.proofs.minimize.merge.merged_heads.Given as goal

abbrev pub invariant-loop-class : goal.invariant-loop-class
invariant-loop-class l = HaveHeads l.automaton l.partition.firsts.items l.class_places l.numbers l.class l.heads.items
