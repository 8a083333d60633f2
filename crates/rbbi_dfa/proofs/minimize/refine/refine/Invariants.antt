-- Each turn leaves a partition.
use Rattle.rbbi_dfa.proofs.Refining.{IsRefined}
use Rattle.rbbi_dfa.proofs.minimize.refine.refine.Given as goal

abbrev pub invariant-loop-turn : goal.invariant-loop-turn
invariant-loop-turn l = IsRefined l.automaton l.partition.classes.items l.partition.firsts.items
