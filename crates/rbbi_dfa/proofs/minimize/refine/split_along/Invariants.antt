-- The sides are those of the classes after every category.
use Rattle.rbbi_dfa.proofs.Refining.{IsRefinedBeside}
use Rattle.rbbi_dfa.proofs.minimize.refine.split_along.Given as goal

abbrev pub invariant-loop-category : goal.invariant-loop-category
invariant-loop-category l = IsRefinedBeside l.automaton l.partition.classes.items l.partition.firsts.items l.inside
