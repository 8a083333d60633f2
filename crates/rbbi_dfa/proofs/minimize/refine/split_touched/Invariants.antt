-- Each split leaves a partition, and the sides are still those of its classes.
use Rattle.std.proofs.Common.{length}
use Rattle.rbbi_dfa.proofs.Refining.{IsRefinedBeside}
use Rattle.rbbi_dfa.proofs.minimize.refine.split_touched.Given as goal

abbrev pub invariant-loop-class : goal.invariant-loop-class
invariant-loop-class l = IsRefinedBeside l.automaton l.partition.classes.items l.partition.firsts.items l.inside

abbrev pub decreases-loop-class : goal.decreases-loop-class
decreases-loop-class l = length l.guide.tally.touched.items
