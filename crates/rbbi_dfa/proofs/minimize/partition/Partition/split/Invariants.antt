-- The rows before this one are moved, or stay, as the cut says.
use Rattle.rbbi_dfa.proofs.Splits.{IsSplitUpTo}
use Rattle.rbbi_dfa.proofs.minimize.partition.Partition.split.Given as goal

abbrev pub invariant-loop-row : goal.invariant-loop-row
invariant-loop-row l =
    IsSplitUpTo l.automaton l.self.classes.items l.inside l.class l.category l.stays l.new l.row l.classes.items l.left l.leaver
