use Rattle.rbbi_dfa.proofs.MarkLoops.{AreTagsUpTo}
use Rattle.rbbi_dfa.proofs.determinize.marks.statuses.Given as goal

abbrev pub invariant-loop-mark : goal.invariant-loop-mark
invariant-loop-mark l = AreTagsUpTo l.mark-items l.set l.mark-index l.statuses.items
