use Rattle.rbbi_dfa.proofs.MarkLoops.{IsAcceptUpTo}
use Rattle.rbbi_dfa.proofs.determinize.marks.accept.Given as goal

abbrev pub invariant-loop-mark : goal.invariant-loop-mark
invariant-loop-mark l = IsAcceptUpTo l.mark-items l.set l.rows.last l.mark-index l.accept
