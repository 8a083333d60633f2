use Rattle.rbbi_dfa.proofs.Lead.{IsLeading}
use Rattle.rbbi_dfa.proofs.determinize.lead_on.Given as goal

abbrev pub invariant-loop-category : goal.invariant-loop-category
invariant-loop-category l = IsLeading l.rows l.initial.sets l.sets l.candidates l.initial.cells.items l.cells.items l.next l.category
