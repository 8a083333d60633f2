use Rattle.rbbi_dfa.specs.inner.Determinizing.{AreMarked}
use Rattle.rbbi_bits.specs.NumberedRows.{items_of}
use Rattle.rbbi_dfa.proofs.determinize.mark_all.Given as goal

abbrev pub invariant-loop-i : goal.invariant-loop-i
invariant-loop-i l = AreMarked l.rows l.sets l.heads.items (items_of l.lists.items) l.i
