use Rattle.rbbi_canon.specs.inner.Columns.{AreKept}
use Rattle.rbbi_canon.proofs.columns.representatives.Given as goal

abbrev pub invariant-loop-category : goal.invariant-loop-category
invariant-loop-category l = AreKept l.grid l.category l.kept l.firsts.items l.found.items
