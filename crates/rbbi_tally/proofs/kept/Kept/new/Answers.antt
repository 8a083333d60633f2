use Rattle.std.proofs.Common.{arith}
use Rattle.rbbi_tally.specs.inner.Kept.{at_of, ahead_of, list_of}
use Rattle.rbbi_tally.proofs.kept.Kept.new.Goals as goal

pub returns-clause-at : goal.returns-clause-at
unfolding at_of
returns-clause-at c = omega arith

pub returns-clause-ahead : goal.returns-clause-ahead
unfolding ahead_of
returns-clause-ahead c = omega (arith, c.from-list.ensures)

pub returns-clause-list : goal.returns-clause-list
unfolding list_of
returns-clause-list c = omega (arith, c.from-list.ensures)
