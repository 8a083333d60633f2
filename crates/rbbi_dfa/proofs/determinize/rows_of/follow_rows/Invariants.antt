use Rattle.rbbi_positions.specs.PositionMarks.{followers_in}
use Rattle.rbbi_dfa.specs.inner.MarkedRows.{AreRowsIn}
use Rattle.rbbi_dfa.proofs.determinize.rows_of.follow_rows.Given as goal

abbrev pub invariant-loop-before : goal.invariant-loop-before
invariant-loop-before l = AreRowsIn l.positions.words l.before (followers_in l.positions) l.rows.items
