use Rattle.rbbi_positions.specs.PositionMarks.{readers_in}
use Rattle.rbbi_bits.specs.NumberedRows.{items_of}
use Rattle.rbbi_dfa.specs.inner.MarkedRows.{AreRowsIn}
use Rattle.rbbi_dfa.proofs.determinize.rows_of.read_rows.Given as goal

abbrev pub invariant-loop-category : goal.invariant-loop-category
invariant-loop-category l = AreRowsIn l.positions.words l.category (readers_in l.positions) (items_of l.rows.items)
