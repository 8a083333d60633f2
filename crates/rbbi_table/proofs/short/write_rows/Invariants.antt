use Rattle.std.proofs.Common.{[]}
use Rattle.rbbi_table.specs.Parts.{rows_of}
use Rattle.rbbi_table.specs.Short.{AreFirstShortMoves}
use Rattle.rbbi_table.proofs.short.write_rows.Given as goal

abbrev pub invariant-loop-row : goal.invariant-loop-row
invariant-loop-row l = AreFirstShortMoves (rows_of l.width l.rows l.cells []) l.moves l.row
