use Rattle.std.proofs.Common.{[]}
use Rattle.rbbi_table.specs.Parts.{rows_of}
use Rattle.rbbi_table.specs.Kept.{AreFirstMoves}
use Rattle.rbbi_table.proofs.moves.moves_of.Given as goal

abbrev pub invariant-loop-row : goal.invariant-loop-row
invariant-loop-row l = AreFirstMoves (rows_of l.categories l.rows l.cells []) l.moves.items l.row
