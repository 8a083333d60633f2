use Rattle.std.proofs.Common.{ℕ, ◌<◌}
use Rattle.rbbi_table.specs.Parts.{table_of}
use Rattle.rbbi_table.proofs.RowLemmas.{IsEntry}
use Rattle.rbbi_table.proofs.rows.are_valid_rows.Given as goal

abbrev pub invariant-loop-row : goal.invariant-loop-row
invariant-loop-row l = (row : ℕ) → row < l.row → IsEntry (table_of l.parts) row
