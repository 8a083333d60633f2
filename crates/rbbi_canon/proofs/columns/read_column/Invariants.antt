use Rattle.std.proofs.Common.{◌≡◌, ◌<◌, ℕ, get_or}
use Rattle.rbbi_canon.specs.inner.Grids.{cell_of}
use Rattle.rbbi_canon.proofs.columns.read_column.Given as goal

-- the next rows so far
abbrev pub invariant-loop-row : goal.invariant-loop-row
invariant-loop-row l = (row : ℕ) → row < l.row → get_or l.column row 0 ≡ cell_of l.grid row l.category
