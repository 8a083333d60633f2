use Rattle.std.proofs.Common.{◌≡◌, ℕ, ◌<◌, [], length, get_or}
use Rattle.rbbi_model.specs.Tables.{step}
use Rattle.rbbi_table.specs.Parts.{rows_of}
use Rattle.rbbi_table.specs.inner.Fronts.{IsWalk, IsPassed}
use Rattle.rbbi_table.proofs.fronts.follow_row.Given as goal

abbrev pub invariant-loop-cell : goal.invariant-loop-cell
invariant-loop-cell l = record {
  walk : IsWalk (rows_of l.width l.rows l.cells []) l.slash l.seen.items l.queue.items;
  keeps : (i : ℕ) → i < length l.initial.queue.items → (i < length l.queue.items) × (get_or l.queue.items i 0 ≡ get_or l.initial.queue.items i 0);
  passed : (category : ℕ) → category < l.cell-index → IsPassed (rows_of l.width l.rows l.cells []) l.slash l.queue.items
      (step (rows_of l.width l.rows l.cells []) l.row category);
}
