use Rattle.std.proofs.Common.{◌-◌, ◌≤◌, [], length}
use Rattle.rbbi_table.specs.Parts.{rows_of}
use Rattle.rbbi_table.specs.inner.Fronts.{IsWalk, ArePassed}
use Rattle.rbbi_table.proofs.fronts.follow_rows.Given as goal

abbrev pub invariant-loop-done : goal.invariant-loop-done
invariant-loop-done l = record {
  walk : IsWalk (rows_of l.width l.rows l.cells []) l.slash l.seen.items l.queue.items;
  short : l.done ≤ length l.queue.items;
  passed : ArePassed (rows_of l.width l.rows l.cells []) l.slash l.queue.items l.done;
}

abbrev pub decreases-loop-done : goal.decreases-loop-done
decreases-loop-done l = length l.rows - l.done
