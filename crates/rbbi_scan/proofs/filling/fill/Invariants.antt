use Rattle.std.proofs.Common.{◌≡◌, ◌-◌, ◌≤◌, length}
use Rattle.rbbi_scan.specs.Columns.{columns}
use Rattle.rbbi_scan.specs.Filling.{FillsOn}
use Rattle.rbbi_scan.proofs.filling.fill.Given as goal

abbrev pub invariant-loop-at : goal.invariant-loop-at
invariant-loop-at g l = record {
  inside : l.at ≤ length l.window;
  room : l.count ≤ length l.places;
  fit : l.marks ≡ l.initial.marks;
  filled : FillsOn l.table l.asked l.window l.ends l.base l.is_final l.fn.count (columns l.fn.starts l.fn.places l.fn.statuses)
      (columns l.starts l.places l.statuses) (record { at = l.at; count = l.count });
}

abbrev pub decreases-loop-at : goal.decreases-loop-at
decreases-loop-at g l = length l.window - l.at
