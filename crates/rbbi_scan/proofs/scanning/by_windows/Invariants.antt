use Rattle.std.proofs.Common.{◌≡◌, ◌+◌, ◌-◌, ◌≤◌, length, cond}
use Rattle.rbbi_scan.specs.Columns.{columns}
use Rattle.rbbi_scan.specs.Scanning.{GoesOn}
use Rattle.rbbi_scan.proofs.scanning.by_windows.Given as goal

abbrev pub invariant-loop-now : goal.invariant-loop-now
invariant-loop-now g l = record {
  within : l.now.reached.resume ≤ length (g.S.Source.units l.source);
  counted : l.now.reached.count ≤ length l.places;
  fit : l.marks ≡ l.initial.marks;
  goes : GoesOn g.S.Source.unit l.table l.asked l.is_last (length l.fn.chars) (g.S.Source.units l.source) l.fn.start (columns l.fn.starts l.fn.places l.fn.statuses)
      (columns l.starts l.places l.statuses) l.now;
}

abbrev pub decreases-loop-now : goal.decreases-loop-now
decreases-loop-now g l = cond l.now.is_over 0 (1 + (length (g.S.Source.units l.source) - l.now.reached.resume))
