use Rattle.std.proofs.Common.{◌≡◌, ◌-◌, ◌≤◌, length}
use Rattle.rbbi_model.specs.Words.{most_characters}
use Rattle.rbbi_scan.specs.Columns.{columns}
use Rattle.rbbi_scan.specs.Scanning.{ScansOn}
use Rattle.rbbi_scan.specs.declared.reached.Stop.TheVariants.{Memory}
use Rattle.rbbi_scan.proofs.scanning.scan.Given as goal

abbrev pub invariant-loop-size : goal.invariant-loop-size
invariant-loop-size g l = record {
  some : 1 ≤ l.size;
  small : l.size ≤ most_characters;
  within : l.now.resume ≤ length (g.S.Source.units l.source);
  counted : l.now.count ≤ length l.places;
  fit : l.marks ≡ l.initial.marks;
  scans : ScansOn g.S.Source.unit l.table l.asked l.is_last l.size (g.S.Source.units l.source) (record { count = 0; resume = l.from; stop = Memory })
      (columns l.fn.starts l.fn.places l.fn.statuses) (columns l.starts l.places l.statuses) l.now;
}

abbrev pub decreases-loop-size : goal.decreases-loop-size
decreases-loop-size g l = most_characters - l.size
