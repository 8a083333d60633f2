use Rattle.std.proofs.Common.{◌≡◌, length}
use Rattle.rbbi_c.specs.Ranges.{columns}
use Rattle.rbbi_c.specs.inner.Bounds.{AreBounds}
use Rattle.rbbi_c.specs.inner.Stretches.{IsStretch}
use Rattle.rbbi_c.proofs.Listed.{AreWritten}
use Rattle.rbbi_c.proofs.Ranged.{left, past}
use Rattle.rbbi_c.proofs.listing.list_on.Given as goal

-- the first of the boundaries are written, and the next one is found
abbrev pub invariant-boundaries : goal.invariant-boundaries
invariant-boundaries g l = record {
  fit : l.marks ≡ l.table.slashes;
  stretch : IsStretch l.unit l.text l.stretch;
  next : AreBounds l.table l.unit l.text l.next;
  written : AreWritten (left l.table l.unit l.text (past l.table l.unit l.text l.last) l.initial.next) l.from (columns l.initial.places l.initial.statuses)
      (columns l.places l.statuses) l.count l.resume (left l.table l.unit l.text (past l.table l.unit l.text l.last) l.next);
}

-- the boundaries that are left
abbrev pub decreases-boundaries : goal.decreases-boundaries
decreases-boundaries g l = length (left l.table l.unit l.text (past l.table l.unit l.text l.last) l.next)
