use Rattle.std.proofs.Common.{◌≡◌, length}
use Rattle.rbbi_c.specs.Ranges.{columns}
use Rattle.rbbi_c.specs.inner.Bounds.{HasSameText, AreBounds}
use Rattle.rbbi_c.proofs.Listed.{AreWritten}
use Rattle.rbbi_c.proofs.Ranged.{left_back}
use Rattle.rbbi_c.proofs.listing.list_back.Given as goal

-- the first of the boundaries are written, and the next one is found
abbrev pub invariant-boundaries : goal.invariant-boundaries
invariant-boundaries g l = record {
  same : HasSameText l.initial.session l.session;
  next : AreBounds l.initial.session.table l.unit l.initial.session.state.text l.next;
  written : AreWritten (left_back l.initial.session l.unit l.first l.initial.next) l.from (columns l.initial.places l.initial.statuses)
      (columns l.places l.statuses) l.count l.resume (left_back l.initial.session l.unit l.first l.next);
}

-- the boundaries that are left
abbrev pub decreases-boundaries : goal.decreases-boundaries
decreases-boundaries g l = length (left_back l.initial.session l.unit l.first l.next)
