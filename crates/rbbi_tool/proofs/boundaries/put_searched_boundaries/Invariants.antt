use Rattle.std.proofs.Common.{◌≡◌, ◌-◌, length}
use Rattle.rbbi_io.specs.Counts.{GoesOn}
use Rattle.rbbi_filter.specs.FilterCosts.{reporting_cost}
use Rattle.rbbi_tool.specs.inner.Filters.{reported_lines}
use Rattle.rbbi_tool.proofs.Listing.{AreListedTo}
use Rattle.rbbi_tool.proofs.Searched.{AreSearchedTo}
use Rattle.rbbi_tool.proofs.boundaries.put_searched_boundaries.Given as goal

-- the boundaries up to this place are listed, a prefix of their lines was put, and reading them cost so much
abbrev pub invariant-loop-at : goal.invariant-loop-at
invariant-loop-at g l = record {
  listed : AreListedTo (reported_lines l.filter (g.T.Chars.characters l.text)) l.table (g.T.Chars.characters l.text) (g.K.Sink.taken l.initial.out)
      (g.K.Sink.taken l.out) l.made.items l.at;
  faults : GoesOn (g.K.Sink.faults l.initial.out) (g.K.Sink.faults l.out);
  fit : l.marks ≡ l.table.slashes;
  read : AreSearchedTo l.table (g.T.Chars.characters l.text) (reporting_cost l.filter) l.at l.fn.steps l.steps;
}

-- the characters that are left
abbrev pub decreases-loop-at : goal.decreases-loop-at
decreases-loop-at g l = length (g.T.Chars.characters l.text) - l.at
