use Rattle.std.proofs.Common.{◌≡◌, ◌+◌, ◌-◌, ◌≤◌, length, vec_capacity}
use Rattle.rbbi_tally.specs.inner.Pieces.{IsSpot, IsUpTo, segments_by, segments_from}
use Rattle.rbbi_tally.specs.inner.Searching.{AreFound, reads_of}
use Rattle.rbbi_tally.proofs.search.search_again.Given as goal

-- what is found so far, and what is gone
abbrev pub invariant-loop-edit : goal.invariant-loop-edit
invariant-loop-edit g l =
    record {
      is_spot : IsSpot l.pieces l.spot;
      order : IsUpTo l.fn.first l.spot;
      are_found : AreFound l.table (g.T.Chars.characters l.text) l.edit l.start (segments_from l.pieces l.fn.first) l.end
          (segments_by l.start l.items.items) l.place (segments_from l.pieces l.spot) l.fn.counts l.counts;
      within : l.place ≤ length (g.T.Chars.characters l.text);
      read : l.steps ≡ l.fn.steps + reads_of l.table (g.T.Chars.characters l.text) (segments_by l.start l.items.items);
      room : vec_capacity l.items ≡ vec_capacity l.fn.items;
      fit : l.marks ≡ l.table.slashes;
    }

abbrev pub decreases-loop-edit : goal.decreases-loop-edit
decreases-loop-edit g l = length (g.T.Chars.characters l.text) - l.place
