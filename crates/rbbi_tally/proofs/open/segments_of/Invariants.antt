use Rattle.std.proofs.Common.{◌≡◌, ◌+◌, ◌-◌, ◌≤◌, length}
use Rattle.rbbi_tally.specs.inner.Segments.{AreSegments}
use Rattle.rbbi_tally.specs.inner.Pieces.{ArePieces, contents}
use Rattle.rbbi_tally.specs.inner.Counting.{AreCountsOf}
use Rattle.rbbi_tally.specs.inner.Searching.{reads_of}
use Rattle.rbbi_tally.proofs.open.segments_of.Given as goal

-- the pieces so far
abbrev pub invariant-loop-place : goal.invariant-loop-place
invariant-loop-place g l =
    record {
      are_pieces : ArePieces l.pieces.items;
      segments : AreSegments l.table (g.T.Chars.characters l.text) 0 l.place (contents l.pieces.items);
      within : l.place ≤ length (g.T.Chars.characters l.text);
      counted : AreCountsOf (length l.table.lists) (contents l.pieces.items) l.counts.items;
      read : l.steps ≡ l.fn.steps + reads_of l.table (g.T.Chars.characters l.text) (contents l.pieces.items);
      fit : l.marks ≡ l.table.slashes;
    }

abbrev pub decreases-loop-place : goal.decreases-loop-place
decreases-loop-place g l = length (g.T.Chars.characters l.text) - l.place
