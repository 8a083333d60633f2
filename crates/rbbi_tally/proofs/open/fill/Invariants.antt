use Rattle.std.proofs.Common.{◌≡◌, ◌+◌, ◌-◌, ◌≤◌, [], length, vec_capacity}
use Rattle.rbbi_tally.specs.inner.Segments.{AreSegments}
use Rattle.rbbi_tally.specs.inner.Pieces.{segments_by}
use Rattle.rbbi_tally.specs.inner.Counting.{IsRecounted}
use Rattle.rbbi_tally.specs.inner.Searching.{reads_of}
use Rattle.rbbi_tally.proofs.open.fill.Given as goal

-- the segments so far
abbrev pub invariant-loop-place : goal.invariant-loop-place
invariant-loop-place g l =
    record {
      segments : AreSegments l.table (g.T.Chars.characters l.text) l.start l.place (segments_by l.start l.items.items);
      within : l.place ≤ length (g.T.Chars.characters l.text);
      counted : IsRecounted [] (segments_by l.start l.items.items) l.fn.counts l.counts;
      read : l.steps ≡ l.fn.steps + reads_of l.table (g.T.Chars.characters l.text) (segments_by l.start l.items.items);
      capacity : vec_capacity l.items ≡ 2048;
      fit : l.marks ≡ l.table.slashes;
    }

abbrev pub decreases-loop-place : goal.decreases-loop-place
decreases-loop-place g l = length (g.T.Chars.characters l.text) - l.place
