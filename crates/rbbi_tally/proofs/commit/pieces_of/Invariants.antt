use Rattle.std.proofs.Common.{◌≡◌, ◌-◌, ◌≤◌, ◌++◌, length, drop}
use Rattle.rbbi_tally.specs.inner.Pieces.{segments_by, contents, ArePieces}
use Rattle.rbbi_tally.proofs.commit.pieces_of.Given as goal

-- the pieces have the segments so far
abbrev pub invariant-loop-from : goal.invariant-loop-from
invariant-loop-from l =
    record {
      are_pieces : ArePieces l.pieces.items;
      parts : contents l.pieces.items ++ drop l.from (segments_by l.start l.items) ≡ segments_by l.start l.items;
      within : l.from ≤ length l.items;
    }

abbrev pub decreases-loop-from : goal.decreases-loop-from
decreases-loop-from l = length l.items - l.from
