use Rattle.std.proofs.Common.{length}
use Rattle.rbbi_tally.specs.inner.Pieces.{IsSpot, IsUpTo, segments_from}
use Rattle.rbbi_tally.specs.inner.Searching.{ArePassed}
use Rattle.rbbi_tally.proofs.spot.skip.Given as goal

-- what is skipped so far
abbrev pub invariant-loop-spot : goal.invariant-loop-spot
invariant-loop-spot l =
    record {
      is_spot : IsSpot l.pieces l.spot;
      passed : ArePassed l.place (segments_from l.pieces l.fn.from) (segments_from l.pieces l.spot) l.fn.counts l.counts;
      order : IsUpTo l.fn.from l.spot;
    }

abbrev pub decreases-loop-spot : goal.decreases-loop-spot
decreases-loop-spot l = length (segments_from l.pieces l.spot)
