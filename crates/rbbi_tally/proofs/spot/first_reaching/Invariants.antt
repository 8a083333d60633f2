use Rattle.std.proofs.Common.{◌≤◌, take}
use Rattle.std.specs.List.{AllByRecursion}
use Rattle.rbbi_tally.specs.inner.Pieces.{contents}
use Rattle.rbbi_tally.proofs.spot.first_reaching.Given as goal

-- no search of the pieces so far looks past the place
abbrev pub invariant-loop-piece : goal.invariant-loop-piece
invariant-loop-piece l = AllByRecursion (λ segment. segment.look ≤ l.place) (contents (take l.piece l.pieces))
