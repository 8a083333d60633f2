use Rattle.std.proofs.Common.{◌≤◌, take}
use Rattle.std.specs.List.{AllByRecursion}
use Rattle.rbbi_tally.specs.inner.Pieces.{segments_in}
use Rattle.rbbi_tally.proofs.piece.Piece.first_reaching.Given as goal

-- no search so far looks past the place
abbrev pub invariant-loop-item : goal.invariant-loop-item
invariant-loop-item l = AllByRecursion (λ segment. segment.look ≤ l.place) (take l.item (segments_in l.self))
