use Rattle.std.proofs.Common.{◌≡◌, ◌≤◌, max, drop}
use Rattle.rbbi_tally.specs.inner.Pieces.{segments_by, farthest, most_looked}
use Rattle.rbbi_tally.proofs.piece.reach_of.Given as goal

-- the greatest so far, and that of the rest
abbrev pub invariant-loop-kept : goal.invariant-loop-kept
invariant-loop-kept l =
    (max l.reach (farthest (drop l.kept-index (segments_by l.start l.items))) ≡ farthest (segments_by l.start l.items)) × (l.reach ≤ most_looked)
