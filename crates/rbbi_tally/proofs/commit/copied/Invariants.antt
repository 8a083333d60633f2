use Rattle.std.proofs.Common.{◌≡◌, ◌+◌, take}
use Rattle.rbbi_tally.specs.inner.Pieces.{segments_by}
use Rattle.rbbi_tally.proofs.commit.copied.Given as goal

-- so many are copied
abbrev pub invariant-loop-kept : goal.invariant-loop-kept
invariant-loop-kept l = segments_by (l.start + l.first) l.own.items ≡ take l.kept-index (segments_by l.start l.items)
