use Rattle.std.proofs.Common.{◌≤◌}
use Rattle.rbbi_filter.proofs.Filtering.{IsPassingBack}
use Rattle.rbbi_filter.proofs.filtered.SuppressedMoves.before.Given as goal

abbrev pub invariant-loop-at : goal.invariant-loop-at
invariant-loop-at g l = record {
  passing : IsPassingBack (g.A.Lists.list_of l.self-inside.held) l.fn.self l.fn.o l.self-inside.session l.from l.fn.steps l.steps;
  left : 1 ≤ l.left;
}

abbrev pub decreases-loop-at : goal.decreases-loop-at
decreases-loop-at g l = l.from
