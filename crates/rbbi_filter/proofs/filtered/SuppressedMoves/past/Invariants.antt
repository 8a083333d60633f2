use Rattle.std.proofs.Common.{◌-◌, length}
use Rattle.rbbi_filter.proofs.Filtering.{IsPassing}
use Rattle.rbbi_filter.proofs.filtered.SuppressedMoves.past.Given as goal

abbrev pub invariant-loop-at : goal.invariant-loop-at
invariant-loop-at g l = record {
  passing : IsPassing (g.A.Lists.list_of l.self-inside.held) l.fn.self l.fn.o l.self-inside.session l.from l.fn.steps l.steps;
}

abbrev pub decreases-loop-at : goal.decreases-loop-at
decreases-loop-at g l = length l.fn.self.state.text - l.from
