use Rattle.rbbi_filter.proofs.Filtering.{through, IsPassingBack}
use Rattle.rbbi_filter.proofs.stretch.far_before.Given as goal

abbrev pub invariant-stretches : goal.invariant-stretches
invariant-stretches g l = IsPassingBack (g.A.Lists.list_of l.fn.held) (through (g.A.Lists.list_of l.fn.held) l.fn.session) l.fn.o l.session l.from l.fn.steps l.steps

abbrev pub decreases-stretches : goal.decreases-stretches
decreases-stretches g l = l.from
