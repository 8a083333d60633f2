use Rattle.rbbi_cats.proofs.Ranging.{RangesSoFar}
use Rattle.rbbi_cats.proofs.ranges.ranges_of.Given as goal

abbrev pub invariant-loop-step : goal.invariant-loop-step
invariant-loop-step l = RangesSoFar l.steps l.categories l.ranges.items l.last l.step-index
