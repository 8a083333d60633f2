use Rattle.rbbi_classes.proofs.SetSteps.{AreOfRanges}
use Rattle.rbbi_classes.proofs.steps.steps_of_set.Given as goal

abbrev pub invariant-loop-range : goal.invariant-loop-range
invariant-loop-range l = AreOfRanges l.range-items l.range-index l.inside l.steps.items
