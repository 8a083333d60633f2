use Rattle.std.proofs.Common.{◌+◌, ◌-◌, length}
use Rattle.rbbi_classes.specs.inner.Numbering.{AreIndexed}
use Rattle.rbbi_classes.proofs.StepMerges.{IsMerging}
use Rattle.rbbi_classes.proofs.steps.merged.Given as goal

abbrev pub invariant-merge : goal.invariant-merge
invariant-merge l = record {
  merging : IsMerging l.left l.right l.steps.items l.of_left l.of_right l.pairs.items.items l.number;
  numbered : AreIndexed l.pairs;
}

abbrev pub decreases-merge : goal.decreases-merge
decreases-merge l = (length l.left - l.of_left.passed) + (length l.right - l.of_right.passed)
