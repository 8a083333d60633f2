use Rattle.std.proofs.Common.{◌≡◌, [], length}
use Rattle.rbbi_table.specs.Parts.{rows_of}
use Rattle.rbbi_table.specs.inner.Targets.{IsGathered}
use Rattle.rbbi_table.proofs.TargetLemmas.{AreTargetsBelow}
use Rattle.rbbi_table.proofs.safe.gather_targets.Given as goal

abbrev pub invariant-loop-row : goal.invariant-loop-row
invariant-loop-row l = record {
  long : length l.seen.items ≡ length l.rows;
  below : AreTargetsBelow (rows_of l.width l.rows l.cells []) l.category l.targets.items l.row;
  gathered : IsGathered l.seen.items l.targets.items;
}
