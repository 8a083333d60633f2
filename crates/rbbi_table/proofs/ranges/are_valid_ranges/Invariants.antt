use Rattle.std.proofs.Common.{◌↔◌, drop}
use Rattle.rbbi_model.specs.ValidTables.{AreValidRanges}
use Rattle.rbbi_table.proofs.RangeLemmas.{GoOn}
use Rattle.rbbi_table.proofs.ranges.are_valid_ranges.Given as goal

abbrev pub invariant-loop-range : goal.invariant-loop-range
invariant-loop-range l =
    AreValidRanges l.categories l.ranges ↔ GoOn l.categories l.previous (drop l.range-index (drop 1 l.ranges))
