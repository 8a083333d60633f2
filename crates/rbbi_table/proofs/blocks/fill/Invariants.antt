use Rattle.std.proofs.Common.{◌≡◌, ℕ, ◌+◌, ◌<◌, slice_index}
use Rattle.rbbi_model.specs.Tables.{category_of}
use Rattle.rbbi_table.specs.inner.Ranges.{IsUpTo}
use Rattle.rbbi_table.proofs.blocks.fill.Given as goal

abbrev pub invariant-loop-offset : goal.invariant-loop-offset
invariant-loop-offset l = record {
  filled : (k : ℕ) → k < l.offset → slice_index l.block k ≡ category_of l.ranges (l.first + k);
  up_to : IsUpTo l.ranges l.range (l.first + l.offset);
}
