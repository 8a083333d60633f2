use Rattle.std.proofs.Common.{◌≡◌, ◌*◌, ◌≤◌, length}
use Rattle.rbbi_table.specs.inner.Ranges.{IsUpTo}
use Rattle.rbbi_table.specs.Blocks.{AreFirstBlocks}
use Rattle.rbbi_table.proofs.blocks.Blocks.new.Given as goal

abbrev pub invariant-loop-number : goal.invariant-loop-number
invariant-loop-number l = record {
  up_to : IsUpTo l.ranges l.range (l.number * 256);
  first : AreFirstBlocks l.ranges l.numbers.items l.kept.items l.number;
  sums : length l.sums.items * 256 ≡ length l.kept.items;
  few : length l.sums.items ≤ l.number;
  long : length l.block ≡ 256;
}
