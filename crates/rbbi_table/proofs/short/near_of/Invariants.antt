use Rattle.std.proofs.Common.{◌≡◌, ◌*◌, length}
use Rattle.rbbi_table.specs.Short.{AreNear}
use Rattle.rbbi_table.proofs.short.near_of.Given as goal

abbrev pub invariant-loop-number : goal.invariant-loop-number
invariant-loop-number l = record {
  len : length l.near.items ≡ l.number * 256;
  near : AreNear l.blocks.numbers.items l.blocks.categories.items l.near.items;
}
