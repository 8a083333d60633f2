use Rattle.std.proofs.Common.{◌≡◌, ◌≤◌}
use Rattle.rbbi_model.specs.Places.{count_below}
use Rattle.rbbi_model.specs.SafePairs.{stored_bit}
use Rattle.rbbi_table.proofs.table.Table.safe_count.Given as goal

abbrev pub invariant-loop-bit : goal.invariant-loop-bit
invariant-loop-bit l = record {
  counted : l.count ≡ count_below (stored_bit l.bytes) l.bit;
  most : l.count ≤ l.bit;
}
