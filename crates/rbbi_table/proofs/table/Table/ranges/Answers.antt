use Rattle.std.proofs.Common.{arith}
use Rattle.rbbi_table.proofs.RangeLemmas.{few_ranges}
use Rattle.rbbi_table.proofs.table.Table.ranges.Goals as goal

pub overflow_cast-result : goal.overflow_cast-result
overflow_cast-result c =
    let few = few_ranges c.self.inside.parts.categories c.self.inside.parts.ranges c.self.invariant.valid.ranges in
    omega (arith, few, c.len.ensures)
