use Rattle.std.proofs.Common.{◌≡◌}
use Rattle.rbbi_bench.proofs.parts.count_boundaries.Given as goal

abbrev pub invariant-loop-count : goal.invariant-loop-count
invariant-loop-count g l = l.marks ≡ l.table.slashes
