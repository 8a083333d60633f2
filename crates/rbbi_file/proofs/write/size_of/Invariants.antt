use Rattle.std.proofs.Common.{◌+◌, ◌*◌, ◌≤◌, length}
use Rattle.rbbi_file.proofs.write.size_of.Given as goal

abbrev pub invariant-loop-list : goal.invariant-loop-list
invariant-loop-list l = l.front ≤ 20 + 6 * length l.table.ranges + 262142 * l.list
