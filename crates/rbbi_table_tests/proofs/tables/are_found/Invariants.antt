use Rattle.std.proofs.Common.{◌≡◌}
use Rattle.rbbi_table_tests.proofs.tables.are_found.Given as goal

abbrev pub invariant-loop-finding : goal.invariant-loop-finding
invariant-loop-finding g l = l.marks ≡ l.table.slashes
