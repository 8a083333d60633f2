use Rattle.std.proofs.Common.{◌↔◌, drop}
use Rattle.rbbi_model.specs.ValidTables.{IsValidList}
use Rattle.rbbi_table.proofs.ListLemmas.{RiseFrom}
use Rattle.rbbi_table.proofs.lists.is_valid_list.Given as goal

abbrev pub invariant-loop-status : goal.invariant-loop-status
invariant-loop-status l = IsValidList l.statuses ↔ RiseFrom l.previous (drop l.status-index (drop 1 l.statuses))
