use Rattle.std.proofs.Common.{◌↔◌, drop}
use Rattle.rbbi_model.specs.ValidTables.{AreValidLists}
use Rattle.rbbi_table.proofs.ListLemmas.{ComeOn}
use Rattle.rbbi_table.proofs.lists.are_valid_lists.Given as goal

abbrev pub invariant-loop-list : goal.invariant-loop-list
invariant-loop-list l = AreValidLists l.lists ↔ ComeOn l.previous (drop l.list-index (drop 1 l.lists))
