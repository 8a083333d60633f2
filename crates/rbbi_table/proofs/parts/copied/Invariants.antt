use Rattle.std.proofs.Common.{◌≡◌, take}
use Rattle.rbbi_table.proofs.parts.copied.Given as goal

abbrev pub invariant-loop-list : goal.invariant-loop-list
invariant-loop-list l = l.lists.items ≡ take l.list-index l.list-items
