use Rattle.std.proofs.Common.{◌≡◌, take}
use Rattle.rbbi_canon.proofs.canonize.copied_lists.Given as goal

-- the lists so far
abbrev pub invariant-loop-list : goal.invariant-loop-list
invariant-loop-list l = l.made ≡ take l.list-index l.lists
