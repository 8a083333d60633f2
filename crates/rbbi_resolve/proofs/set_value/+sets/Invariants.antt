use Rattle.std.specs.Prelude.{map, drop}
use Rattle.rbbi_tree.specs.Trees.{parts_of}
use Rattle.rbbi_tree.specs.Values.{part_tree}
use Rattle.rbbi_resolve.specs.inner.Contexts.{files_of, bounds_of, context_of}
use Rattle.rbbi_resolve.proofs.SetFolds.{IsFolding}
use Rattle.rbbi_tree.specs.Values.{set_tree, set_item_tree}
use Rattle.rbbi_resolve.proofs.Weights.{size_of_set, size_of_member}
use Rattle.rbbi_resolve.proofs.set_value.+sets.Given as goal

abbrev pub decreases-find_set : goal.decreases-find_set
decreases-find_set l = size_of_set (set_tree l.set.now)

abbrev pub decreases-find_item : goal.decreases-find_item
decreases-find_item l = size_of_member (set_item_tree l.item.now)

abbrev pub invariant-find_set-loop-part : goal.invariant-find_set-loop-part
invariant-find_set-loop-part l =
    IsFolding (files_of l.context) (bounds_of l.context) (context_of l.context) l.initial.least (parts_of (map part_tree l.part-items))
    (parts_of (map part_tree (drop l.part-index l.part-items))) l.value l.least
