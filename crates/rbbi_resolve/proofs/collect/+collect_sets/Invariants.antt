use Rattle.std.proofs.Common.{map, drop}
use Rattle.rbbi_tree.specs.Trees.{parts_of}
use Rattle.rbbi_tree.specs.Values.{set_tree, part_tree}
use Rattle.rbbi_resolve.proofs.Weights.{size_of_set, size_of_part}
use Rattle.rbbi_resolve.proofs.SetRuns.{IsCollectingSet}
use Rattle.rbbi_resolve.proofs.collect.+collect_sets.Given as goal

abbrev pub decreases-collect_set : goal.decreases-collect_set
decreases-collect_set l = size_of_set (set_tree l.set.now)

abbrev pub decreases-collect_part : goal.decreases-collect_part
decreases-collect_part l = size_of_part (part_tree l.part.now)

abbrev pub invariant-collect_set-loop-part : goal.invariant-collect_set-loop-part
invariant-collect_set-loop-part l =
    IsCollectingSet l.table l.initial.collection l.collection (parts_of (map part_tree l.part-items))
    (parts_of (map part_tree (drop l.part-index l.part-items))) l.run.items
