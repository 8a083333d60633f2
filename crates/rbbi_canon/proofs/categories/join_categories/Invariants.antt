use Rattle.std.proofs.Common.{◌≡◌, length}
use Rattle.rbbi_canon.proofs.Joining.{AreRangesSoFar}
use Rattle.rbbi_canon.proofs.categories.join_categories.Given as goal

abbrev pub invariant-loop-range : goal.invariant-loop-range
invariant-loop-range l =
    AreRangesSoFar l.ranges l.found.items l.range-index l.met.order.items l.joined.items × (length l.met.places.items ≡ l.grid.width)
