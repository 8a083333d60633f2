use Rattle.std.proofs.Common.{◌-◌, ◌≤◌}
use Rattle.rbbi_cache.proofs.reading_back.first_safe.Given as goal

abbrev pub invariant-loop-slot : goal.invariant-loop-slot
invariant-loop-slot l = (l.low ≤ l.slot) × (l.slot ≤ l.last)

abbrev pub decreases-loop-slot : goal.decreases-loop-slot
decreases-loop-slot l = l.last - l.slot
