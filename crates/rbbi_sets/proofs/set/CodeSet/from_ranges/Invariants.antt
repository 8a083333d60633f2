use Rattle.rbbi_sets.proofs.Sorting.{IsJoined}
use Rattle.rbbi_sets.proofs.set.CodeSet.from_ranges.Given as goal

abbrev pub invariant-loop-range : goal.invariant-loop-range
invariant-loop-range l = IsJoined l.range-items l.joined.items l.range-index
