use Rattle.std.proofs.Common.{◌-◌, ◌^◌}
use Rattle.rbbi_canon.specs.inner.Pairs.{AreSearched}
use Rattle.rbbi_canon.proofs.compare.differ.Given as goal

abbrev pub invariant-pairs : goal.invariant-pairs
invariant-pairs l = AreSearched l.these l.those l.letters.items l.sets l.pairs.items l.next

abbrev pub decreases-pairs : goal.decreases-pairs
decreases-pairs l = 2 ^ 64 - l.next
