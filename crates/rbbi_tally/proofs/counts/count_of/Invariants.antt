use Rattle.std.proofs.Common.{◌≡◌}
use Rattle.rbbi_tally.specs.inner.Values.{count_below}
use Rattle.rbbi_tally.proofs.counts.count_of.Given as goal

-- the sum of the counts of the lists so far
abbrev pub invariant-loop-list : goal.invariant-loop-list
invariant-loop-list l = l.sum ≡ count_below l.table l.counts l.list l.value
