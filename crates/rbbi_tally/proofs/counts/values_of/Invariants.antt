use Rattle.rbbi_tally.specs.inner.Values.{count_below, AreValues}
use Rattle.rbbi_tally.proofs.counts.values_of.Given as goal

-- the values of the lists so far
abbrev pub invariant-loop-list : goal.invariant-loop-list
invariant-loop-list l = AreValues (count_below l.table l.counts l.list) l.pairs.items
