-- Each turn leaves a partition of one class more.
use Rattle.std.proofs.Common.{◌-◌, length}
use Rattle.rbbi_dfa.specs.inner.Partitions.{IsPartition}
use Rattle.rbbi_dfa.proofs.minimize.minimize.Given as goal

abbrev pub invariant-rounds : goal.invariant-rounds
invariant-rounds l = IsPartition l.automaton l.partition.classes.items l.partition.firsts.items

abbrev pub decreases-rounds : goal.decreases-rounds
decreases-rounds l = 4096 - length l.partition.firsts.items
