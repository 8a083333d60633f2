use Rattle.std.proofs.Common.{◌≤◌, ◌<◌, drop, vec_len}
use Rattle.std.specs.List.{AllByRecursion}
use Rattle.rbbi_tally.proofs.counts.add.Given as goal

-- the pairs from the place on have greater values
abbrev pub invariant-loop-place : goal.invariant-loop-place
invariant-loop-place l = (l.place ≤ vec_len l.pairs) × AllByRecursion (λ pair. l.value < pair.value) (drop l.place l.pairs.items)

abbrev pub decreases-loop-place : goal.decreases-loop-place
decreases-loop-place l = l.place
