use Rattle.std.proofs.Common.{◌-◌, length, take}
use Rattle.std.specs.List.{AllByRecursion}
use Rattle.rbbi_cache.specs.inner.Quiet.{IsQuiet}
use Rattle.rbbi_cache.proofs.runs.quiet_to.Given as goal

abbrev pub invariant-loop-k : goal.invariant-loop-k
invariant-loop-k l = AllByRecursion (IsQuiet l.i l.to) (take l.k l.runs)

abbrev pub decreases-loop-k : goal.decreases-loop-k
decreases-loop-k l = length l.runs - l.k
