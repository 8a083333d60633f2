use Rattle.std.proofs.Common.{◌-◌, length, take}
use Rattle.std.specs.List.{AllByRecursion}
use Rattle.rbbi_cache.specs.inner.Quiet.{IsApart}
use Rattle.rbbi_cache.proofs.runs.apart_around.Given as goal

abbrev pub invariant-loop-k : goal.invariant-loop-k
invariant-loop-k l = AllByRecursion (IsApart l.from l.to) (take l.k l.runs)

abbrev pub decreases-loop-k : goal.decreases-loop-k
decreases-loop-k l = length l.runs - l.k
