use Rattle.std.proofs.Common.{take}
use Rattle.rbbi_cache.specs.Kept.{NoneIsExtended}
use Rattle.rbbi_cache.proofs.extended.find_extended.Given as goal

abbrev pub invariant-loop-k : goal.invariant-loop-k
invariant-loop-k l = NoneIsExtended l.run (take l.k l.runs)
