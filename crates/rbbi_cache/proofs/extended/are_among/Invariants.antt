use Rattle.std.proofs.Common.{take}
use Rattle.rbbi_cache.specs.Kept.{AreAmong}
use Rattle.rbbi_cache.proofs.extended.are_among.Given as goal

abbrev pub invariant-loop-entry : goal.invariant-loop-entry
invariant-loop-entry l = AreAmong (take l.entry-index l.entries) l.others
