use Rattle.std.proofs.Common.{◌+◌, ◌-◌, length}
use Rattle.rbbi_canon.proofs.Connecting.{AreConnected}
use Rattle.rbbi_canon.proofs.letters.letters_of.Given as goal

-- the letters connect the categories at all starts so far
abbrev pub invariant-starts : goal.invariant-starts
invariant-starts l = AreConnected l.these l.those l.sets l.letters.items l.here l.there

abbrev pub decreases-starts : goal.decreases-starts
decreases-starts l = length l.these.ranges + length l.those.ranges - (l.here + l.there)
