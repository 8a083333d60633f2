use Rattle.std.proofs.Common.{◌≡◌, ◌+◌, sum, drop}
use Rattle.rbbi_tally.proofs.counts.total.Given as goal

-- the sum so far, and that of the rest
abbrev pub invariant-loop-count : goal.invariant-loop-count
invariant-loop-count l = l.all + sum (drop l.count-index l.counts) ≡ sum l.counts
