use Rattle.std.proofs.Common.{◌-◌, ◌<◌, ◌≤◌, ◌^◌, ℕ}
use Rattle.rbbi_canon.proofs.slashes.slashes_of.Given as goal

-- no number of look-ahead rules that the mask allows is less
abbrev pub invariant-bits : goal.invariant-bits
invariant-bits l = (l.count ≤ 32) × (l.fronts < 2 ^ 32) × ((k : ℕ) → l.fronts < 2 ^ k → l.count ≤ k)

abbrev pub decreases-bits : goal.decreases-bits
decreases-bits l = 32 - l.count
