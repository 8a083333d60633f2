use Rattle.std.proofs.Common.{◌≡◌, ℕ, ◌<◌, ◌≤◌, true, get_or, length}
use Rattle.rbbi_filter.specs.Abbreviations.{is_space}
use Rattle.rbbi_filter.proofs.abbreviation.without_last_spaces.Given as goal

abbrev pub invariant-loop-end : goal.invariant-loop-end
invariant-loop-end l = (l.end ≤ length l.w) × ((k : ℕ) → l.end ≤ k → k < length l.w → is_space (get_or l.w k 0) ≡ true)

abbrev pub decreases-loop-end : goal.decreases-loop-end
decreases-loop-end l = l.end
