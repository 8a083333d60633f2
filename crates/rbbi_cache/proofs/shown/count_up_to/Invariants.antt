use Rattle.std.proofs.Common.{◌-◌, ◌<◌, ◌≤◌, length, take, drop}
use Rattle.std.specs.List.{AllByRecursion}
use Rattle.rbbi_cache.proofs.shown.count_up_to.Given as goal

abbrev pub invariant-loop-start : goal.invariant-loop-start
invariant-loop-start l =
    (l.start ≤ l.end) × (l.end ≤ length l.entries) × AllByRecursion (λ entry. entry.at ≤ l.i) (take l.start l.entries) ×
    AllByRecursion (λ entry. l.i < entry.at) (drop l.end l.entries)

abbrev pub decreases-loop-start : goal.decreases-loop-start
decreases-loop-start l = l.end - l.start
