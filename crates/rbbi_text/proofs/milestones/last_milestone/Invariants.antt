use Rattle.std.proofs.Common.{◌≤◌, ◌-◌, ◌∷◌, length, get_or}
use Rattle.rbbi_text.proofs.milestones.last_milestone.Given as goal

abbrev pub invariant-loop-low : goal.invariant-loop-low
invariant-loop-low l = record { order : l.low ≤ l.high; within : l.high ≤ length l.sums; before : get_or (0 ∷ l.sums) l.low 0 ≤ l.most }

abbrev pub decreases-loop-low : goal.decreases-loop-low
decreases-loop-low l = l.high - l.low
