use Rattle.std.proofs.Common.{◌-◌, ◌<◌, ◌≤◌, length, get_or}
use Rattle.rbbi_text.proofs.places.find_from.Given as goal

abbrev pub invariant-loop-step : goal.invariant-loop-step
invariant-loop-step l = (l.low < length l.starts) × (get_or l.starts l.low 0 ≤ l.place) × (1 ≤ l.step)

abbrev pub decreases-loop-step : goal.decreases-loop-step
decreases-loop-step l = length l.starts - l.low

-- the place is in one of the pieces between
abbrev pub invariant-loop-high : goal.invariant-loop-high
invariant-loop-high l =
    (l.low < l.high) × (l.high ≤ length l.starts) × (get_or l.starts l.low 0 ≤ l.place) × (l.high < length l.starts → l.place < get_or l.starts l.high 0)

abbrev pub decreases-loop-high : goal.decreases-loop-high
decreases-loop-high l = l.high - l.low
