use Rattle.std.proofs.Common.{◌≡◌, ℕ, ◌-◌, ◌<◌, ◌≤◌, true, get_or, length}
use Rattle.rbbi_text.specs.LineParts.{is_blank}
use Rattle.rbbi_text.proofs.line_parts.trim_start.Given as goal

abbrev pub invariant-loop-start : goal.invariant-loop-start
invariant-loop-start l = (l.start ≤ length l.text) × ((k : ℕ) → k < l.start → is_blank (get_or l.text k 0) ≡ true)

abbrev pub decreases-loop-start : goal.decreases-loop-start
decreases-loop-start l = length l.text - l.start
