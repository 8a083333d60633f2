use Rattle.std.proofs.Common.{◌≡◌, ◌≤◌, ◌-◌, length, take, string_bytes}
use Rattle.rbbi_c.specs.Wide.{IsWideText}
use Rattle.rbbi_c.proofs.wide.text_of.Given as goal

-- the units up to this one spell what is pushed
abbrev pub invariant-loop-at : goal.invariant-loop-at
invariant-loop-at l = (l.at ≤ length l.units) × (l.lone ≡ l.initial.lone) × IsWideText (take l.at l.units) (string_bytes l.text)

-- the units that are left
abbrev pub decreases-loop-at : goal.decreases-loop-at
decreases-loop-at l = length l.units - l.at
