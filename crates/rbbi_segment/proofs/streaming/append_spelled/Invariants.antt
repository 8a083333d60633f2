use Rattle.std.proofs.Common.{◌-◌, length}
use Rattle.rbbi_segment.specs.Spelled.{IsSpelled}
use Rattle.rbbi_segment.proofs.streaming.append_spelled.Given as goal

-- so many bytes are spelled
abbrev pub invariant-loop-at : goal.invariant-loop-at
invariant-loop-at l = IsSpelled l.origin.is_lossy l.is_last l.bytes l.at l.initial.window l.window

-- the bytes that are left
abbrev pub decreases-loop-at : goal.decreases-loop-at
decreases-loop-at l = length l.bytes - l.at
