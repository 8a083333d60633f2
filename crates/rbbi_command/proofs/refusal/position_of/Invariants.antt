use Rattle.std.proofs.Common.{◌≡◌, ◌+◌, length}
use Rattle.rbbi_model.specs.Lines.{since_line_end}
use Rattle.rbbi_command.proofs.Positions.{line_ends}
use Rattle.rbbi_command.proofs.refusal.position_of.Given as goal

-- the row and the column after the characters so far, and how many are left
abbrev pub invariant-loop-c : goal.invariant-loop-c
invariant-loop-c l =
    (l.left + length l.yielded ≡ l.place) × (l.row ≡ 1 + line_ends l.yielded) × (l.column ≡ 1 + since_line_end 0 l.yielded)
