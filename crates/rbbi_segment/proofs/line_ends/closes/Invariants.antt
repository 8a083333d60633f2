use Rattle.std.proofs.Common.{◌<◌, ℕ}
use Rattle.rbbi_model.specs.Tables.{step}
use Rattle.rbbi_model.specs.ValidTables.{LeadsToZero}
use Rattle.rbbi_segment.proofs.line_ends.closes.Given as goal

-- after the character no row before this one leads on
abbrev pub invariant-loop-row : goal.invariant-loop-row
invariant-loop-row l = (k : ℕ) → k < l.row → LeadsToZero l.table (step l.table k l.category)
