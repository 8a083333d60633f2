use Rattle.std.proofs.Common.{◌≡◌, ◌<◌, ℕ}
use Rattle.rbbi_model.specs.Tables.{step}
use Rattle.rbbi_segment.proofs.line_ends.leads_to_zero.Given as goal

-- the row leads to row 0 for each category before this one
abbrev pub invariant-loop-category : goal.invariant-loop-category
invariant-loop-category l = (k : ℕ) → k < l.category → step l.table l.row k ≡ 0
