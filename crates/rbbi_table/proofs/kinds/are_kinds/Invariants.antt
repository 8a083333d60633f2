use Rattle.std.proofs.Common.{ℕ, ◌<◌, get_or}
use Rattle.rbbi_table.specs.Kinds.{IsKind}
use Rattle.rbbi_table.proofs.kinds.are_kinds.Given as goal

abbrev pub invariant-loop-k : goal.invariant-loop-k
invariant-loop-k l = (category : ℕ) → category < l.k → IsKind l.width l.rows l.cells (λ k. get_or l.kinds k 0) l.row category
