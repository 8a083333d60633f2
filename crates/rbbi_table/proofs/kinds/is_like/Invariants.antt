use Rattle.std.proofs.Common.{ℕ, ◌<◌, get_or}
use Rattle.rbbi_table.specs.Kinds.{IsLikeBy}
use Rattle.rbbi_table.proofs.kinds.is_like.Given as goal

abbrev pub invariant-loop-k : goal.invariant-loop-k
invariant-loop-k l = (category : ℕ) → category < l.k → IsLikeBy l.width l.cells (λ k. get_or l.kinds k 0) l.base l.row category
