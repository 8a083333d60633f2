use Rattle.std.proofs.Common.{◌≡◌, ℕ, ◌<◌, cond, get_or}
use Rattle.rbbi_table.specs.Kinds.{ends_plainly, next_of}
use Rattle.rbbi_table.proofs.kinds.write_plain.Given as goal

abbrev pub invariant-loop-k : goal.invariant-loop-k
invariant-loop-k l = (k : ℕ) → k < l.k → get_or l.kinds k 0 ≡ cond (ends_plainly l.rows (next_of l.width l.cells l.row k)) 2 3
