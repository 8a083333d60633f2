use Rattle.std.proofs.Common.{◌≡◌, ◌<◌, ℕ, length, get_or}
use Rattle.rbbi_canon.proofs.union_find.UnionFind.new.Given as goal

-- the labels so far
abbrev pub invariant-loop-number : goal.invariant-loop-number
invariant-loop-number l = (length l.labels.items ≡ l.number) × ((k : ℕ) → k < l.number → get_or l.labels.items k 0 ≡ k)
