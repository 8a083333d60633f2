use Rattle.std.proofs.Common.{◌≡◌, ◌<◌, ◌≤◌, ◌==◌, ℕ, if◌then◌else◌, length, get_or}
use Rattle.rbbi_canon.proofs.union_find.UnionFind.join.Given as goal

-- the labels up to here are changed, and the others are as they were
abbrev pub invariant-loop-number : goal.invariant-loop-number
invariant-loop-number l =
    (length l.self-inside.labels.items ≡ length l.initial.self-inside.labels.items)
    × ((k : ℕ) → k < l.number → get_or l.self-inside.labels.items k 0
    ≡ (if get_or l.initial.self-inside.labels.items k 0 == l.from then l.to else get_or l.initial.self-inside.labels.items k 0))
    × ((k : ℕ) → l.number ≤ k → get_or l.self-inside.labels.items k 0 ≡ get_or l.initial.self-inside.labels.items k 0)
