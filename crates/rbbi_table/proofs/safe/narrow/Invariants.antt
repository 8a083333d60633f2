use Rattle.std.proofs.Common.{◌≡◌, ℕ, ◌+◌, ◌<◌, ◌≤◌, false, get_or}
use Rattle.std.specs.Prelude.{◌&&◌, ◌==◌}
use Rattle.rbbi_table.proofs.safe.narrow.Given as goal

-- the first are narrowed, and the others are as they were
abbrev pub invariant-loop-k : goal.invariant-loop-k
invariant-loop-k l =
    ((j : ℕ) → j < l.k →
    get_or l.marked j false ≡ (get_or l.initial.marked j false && (get_or l.cells (l.one + j) 0 == get_or l.cells (l.other + j) 0)))
    × ((j : ℕ) → l.k ≤ j → get_or l.marked j false ≡ get_or l.initial.marked j false)
