use Rattle.std.proofs.Common.{◌≡◌, ℕ, ◌+◌, ◌-◌, ◌<◌, ◌≤◌, get_or}
use Rattle.rbbi_text.proofs.places.shift.Given as goal

abbrev pub invariant-loop-k : goal.invariant-loop-k
invariant-loop-k l =
    ((i : ℕ) → i < l.from → get_or l.moved i 0 ≡ get_or l.initial.moved i 0)
    × ((i : ℕ) → l.from ≤ i → i < l.k → get_or l.moved i 0 ≡ get_or l.initial.moved i 0 - l.removed + l.added)
    × ((i : ℕ) → l.k ≤ i → get_or l.moved i 0 ≡ get_or l.initial.moved i 0)
