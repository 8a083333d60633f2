use Rattle.std.proofs.Common.{◌≡◌, ℕ, ◌<◌, ◌≤◌, ◌⊎◌, get_or}
use Rattle.std.specs.Int.RustNames.{bit_or}
use Rattle.rbbi_bits.proofs.combine.unite_within.Given as goal

abbrev pub invariant-loop-i : goal.invariant-loop-i
invariant-loop-i l =
    ((k : ℕ) → l.fn.span.from ≤ k → k < l.i → get_or l.row k 0 ≡ bit_or (get_or l.initial.row k 0) (get_or l.other k 0))
    × ((k : ℕ) → (k < l.fn.span.from) ⊎ (l.i ≤ k) → get_or l.row k 0 ≡ get_or l.initial.row k 0)
