use Rattle.std.proofs.Common.{◌≡◌, ℕ, ◌+◌, ◌<◌, ◌≤◌, ◌⊎◌, get_or}
use Rattle.rbbi_model.specs.Places.{has_bit}
use Rattle.rbbi_classes.specs.inner.Operations.{joins}
use Rattle.rbbi_classes.proofs.operation.Operation.apply.Given as goal

-- the words before this place are done, and the others are as they were
abbrev pub invariant-loop-i : goal.invariant-loop-i
invariant-loop-i l = record {
  done : (k t : ℕ) → k < l.i → t < 64 →
      has_bit (get_or l.row (l.start + k) 0) t ≡ joins l.self (has_bit (get_or l.initial.row (l.start + k) 0) t) (has_bit (get_or l.words k 0) t);
  kept : (k : ℕ) → (k < l.start) ⊎ (l.start + l.i ≤ k) → get_or l.row k 0 ≡ get_or l.initial.row k 0;
}
