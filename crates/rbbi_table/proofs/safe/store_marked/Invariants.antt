use Rattle.std.proofs.Common.{◌≡◌, ◌+◌, ◌<◌, ◌≤◌, ℕ, false, length, get_or}
use Rattle.std.specs.Prelude.{◌||◌}
use Rattle.rbbi_model.specs.SafePairs.{stored_bit}
use Rattle.rbbi_table.proofs.safe.store_marked.Given as goal

-- the bits of the first marks are set, and the others are as they were
abbrev pub invariant-loop-k : goal.invariant-loop-k
invariant-loop-k l = record {
  len : length l.bytes.items ≡ length l.initial.bytes.items;
  before : (i : ℕ) → i < l.start → stored_bit l.bytes.items i ≡ stored_bit l.initial.bytes.items i;
  here : (j : ℕ) → j < l.k → stored_bit l.bytes.items (l.start + j) ≡ (get_or l.marked j false || stored_bit l.initial.bytes.items (l.start + j));
  behind : (i : ℕ) → l.start + l.k ≤ i → stored_bit l.bytes.items i ≡ stored_bit l.initial.bytes.items i;
}
