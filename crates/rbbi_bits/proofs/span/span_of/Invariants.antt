-- outside of the span the words so far are 0
use Rattle.std.proofs.Common.{◌≡◌, ℕ, ◌<◌, ◌≤◌, get_or}
use Rattle.rbbi_bits.proofs.span.span_of.Given as goal

abbrev pub invariant-loop-i : goal.invariant-loop-i
invariant-loop-i l = record {
  within : l.to ≤ l.i;
  before : (k : ℕ) → k < l.from → k < l.i → get_or l.row k 0 ≡ 0;
  past : (k : ℕ) → l.to ≤ k → k < l.i → get_or l.row k 0 ≡ 0;
}
