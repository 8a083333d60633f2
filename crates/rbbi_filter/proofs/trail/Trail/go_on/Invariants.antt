use Rattle.std.proofs.Common.{◌≡◌, ℕ, ◌+◌, ◌-◌, ◌<◌, ◌≤◌, length, get_or}
use Rattle.rbbi_filter.proofs.trail.Trail.go_on.Given as goal

abbrev pub invariant-loop-k : goal.invariant-loop-k
invariant-loop-k g l = record {
  room : length l.chars ≡ 64;
  moved : (i : ℕ) → i < l.k → 64 ≤ l.at + i → get_or l.chars i 0 ≡ get_or l.near (l.at + i - 64) 0;
  same : (i : ℕ) → l.k ≤ i → i < 64 → get_or l.chars i 0 ≡ get_or l.fn.self.chars i 0;
  more : l.fn.steps ≤ l.steps;
  cost : l.steps ≤ l.fn.steps + (l.k + l.count - 64);
}
