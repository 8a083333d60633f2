use Rattle.std.proofs.Common.{◌≡◌, ℕ, ◌<◌, length, get_or}
use Rattle.rbbi_table.proofs.short.bytes_of.Given as goal

abbrev pub invariant-loop-category : goal.invariant-loop-category
invariant-loop-category l = record {
  len : length l.bytes.items ≡ l.category-index;
  same : (k : ℕ) → k < l.category-index → get_or l.categories k 0 < 256 → get_or l.bytes.items k 0 ≡ get_or l.categories k 0;
}
