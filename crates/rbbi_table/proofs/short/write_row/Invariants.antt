use Rattle.std.proofs.Common.{◌≡◌, ℕ, ◌+◌, ◌*◌, ◌<◌, ◌⊎◌, length, get_or}
use Rattle.rbbi_table.proofs.short.write_row.Given as goal

abbrev pub invariant-loop-k : goal.invariant-loop-k
invariant-loop-k l = record {
  list : get_or l.moves l.place 0 ≡ l.list;
  each : (k : ℕ) → k < l.k → get_or l.moves (l.place + k + 1) 0 ≡ get_or l.steps k 0 * l.stride + get_or l.kinds k 0;
  others : (i : ℕ) → (i < l.place) ⊎ (l.place + length l.steps < i) → get_or l.moves i 0 ≡ get_or l.fn.moves i 0;
}
