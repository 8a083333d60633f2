use Rattle.std.proofs.Common.{◌-◌, ◌≡◌, ◌+◌, ◌≤◌, length}
use Rattle.rbbi_cache.proofs.ReadBack.{Nears}
use Rattle.rbbi_cache.proofs.reading_back.read_near.Given as goal

abbrev pub invariant-loop-place : goal.invariant-loop-place
invariant-loop-place g l = record {
  low : l.low ≤ l.place;
  slot : l.slot + l.end ≡ l.place + 64;
  many : length l.slots ≡ 64;
  nears : Nears l.table (g.T.Chars.characters l.text) l.end l.place l.next l.slots;
  steps : l.steps + l.place ≡ l.fn.steps + l.end;
}

abbrev pub decreases-loop-place : goal.decreases-loop-place
decreases-loop-place g l = l.place - l.low
