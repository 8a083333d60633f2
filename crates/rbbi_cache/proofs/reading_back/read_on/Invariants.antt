use Rattle.std.proofs.Common.{◌-◌, ◌≡◌, ◌+◌, ◌≤◌, length}
use Rattle.rbbi_cache.specs.inner.Back.{EndWith}
use Rattle.rbbi_cache.proofs.reading_back.read_on.Given as goal

abbrev pub invariant-loop-place : goal.invariant-loop-place
invariant-loop-place g l = record {
  from : l.from ≤ l.place;
  to : l.place ≤ l.to;
  slot : l.slot + l.end ≡ l.place + 64;
  many : length l.slots ≡ 64;
  kept : EndWith l.table (g.T.Chars.characters l.text) l.place l.end l.slots;
  steps : l.steps + l.place ≡ l.fn.steps + l.to;
}

abbrev pub decreases-loop-place : goal.decreases-loop-place
decreases-loop-place g l = l.place - l.from
