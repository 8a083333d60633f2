use Rattle.std.proofs.Common.{◌≡◌, ◌+◌, ◌<◌, ◌≤◌}
use Rattle.rbbi_cache.proofs.Walks.{WalksBack}
use Rattle.rbbi_cache.proofs.anchors.anchor_before.Given as goal

abbrev pub invariant-loop-place : goal.invariant-loop-place
invariant-loop-place g l = record {
  walk : WalksBack l.table (g.T.Chars.characters l.text) l.high l.place l.next;
  order : l.low ≤ l.place;
  read : l.steps + l.place ≡ l.fn.steps + l.high;
  category : l.next < l.table.categories;
}

abbrev pub decreases-loop-place : goal.decreases-loop-place
decreases-loop-place g l = l.place
