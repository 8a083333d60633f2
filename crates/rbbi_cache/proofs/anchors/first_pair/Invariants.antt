use Rattle.std.proofs.Common.{◌≡◌, ◌+◌, ◌<◌}
use Rattle.rbbi_cache.proofs.Walks.{WalksOn}
use Rattle.rbbi_cache.proofs.anchors.first_pair.Given as goal

abbrev pub invariant-loop-place : goal.invariant-loop-place
invariant-loop-place g l =
    WalksOn l.table (g.T.Chars.characters l.text) l.low l.place l.here × (l.steps + l.low ≡ l.fn.steps + l.place + 1) × (l.here < l.table.categories)
