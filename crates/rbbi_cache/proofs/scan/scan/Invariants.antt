use Rattle.std.proofs.Common.{◌≡◌, ◌+◌, ◌-◌}
use Rattle.rbbi_cache.specs.inner.Scans.{ContinuesScan}
use Rattle.rbbi_cache.proofs.scan.scan.Given as goal

abbrev pub invariant-loop-here : goal.invariant-loop-here
invariant-loop-here g l =
    ContinuesScan l.table (g.T.Chars.characters l.text) l.fn.run.anchor l.i l.fn.from l.fn.run l.here l.run l.fn.steps l.steps × (l.marks ≡ l.fn.marks) ×
    (l.run.anchor ≡ l.fn.run.anchor)

abbrev pub decreases-loop-here : goal.decreases-loop-here
decreases-loop-here g l = l.i + 1 - l.here.at
