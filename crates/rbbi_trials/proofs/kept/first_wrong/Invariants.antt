use Rattle.std.proofs.Common.{◌≡◌}
use Rattle.rbbi_cache.specs.Kept.{AreTrueRuns}
use Rattle.rbbi_trials.proofs.kept.first_wrong.Given as goal

abbrev pub invariant-loop-i : goal.invariant-loop-i
invariant-loop-i g l = AreTrueRuns l.table l.text.text l.cache.runs × (l.cache.slashes ≡ l.table.slashes)
