use Rattle.std.proofs.Common.{◌≡◌}
use Rattle.rbbi_cache.specs.Kept.{AreTrueRuns}
use Rattle.rbbi_trials.proofs.kept.ask_past.Given as goal

abbrev pub invariant-loop-place : goal.invariant-loop-place
invariant-loop-place g l = AreTrueRuns l.table l.text l.cache.runs × (l.cache.slashes ≡ l.table.slashes)
