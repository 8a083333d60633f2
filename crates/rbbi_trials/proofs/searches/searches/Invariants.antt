use Rattle.std.proofs.Common.{◌≡◌}
use Rattle.rbbi_trials.proofs.searches.searches.Given as goal

abbrev pub invariant-loop : goal.invariant-loop
invariant-loop g l = l.marks ≡ l.table.slashes
