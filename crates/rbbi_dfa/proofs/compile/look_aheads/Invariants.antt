-- how many of the rules so far look ahead
use Rattle.std.proofs.Common.{◌≡◌, ◌≤◌}
use Rattle.std.specs.Prelude.{take, count_by}
use Rattle.rbbi_dfa.proofs.LookAheads.{has_slash}
use Rattle.rbbi_dfa.proofs.compile.look_aheads.Given as goal

abbrev pub invariant-loop-rule : goal.invariant-loop-rule
invariant-loop-rule l = record {
  exact : l.count ≡ count_by has_slash (take l.rule l.positions.rules);
  few : l.count ≤ l.rule;
}
