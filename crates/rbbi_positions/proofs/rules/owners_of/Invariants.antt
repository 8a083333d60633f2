use Rattle.std.proofs.Common.{◌≡◌, length}
use Rattle.rbbi_model.specs.LeafSets.{first_position}
use Rattle.rbbi_resolve.specs.RuleLists.{rules_of}
use Rattle.rbbi_positions.specs.inner.RuleTests.{AreOwners}
use Rattle.rbbi_positions.proofs.rules.owners_of.Given as goal

abbrev pub invariant-loop-number : goal.invariant-loop-number
invariant-loop-number l = record {
  many : length l.owners.items ≡ first_position (rules_of l.rules) l.number;
  each : AreOwners (rules_of l.rules) l.owners.items;
}
