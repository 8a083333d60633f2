use Rattle.std.proofs.Common.{◌≡◌, ℕ, ◌*◌, ◌<◌, length, take}
use Rattle.rbbi_model.specs.LeafSets.{first_position}
use Rattle.rbbi_resolve.specs.RuleLists.{rules_of}
use Rattle.rbbi_positions.specs.inner.Rows.{in_row}
use Rattle.rbbi_positions.specs.inner.RuleTests.{some_rule, rule_goes}
use Rattle.rbbi_positions.proofs.rules.followers_of.Given as goal

abbrev pub invariant-loop-number : goal.invariant-loop-number
invariant-loop-number l = record {
  many : length l.rows.items ≡ l.leaves * l.words;
  at : l.start ≡ first_position (rules_of l.rules) l.number;
  rows : (position other : ℕ) → other < 64 * l.words →
      in_row l.words l.rows.items position other ≡ some_rule (rule_goes position other) (take l.number (rules_of l.rules)) 0;
}
