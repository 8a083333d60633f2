use Rattle.std.proofs.Common.{◌≡◌, ◌≤◌, length, take}
use Rattle.rbbi_model.specs.Rules.{look_aheads}
use Rattle.rbbi_resolve.specs.RuleLists.{rules_of}
use Rattle.rbbi_positions.specs.PositionMarks.{AreRuleMarks}
use Rattle.rbbi_positions.proofs.rule_marks.marks_of.Given as goal

abbrev pub invariant-loop-number : goal.invariant-loop-number
invariant-loop-number l = record {
  many : length l.marks.items ≡ l.number;
  few : l.slashes ≤ l.number;
  slashes_are : l.slashes ≡ length (look_aheads (take l.number (rules_of l.rules)));
  each : AreRuleMarks (rules_of l.rules) l.marks.items;
}
