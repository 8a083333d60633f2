use Rattle.std.proofs.Common.{◌≡◌, ℕ, length, take}
use Rattle.rbbi_model.specs.LeafSets.{first_position}
use Rattle.rbbi_resolve.specs.RuleLists.{rules_of}
use Rattle.rbbi_bits.specs.BitRows.{row_bit}
use Rattle.rbbi_positions.specs.inner.RuleTests.{some_rule}
use Rattle.rbbi_positions.specs.inner.PositionKinds.{is_of_kind}
use Rattle.rbbi_positions.proofs.rules.row_of_kind.Given as goal

abbrev pub invariant-loop-number : goal.invariant-loop-number
invariant-loop-number l = record {
  many : length l.row.items ≡ l.words;
  at : l.start ≡ first_position (rules_of l.rules) l.number;
  bits : (position : ℕ) → row_bit l.row.items position ≡ some_rule (is_of_kind l.kind position) (take l.number (rules_of l.rules)) 0;
}
