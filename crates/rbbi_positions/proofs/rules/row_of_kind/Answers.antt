use Rattle.std.proofs.Common.{◌||◌, [], length, ap, ◌∙◌, arith}
use Rattle.rbbi_resolve.specs.RuleLists.{rule_of}
use Rattle.rbbi_bits.specs.BitRows.{row_bit}
use Rattle.rbbi_positions.specs.inner.PositionKinds.{is_of_kind}
use Rattle.rbbi_positions.proofs.RowWrites.{all_written}
use Rattle.rbbi_positions.proofs.RuleFacts.{first_next, first_within, some_next}
use Rattle.rbbi_positions.proofs.rules.row_of_kind.Goals as goal

pub add_of_kind-requires-clause-within : goal.add_of_kind-requires-clause-within
add_of_kind-requires-clause-within c =
    λ sets. omega (arith, c.loop-number.invariant.many, ap length c.deref_mut.ensures.value, first_within c.args.rules.now _ _ c.get-rule.ensures sets)

pub count_of_rule-start-requires : goal.count_of_rule-start-requires
count_of_rule-start-requires c =
    λ sets. omega (arith, first_within c.args.rules.now _ _ c.get-rule.ensures sets, c.requires.wide, c.requires.few)

pub overflow_add-start : goal.overflow_add-start
overflow_add-start c =
    omega (arith, c.count_of_rule-start.ensures [], first_within c.args.rules.now _ _ c.get-rule.ensures [], c.requires.wide, c.requires.few)

pub loop-number-preserved : goal.loop-number-preserved
loop-number-preserved c =
    let written = all_written c.loop-number.row _ c.add_of_kind.new.row c.deref_mut.ensures.value c.add_of_kind.auto.row in
    record {
      many = ap length written ∙ c.add_of_kind.auto.row ∙ ap length c.deref_mut.ensures.value ∙ c.loop-number.invariant.many;
      at = omega (arith, c.loop-number.invariant.at, c.count_of_rule-start.ensures [], first_next c.args.rules.now _ _ c.get-rule.ensures []);
      bits = λ position.
          ap (λ row. row_bit row position) written
          ∙ some_next c.args.rules.now _ _ c.get-rule.ensures (is_of_kind c.args.kind position) c.loop-number.start
          (row_bit c.loop-number.row.items position) (row_bit c.add_of_kind.new.row position) c.loop-number.invariant.at
          (c.loop-number.invariant.bits position)
          (c.add_of_kind.ensures c.args.rules.now.sets position
          ∙ ap (λ row. row_bit row position
          || is_of_kind c.args.kind position (rule_of c.args.rules.now.sets c.get-rule.result.now) c.loop-number.start)
          c.deref_mut.ensures.value);
    }
