use Rattle.std.proofs.Common.{length, replicate, sym, ap, subst, arith, length-append}
use Rattle.std.proofs.lemmas.List.{length-replicate}
use Rattle.rbbi_resolve.specs.RuleLists.{rule_of, rules_of}
use Rattle.rbbi_positions.specs.inner.RuleTests.{AreOwners}
use Rattle.rbbi_positions.proofs.RuleFacts.{first_next, first_within, owners_more, rule_is}
use Rattle.rbbi_positions.proofs.rules.owners_of.Goals as goal

pub count_of_rule-count-requires : goal.count_of_rule-count-requires
count_of_rule-count-requires c =
    λ sets. omega (arith, first_within c.args.rules.now c.loop-number.number c.get.result.now c.get.ensures sets, c.requires.few_leaves)

pub loop-number-preserved : goal.loop-number-preserved
loop-number-preserved c = record {
  many = omega (
    arith,
    ap length c.in_ok-add_owners.ensures,
    length-append c.loop-number.owners.items (replicate c.count_of_rule-count.result c.loop-number.number),
    length-replicate c.count_of_rule-count.result c.loop-number.number,
    c.loop-number.invariant.many,
    c.count_of_rule-count.ensures c.args.rules.now.sets,
    first_next c.args.rules.now c.loop-number.number c.get.result.now c.get.ensures c.args.rules.now.sets,
  );
  each = subst (AreOwners (rules_of c.args.rules.now)) (sym c.in_ok-add_owners.ensures)
      (owners_more (rules_of c.args.rules.now) c.loop-number.number c.count_of_rule-count.result (rule_of c.args.rules.now.sets c.get.result.now)
      c.loop-number.owners.items
      (rule_is c.args.rules.now c.loop-number.number c.get.result.now c.get.ensures) (c.count_of_rule-count.ensures c.args.rules.now.sets)
      c.loop-number.invariant.many c.loop-number.invariant.each);
}
