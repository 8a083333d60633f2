use Rattle.std.proofs.Common.{true, false, sym, ◌∙◌, subst, arith}
use Rattle.rbbi_resolve.specs.RuleLists.{rules_of}
use Rattle.rbbi_positions.specs.PositionMarks.{AreRuleMarks}
use Rattle.rbbi_positions.proofs.MarkLists.{slashes_next, marks_more}
use Rattle.rbbi_positions.proofs.rule_marks.marks_of.Goals as goal
use Rattle.rbbi_positions.proofs.rule_marks.marks_of.Goals.{then-is_some, else-is_some}

pub loop-number-preserved : goal.loop-number-preserved
loop-number-preserved c = record {
  many = omega (arith, c.in_ok-push.ensures.len, c.loop-number.invariant.many, c.loop-number.marks.ok.0, c.push.new.self.ok.0);
  few = elim c.if-is_some.branch [
    | then-is_some w ↦ omega (arith, w.slashes-is, c.loop-number.invariant.few)
    | else-is_some w ↦
        omega (arith, w.slashes-is, c.loop-number.invariant.few)
  ];
  slashes_are = elim c.if-is_some.branch [
    | then-is_some w ↦ omega (
      arith,
      w.slashes-is,
      c.loop-number.invariant.slashes_are,
      slashes_next c.args.rules.now c.loop-number.number c.get-rule.result.now c.get-rule.ensures
          true (sym c.is_some.ensures ∙ w.if-is_some.true),
    )
    | else-is_some w ↦ omega (
      arith,
      w.slashes-is,
      c.loop-number.invariant.slashes_are,
      slashes_next c.args.rules.now c.loop-number.number c.get-rule.result.now c.get-rule.ensures
          false (sym c.is_some.ensures ∙ w.if-is_some.false),
    )
  ];
  each = subst (AreRuleMarks (rules_of c.args.rules.now)) (sym c.in_ok-push.ensures.items)
      (marks_more c.args.rules.now c.loop-number.number c.get-rule.result.now c.get-rule.ensures c.loop-number.marks.items c.mark_of.result
      c.loop-number.slashes c.loop-number.invariant.many c.loop-number.invariant.slashes_are
      c.mark_of.ensures.chained_into c.mark_of.ensures.tag c.mark_of.ensures.slash c.loop-number.invariant.each);
}
