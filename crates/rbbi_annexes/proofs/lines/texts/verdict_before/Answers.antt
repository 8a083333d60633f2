use Rattle.std.proofs.Common.{sym, ap₂, ◌∙◌, ◌∷◌}
use Rattle.rbbi_annexes.specs.LineBreaks.{by_rules}
use Rattle.rbbi_annexes.proofs.LineTexts.{verdict_at_start, verdict_inside}
use Rattle.rbbi_annexes.proofs.lines.texts.verdict_before.Goals as goal

pub returns-then-is_start : goal.returns-then-is_start
returns-then-is_start c before at is = sym (verdict_at_start before (c.args.next ∷ c.args.after.now) (sym at ∙ c.if-is_start.true))

pub returns-else-is_start : goal.returns-else-is_start
returns-else-is_start c before at is =
    c.by_rules.ensures
    ∙ ap₂ by_rules is c.right_of.ensures
    ∙ sym (verdict_inside before c.args.next c.args.after.now (sym at ∙ c.if-is_start.false))
