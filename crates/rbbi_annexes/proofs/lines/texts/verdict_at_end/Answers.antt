use Rattle.std.proofs.Common.{sym, ◌∙◌, []}
use Rattle.rbbi_annexes.proofs.LineTexts.{verdict_at_start, verdict_last}
use Rattle.rbbi_annexes.proofs.lines.texts.verdict_at_end.Goals as goal

pub returns-then-is_start : goal.returns-then-is_start
returns-then-is_start c before at = sym (verdict_at_start before [] (sym at ∙ c.if-is_start.true))

pub returns-else-is_start : goal.returns-else-is_start
returns-else-is_start c before at = sym (verdict_last before (sym at ∙ c.if-is_start.false))
