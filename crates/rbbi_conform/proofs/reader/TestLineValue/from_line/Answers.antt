use Rattle.std.proofs.Common.{ap, sym, subst, ◌∙◌}
use Rattle.rbbi_text.specs.LineParts.{is_skipped}
use Rattle.rbbi_conform.specs.Grammar.{WritesTest}
use Rattle.rbbi_conform.proofs.reader.TestLineValue.from_line.Goals as goal

pub returns-in_default : goal.returns-in_default
returns-in_default c =
    let same = c.as_bytes-line.ensures.value in
    let none = rw c.in_default.is at c.in_ok-text.ensures in (
      ap is_skipped (sym same) ∙ sym c.is_skipped.ensures ∙ c.if-is_skipped.false,
      λ text marks writes. none text marks (subst (λ line. WritesTest line text marks) (sym same) writes),
    )
