use Rattle.std.proofs.Common.{◌≡◌, ℕ, List, ◌++◌, length}
use Rattle.rbbi_annexes.specs.LineBreaks.{left_of}
use Rattle.rbbi_annexes.specs.LineTexts.{line_verdicts, verdicts_from}
use Rattle.rbbi_annexes.specs.inner.Lefts.{is_empty}
use Rattle.rbbi_annexes.proofs.lines.texts.line_verdicts.Given as goal

abbrev pub invariant-loop-next : goal.invariant-loop-next
invariant-loop-next l =
    (before : List ℕ) × (l.is_start ≡ is_empty before) × (l.left ≡ left_of before)
    × (line_verdicts l.fn.text ≡ l.verdicts.items ++ verdicts_from before l.rest)

abbrev pub decreases-loop-next : goal.decreases-loop-next
decreases-loop-next l = length l.rest
