use Rattle.std.proofs.Common.{◌≡◌, length}
use Rattle.rbbi_annexes.specs.LineBreaks.{items_after}
use Rattle.rbbi_annexes.proofs.lines.texts.next_item.Given as goal

abbrev pub invariant-loop-c : goal.invariant-loop-c
invariant-loop-c l = items_after l.fn.last l.fn.after ≡ items_after l.fn.last l.rest

abbrev pub decreases-loop-c : goal.decreases-loop-c
decreases-loop-c l = length l.rest
