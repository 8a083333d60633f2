use Rattle.std.proofs.Common.{◌≡◌, length}
use Rattle.rbbi_annexes.specs.LineBreaks.{one_of}
use Rattle.rbbi_annexes.proofs.lines.items.one_of.Given as goal

abbrev pub invariant-loop-class : goal.invariant-loop-class
invariant-loop-class l = one_of l.fn.classes l.item ≡ one_of l.rest l.item

abbrev pub decreases-loop-class : goal.decreases-loop-class
decreases-loop-class l = length l.rest
