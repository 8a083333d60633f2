use Rattle.std.proofs.Common.{◌≡◌, Some, take, map}
use Rattle.rbbi_filter.specs.PairFiles.{AreDistinct}
use Rattle.rbbi_filter.proofs.PairLines.{written}
use Rattle.rbbi_filter.proofs.tailoring.pairs_of_lines.Given as goal

abbrev pub invariant-loop-i : goal.invariant-loop-i
invariant-loop-i l = (written (take l.i l.lines) ≡ map Some l.tailoring) × AreDistinct l.tailoring
