use Rattle.std.proofs.Common.{◌≡◌, take}
use Rattle.rbbi_model.specs.Places.{largest}
use Rattle.rbbi_scan.proofs.greatest.largest_of.Given as goal

abbrev pub invariant-loop-number : goal.invariant-loop-number
invariant-loop-number l = l.most ≡ largest (take l.number-index l.numbers)
