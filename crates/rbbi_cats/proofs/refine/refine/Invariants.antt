use Rattle.std.proofs.Common.{◌≡◌, ◌*◌, length}
use Rattle.rbbi_cats.proofs.Numbering.{RefinedSoFar}
use Rattle.rbbi_cats.proofs.refine.refine.Given as goal

abbrev pub invariant-loop-k : goal.invariant-loop-k
invariant-loop-k l = record {
  refined : RefinedSoFar l.row l.initial.categories l.categories l.numbers l.greatest l.word l.k;
  many : length l.numbers ≡ 2 * l.fn.count;
}
