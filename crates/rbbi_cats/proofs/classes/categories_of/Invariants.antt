use Rattle.rbbi_cats.proofs.Joining.{JoinedSoFar}
use Rattle.rbbi_cats.proofs.classes.categories_of.Given as goal

abbrev pub invariant-loop-row : goal.invariant-loop-row
invariant-loop-row l = JoinedSoFar l.division l.rows l.categories.items l.count l.row-index
