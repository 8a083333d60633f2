use Rattle.std.proofs.Common.{rules}
use Rattle.rbbi_resolve.proofs.variables.Summary.then.Goals as goal

pub returns : goal.returns
returns c = λ a b h k e f left right. record {
  leaf_sum = c.capped_sum.ensures.sum a b left.leaf_sum right.leaf_sum;
  height_sum = c.greater.ensures.greater 257 h k left.height_sum right.height_sum;
  empty_sum = search (rules, left.empty_sum, right.empty_sum);
}
