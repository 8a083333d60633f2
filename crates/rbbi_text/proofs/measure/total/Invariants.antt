use Rattle.std.proofs.Common.{◌≡◌, take, sum_by}
use Rattle.rbbi_text.proofs.measure.total.Given as goal

abbrev pub invariant-loop-item : goal.invariant-loop-item
invariant-loop-item g l = l.total ≡ sum_by (g.T.Measure.weight l.unit) (take l.item-index l.items)
