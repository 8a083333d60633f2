use Rattle.std.proofs.Common.{◌≡◌, ◌≤◌, take, sum_by}
use Rattle.rbbi_text.proofs.measure.fit_in.Given as goal

abbrev pub invariant-loop-item : goal.invariant-loop-item
invariant-loop-item g l = record {
  count : l.fit.count ≡ l.item-index;
  sum : l.fit.units ≡ sum_by (g.T.Measure.weight l.unit) (take l.item-index l.items);
  fits : l.fit.units ≤ l.most;
}
