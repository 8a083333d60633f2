use Rattle.std.proofs.Common.{◌≡◌, ◌≤◌, ◌-◌, length, take, sum_by}
use Rattle.rbbi_model.specs.Units.{size_of}
use Rattle.rbbi_text.proofs.measure.fit_characters.Given as goal

abbrev pub invariant-loop-count : goal.invariant-loop-count
invariant-loop-count l = record {
  within : l.count ≤ length l.items;
  sum : l.units ≡ sum_by (size_of l.unit) (take l.count l.items);
  fits : l.units ≤ l.most;
}

abbrev pub decreases-loop-count : goal.decreases-loop-count
decreases-loop-count l = length l.items - l.count
