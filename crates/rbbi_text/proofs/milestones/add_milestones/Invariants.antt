use Rattle.std.proofs.Common.{◌≡◌, ◌*◌, ◌-◌, length, take, sum_by}
use Rattle.rbbi_text.specs.Milestones.{AreMilestones}
use Rattle.rbbi_text.proofs.milestones.add_milestones.Given as goal

-- the milestones so far, and what the items before the latest one take
abbrev pub invariant-loop-from : goal.invariant-loop-from
invariant-loop-from g l = record {
  from_is : l.from ≡ 8 * length l.sums.items;
  units_are : l.units ≡ sum_by (g.T.Measure.weight l.unit) (take l.from l.items);
  are : AreMilestones (g.T.Measure.weight l.unit) l.items l.sums.items;
}

abbrev pub decreases-loop-from : goal.decreases-loop-from
decreases-loop-from g l = length l.items - l.from
