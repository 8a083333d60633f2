use Rattle.std.proofs.Common.{◌≤◌, ◌-◌, length}
use Rattle.rbbi_model.specs.Ranges.{Has}
use Rattle.rbbi_sets.specs.inner.Rising.{IsNextRange}
use Rattle.rbbi_sets.specs.inner.Sweeps.{Combined}
use Rattle.rbbi_sets.proofs.Sweeping.{HaveUpTo}
use Rattle.rbbi_sets.proofs.sweep.sweep.Given as goal

abbrev pub invariant-stretches : goal.invariant-stretches
invariant-stretches l = record {
  have : HaveUpTo (λ c. Combined l.operation (Has l.lefts c) (Has l.rights c)) l.set l.at;
  point : l.at ≤ 0x110000;
  left_within : l.next_left ≤ length l.lefts;
  left_place : IsNextRange l.lefts l.at l.next_left;
  right_within : l.next_right ≤ length l.rights;
  right_place : IsNextRange l.rights l.at l.next_right;
}

abbrev pub decreases-stretches : goal.decreases-stretches
decreases-stretches l = 0x110000 - l.at
