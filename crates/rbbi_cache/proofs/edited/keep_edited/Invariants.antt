use Rattle.std.proofs.Common.{◌≡◌, ◌≤◌, ◌-◌, take, drop, filter, length}
use Rattle.rbbi_cache.specs.Kept.{most_runs}
use Rattle.rbbi_cache.specs.Edits.{has_entries}
use Rattle.rbbi_cache.specs.inner.Parts.{all_parts}
use Rattle.rbbi_cache.proofs.edited.keep_edited.Given as goal

abbrev pub invariant-loop-k : goal.invariant-loop-k
invariant-loop-k g l =
    (l.count ≤ 16) × (take l.count l.next ≡ take most_runs
    (filter has_entries (all_parts l.edit.at l.edit.removed l.edit.inserted l.pair (take l.k l.fn.former)))) × (drop l.k l.former ≡ drop l.k l.fn.former) ×
    (length l.former ≡ length l.fn.former) × (l.k ≤ length l.former)

abbrev pub decreases-loop-k : goal.decreases-loop-k
decreases-loop-k g l = length l.former - l.k
