use Rattle.std.proofs.Common.{◌≡◌, ◌-◌, ◌^◌, ◌<◌}
use Rattle.rbbi_file.specs.Lengths.{lists_end}
use Rattle.rbbi_file.proofs.read.end_of_lists.Given as goal

abbrev pub invariant-loop-list : goal.invariant-loop-list
invariant-loop-list l = (lists_end l.bytes (l.count - l._list) l.at ≡ lists_end l.bytes l.count l.initial.at) × (l.at < 2 ^ 37)
