use Rattle.std.proofs.Common.{◌≡◌, ◌-◌, length}
use Rattle.rbbi_file.specs.Lengths.{lists_end}
use Rattle.rbbi_file.specs.inner.Reading.{AreListsAt}
use Rattle.rbbi_file.proofs.parts.lists_at.Given as goal

abbrev pub invariant-loop-list : goal.invariant-loop-list
invariant-loop-list l =
    AreListsAt l.bytes l.lists.items l.at l.end × (length l.lists.items ≡ l._list)
    × (lists_end l.bytes (l.count - l._list) l.end ≡ lists_end l.bytes l.count l.at)
