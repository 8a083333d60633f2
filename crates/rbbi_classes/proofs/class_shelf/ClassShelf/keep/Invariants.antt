use Rattle.std.proofs.Common.{◌≡◌, ◌≤◌, ◌-◌, take}
use Rattle.std.specs.List.{flat_map}
use Rattle.std.specs.Rc.{rc_slice_items}
use Rattle.rbbi_classes.proofs.class_shelf.ClassShelf.keep.Given as goal

-- the chunks so far are the words before this place
abbrev pub invariant-cuts : goal.invariant-cuts
invariant-cuts l = record {
  begun : l.from ≤ l.place;
  within : l.place ≤ l.end;
  cut : flat_map rc_slice_items l.chunks.items ≡ take (l.place - l.from) l.set.words;
}

abbrev pub decreases-cuts : goal.decreases-cuts
decreases-cuts l = l.end - l.place
