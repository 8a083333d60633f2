use Rattle.std.proofs.Common.{◌≡◌, take}
use Rattle.std.specs.List.{flat_map}
use Rattle.std.specs.Rc.{rc_slice_items}
use Rattle.rbbi_classes.proofs.class_set.ClassSet.into_own_row.Given as goal

abbrev pub invariant-loop-chunk : goal.invariant-loop-chunk
invariant-loop-chunk l = l.words.items ≡ flat_map rc_slice_items (take l.chunk-index l.chunk-items)
