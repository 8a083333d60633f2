-- The classes that begin before a code point are those of the bounds before it, and the first one.
use Rattle.std.proofs.Common.{◌<◌, ltb, rules, arith}
use Rattle.std.proofs.lemmas.List.Sorted.{IsPartitionPoint-from_clause, IsPartitionedBy-ltb}
use Rattle.rbbi_classes.proofs.ClassBounds.{bounds-sorted}
use Rattle.rbbi_classes.proofs.FirstCodePoints.{first-from_point}
use Rattle.rbbi_classes.proofs.layout.Layout.classes_before.Goals as goal

pub returns : goal.returns
returns c =
    let bounds = c.self.inside.bounds.items in
    let some : 0 < c.args.c = omega arith in
    let parted = IsPartitionedBy-ltb (λ n. n) bounds c.args.c (bounds-sorted bounds c.self.invariant) in
    let point =
    IsPartitionPoint-from_clause (λ n. ltb n c.args.c) c.deref.result.now _ c.partition_point.ensures.partitioned
    (rw c.deref.ensures.value parted) (λ a r q k. search rules) in
    rw (← c.self.view_is)
    (first-from_point bounds c.self.invariant c.args.c _ some (rw c.deref.ensures.value at point))
