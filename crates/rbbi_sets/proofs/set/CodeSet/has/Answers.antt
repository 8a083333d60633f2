-- The first range that ends at the code point or past it decides.
use Rattle.std.proofs.Common.{length, ltb, ap, ◌∙◌, arith, rules}
use Rattle.std.proofs.lemmas.Bool.{ltb-true}
use Rattle.std.proofs.lemmas.List.Sorted.{IsPartitionPoint-from_clause, IsPartitionedBy-ltb}
use Rattle.rbbi_model.specs.Ranges.{Range}
use Rattle.rbbi_sets.specs.inner.Rising.{IsNextRange}
use Rattle.rbbi_sets.proofs.Search.{ends_rise, next_from_point, has_at_next, has_past}
use Rattle.rbbi_sets.proofs.set.CodeSet.has.Goals as goal
use Rattle.rbbi_sets.proofs.set.CodeSet.has.Goals.{After-partition_point-next}

-- what the search found
next : (c : After-partition_point-next) → IsNextRange c.self.inside.ranges.items c.args.c c.partition_point-next.result
next c =
    let xs = c.self.inside.ranges.items in
    let parted = IsPartitionedBy-ltb (λ (r : Range). r.high) xs c.args.c (ends_rise xs c.self.invariant) in
    let point =
    IsPartitionPoint-from_clause (λ (r : Range). ltb r.high c.args.c) c.deref.result.now _ c.partition_point-next.ensures.partitioned
    (rw c.deref.ensures.value parted) (λ a r q k. search rules) in
    next_from_point xs c.args.c _ (rw c.deref.ensures.value at point)

pub returns-then-next-len : goal.returns-then-next-len
returns-then-next-len c =
    rw (← c.self.view_is)
    (has_at_next c.self.inside.ranges.items c.args.c c.partition_point-next.result c.behind-self.inside.low c.index.result.now c.self.invariant
    (next (goal.at.returns-then-next-len c).After-partition_point-next) (omega (arith, c.self.inside.ranges.ok.0))
    (ap (λ (r : Range). r.low) (c.behind-self.view_is ∙ c.index.ensures)))

pub returns-else-next-len : goal.returns-else-next-len
returns-else-next-len c =
    let none =
    has_past c.self.inside.ranges.items c.args.c c.partition_point-next.result (next (goal.at.returns-else-next-len c).After-partition_point-next) (omega (
      arith,
      c.self.inside.ranges.ok.0,
      c.partition_point-next.ensures.bound,
      ap length c.deref.ensures.value,
    )) in
    rw (← c.self.view_is) (λ t. absurd (omega (arith, ltb-true _ _ t)), λ h. absurd (none h))
