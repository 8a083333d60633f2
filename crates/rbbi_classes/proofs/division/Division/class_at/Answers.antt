-- The last step that begins up to the code point gives its number.
use Rattle.std.proofs.Common.{length, leb, suc, ap, ℕ, ◌<◌, ◌≡◌, ◌-◌, ◌∙◌, sym, subst, arith, rules}
use Rattle.std.proofs.lemmas.List.Sorted.{IsPartitionPoint-from_clause, IsPartitionedBy-leb}
use Rattle.rbbi_classes.specs.declared.steps.Step.{Step}
use Rattle.rbbi_classes.proofs.Stepping.{IsPlace, number-first, number-point, starts-sorted}
use Rattle.rbbi_classes.proofs.division.Division.class_at.Goals as goal
use Rattle.rbbi_classes.proofs.division.Division.class_at.Goals.{After-partition_point-next}

-- what the search found
next : (c : After-partition_point-next) →
    IsPlace c.self.inside.steps.items c.args.c c.partition_point-next.result
next c =
    let xs = c.self.inside.steps.items in
    let parted = IsPartitionedBy-leb (λ (s : Step). s.start) xs c.args.c (starts-sorted 1 xs c.self.invariant.steps) in
    let point =
    IsPartitionPoint-from_clause (λ (s : Step). leb s.start c.args.c) c.deref.result.now _ c.partition_point-next.ensures.partitioned
    (rw c.deref.ensures.value parted) (λ a r q k. search rules) in
    rw c.deref.ensures.value at point

pub returns-then-next-eq0 : goal.returns-then-next-eq0
returns-then-next-eq0 c =
    let xs = c.self.inside.steps.items in
    let Point : ℕ → Type 0 = λ k. IsPlace xs c.args.c k in
    let point = subst Point c.if-next-eq0.true (next (goal.at.returns-then-next-eq0 c).After-partition_point-next) in
    rw (← c.self.view_is) (sym (number-first 0 xs c.args.c point))

pub returns : goal.returns
returns c =
    let xs = c.self.inside.steps.items in
    let k = c.partition_point-next.result - 1 in
    let Point : ℕ → Type 0 = λ k. IsPlace xs c.args.c k in
    let same : c.partition_point-next.result ≡ suc k = omega arith in
    let point = subst Point same (next (goal.at.returns c).After-partition_point-next) in
    let within : k < length xs = omega (arith, c.partition_point-next.ensures.bound, ap length c.deref.ensures.value) in
    rw (← c.self.view_is)
    (ap (λ (s : Step). s.number) c.index.ensures ∙ sym (number-point 0 xs c.args.c k c.index.result.now within point))
