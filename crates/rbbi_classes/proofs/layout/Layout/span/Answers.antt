-- The classes that begin up to a code point are those up to its class.
use Rattle.std.proofs.Common.{◌≡◌, ◌≤◌, ◌↔◌, ℕ, leb, inl, inr, rules, arith}
use Rattle.std.proofs.lemmas.Bool.{cases_lt}
use Rattle.std.proofs.lemmas.List.Sorted.{IsPartitionPoint-from_clause, IsPartitionedBy-leb}
use Rattle.rbbi_classes.specs.Classes.{class_of, IsFirstOfClass}
use Rattle.rbbi_classes.proofs.ClassBounds.{bounds-sorted, class-from_point, class-monotone}
use Rattle.rbbi_classes.proofs.FirstCodePoints.{first-up_to}
use Rattle.rbbi_classes.proofs.layout.Layout.span.Goals as goal
use Rattle.rbbi_classes.proofs.layout.Layout.span.Goals.{After-partition_point-end}

-- the class of the last code point
last : (c : After-partition_point-end) → class_of c.args.self.now c.args.high ≡ c.partition_point-end.result
last c =
    let bounds = c.self.inside.bounds.items in
    let parted = IsPartitionedBy-leb (λ n. n) bounds c.args.high (bounds-sorted bounds c.self.invariant) in
    let point =
    IsPartitionPoint-from_clause (λ n. leb n c.args.high) c.deref.result.now _ c.partition_point-end.ensures.partitioned
    (rw c.deref.ensures.value parted) (λ a r q k. search rules) in
    rw (← c.self.view_is)
    (class-from_point bounds c.args.high _ (rw c.deref.ensures.value at c.partition_point-end.ensures.bound) (rw c.deref.ensures.value at point))

-- a class begins up to it where its number is up to that one
up_to : (c : After-partition_point-end) (code : ℕ) → IsFirstOfClass c.args.self.now code →
    (class_of c.args.self.now code ≤ class_of c.args.self.now c.args.high) ↔ (code ≤ c.args.high)
up_to c code = rw (← c.self.view_is) (first-up_to c.self.inside.bounds.items c.self.invariant c.args.high code)

pub returns-then-first-end-clause-classes : goal.returns-then-first-end-clause-classes
returns-then-first-end-clause-classes c = λ code first.
    let here = (goal.at.returns-then-first-end-clause-classes c).After-partition_point-end in
    let class = last here in
    let end = up_to here code first in
    let begun = c.classes_before-first.ensures code first in
    (λ both. (begun.0 both.0, end.0 (omega (arith, both.1, class))), λ both. (begun.1 both.0, omega (arith, end.1 both.1, class)))

pub returns-else-first-end-clause-none : goal.returns-else-first-end-clause-none
returns-else-first-end-clause-none c = λ none code first from.
    let class = last (goal.at.returns-else-first-end-clause-none c).After-partition_point-end in
    let begun = (c.classes_before-first.ensures code first).1 from in
    elim (cases_lt c.args.high code) [
      | inl past ↦ past
      | inr within ↦ absurd (omega (arith, class, begun, c.if-first-end.false, class-monotone c.args.self.now code c.args.high within))
    ]
