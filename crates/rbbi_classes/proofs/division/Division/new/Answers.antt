-- A class has all or nothing of each set, since its first code point has its number.
use Rattle.std.proofs.Common.{◌≡◌, ◌≤◌, ◌∷◌, ℕ, List, length, sym, subst}
use Rattle.std.specs.List.{Contains}
use Rattle.rbbi_model.specs.Ranges.{Range}
use Rattle.rbbi_classes.specs.Steps.{number_at}
use Rattle.rbbi_classes.specs.Divisions.{IsRespected, IsDivision, first_of, stand_in}
use Rattle.rbbi_sets.specs.Partitions.{IsPartitionBy, surrogates}
use Rattle.rbbi_classes.specs.declared.steps.Step.{Step}
use Rattle.rbbi_classes.proofs.Dividing.{respects, divides, is_exact}
use Rattle.rbbi_classes.proofs.division.Division.new.Goals as goal
use Rattle.rbbi_classes.proofs.division.Division.new.Goals.{After-of_bounds}

-- each code point has a class
within : (c : After-of_bounds) → (code : ℕ) → number_at c.in_ok-steps.steps.items code ≤ length c.in_ok-bounds.bounds.items
within c =
    subst (λ (xs : List Step). (code : ℕ) → number_at xs code ≤ length c.in_ok-bounds.bounds.items) c.deref-2.ensures.value c.in_ok-bounds.ensures.within

-- the first code point of a class has its number
first : (c : After-of_bounds) → (k : ℕ) → k ≤ length c.in_ok-bounds.bounds.items →
    number_at c.in_ok-steps.steps.items (first_of c.in_ok-bounds.bounds.items k) ≡ k
first c =
    subst (λ (xs : List Step). (k : ℕ) → k ≤ length c.in_ok-bounds.bounds.items → number_at xs (first_of c.in_ok-bounds.bounds.items k) ≡ k)
    c.deref-2.ensures.value c.in_ok-bounds.ensures.first

-- code points of one class have one number by the steps of the sets
left : (c : After-of_bounds) → (n m : ℕ) → n ≤ 0x10FFFF → m ≤ 0x10FFFF → number_at c.in_ok-steps.steps.items n ≡ number_at c.in_ok-steps.steps.items m →
    number_at c.in_ok-own.own.items n ≡ number_at c.in_ok-own.own.items m
left c =
    subst (λ (xs : List Step). (n m : ℕ) → n ≤ 0x10FFFF → m ≤ 0x10FFFF → number_at c.in_ok-steps.steps.items n ≡ number_at c.in_ok-steps.steps.items m →
    number_at xs n ≡ number_at xs m)
    c.deref.ensures.value c.in_ok-steps.ensures.left

-- the classes are a division
form : (c : After-of_bounds) → IsDivision (record { bounds = c.of_bounds.result; steps = c.in_ok-steps.steps.items })
form c =
    subst (λ (bounds : List ℕ). IsDivision (record { bounds = bounds; steps = c.in_ok-steps.steps.items })) (sym c.of_bounds.ensures)
    (divides c.in_ok-own.own.items c.in_ok-steps.steps.items c.in_ok-bounds.bounds.items c.in_ok-bounds.ensures.form (within c) (first c) (left c)
    c.in_ok-steps.ensures.right c.in_ok-steps.ensures.form (rw (← c.deref-2.ensures.value) c.in_ok-bounds.ensures.least))

-- each of the sets has all of a class or nothing of it
respected : (c : After-of_bounds) → (set : List Range) → Contains c.args.sets.now set →
    IsRespected (record { bounds = c.of_bounds.result; steps = c.in_ok-steps.steps.items }) set
respected c set contains =
    subst (λ (bounds : List ℕ). IsRespected (record { bounds = bounds; steps = c.in_ok-steps.steps.items }) set) (sym c.of_bounds.ensures)
    (respects c.in_ok-own.own.items c.in_ok-steps.steps.items c.in_ok-bounds.bounds.items c.in_ok-bounds.ensures.form (within c) (first c) (left c)
    c.in_ok-steps.ensures.right c.args.sets.now c.in_ok-own.ensures.separate set contains)

pub invariant_of-result : goal.invariant_of-result
invariant_of-result c = form c

pub returns-clause-respected : goal.returns-clause-respected
returns-clause-respected c = respected (goal.at.returns-clause-respected c).After-of_bounds

pub returns-clause-form : goal.returns-clause-form
returns-clause-form c = form (goal.at.returns-clause-form c).After-of_bounds

-- and so are they by the sets and the surrogates
exact : (c : After-of_bounds) →
    IsPartitionBy (surrogates ∷ c.args.sets.now) (stand_in (record { bounds = c.of_bounds.result; steps = c.in_ok-steps.steps.items }))
exact c =
    subst (λ (bounds : List ℕ). IsPartitionBy (surrogates ∷ c.args.sets.now) (stand_in (record { bounds = bounds; steps = c.in_ok-steps.steps.items })))
    (sym c.of_bounds.ensures)
    (is_exact c.in_ok-own.own.items c.in_ok-steps.steps.items c.in_ok-bounds.bounds.items c.in_ok-bounds.ensures.form (within c) (first c) (left c)
    c.in_ok-steps.ensures.right c.args.sets.now c.in_ok-own.ensures.separate c.in_ok-own.ensures.joint
    (rw (← c.deref.ensures.value) c.in_ok-steps.ensures.joint)
    (rw (← c.deref-2.ensures.value) c.in_ok-bounds.ensures.least))

pub returns-clause-exact : goal.returns-clause-exact
returns-clause-exact c = exact (goal.at.returns-clause-exact c).After-of_bounds
