-- Step functions: the order in which their values first come, and the partition by sets that they are.
use Rattle.std.specs.Prelude.{◌≡◌, ◌↔◌, ℕ, ◌+◌, ◌<◌, ◌≤◌, nat_le, List, [], ◌∷◌, length, slice_index_or, if◌then◌else◌}
use Rattle.std.specs.List.{Contains}
use Rattle.rbbi_model.specs.Ranges.{Range, Has}
use Rattle.rbbi_classes.specs.declared.steps.Step.{Step}
use Rattle.rbbi_classes.specs.Steps.{number_at}

-- each value that comes for the first time is the least one that hasn't come; those less than `next` have
abbrev pub HasRestrictedGrowthFrom : ℕ → List Step → Type 0
HasRestrictedGrowthFrom next [] = Unit {0}
HasRestrictedGrowthFrom next (step ∷ steps) = (step.number ≤ next) × HasRestrictedGrowthFrom (if nat_le next step.number then step.number + 1 else next) steps

-- values first come in their order, 0 before the first step (restricted growth)
abbrev pub HasRestrictedGrowth : List Step → Type 0
HasRestrictedGrowth steps = HasRestrictedGrowthFrom 1 steps

-- the step function refines the partition by these sets: where it has one value, code points are in the same sets
abbrev pub Separate : List Step → List (List Range) → Type 0
Separate steps sets =
    (c d : ℕ) → c ≤ 0x10FFFF → d ≤ 0x10FFFF → number_at steps c ≡ number_at steps d → (set : List Range) → Contains sets set → Has set c → Has set d

-- the partition by these sets refines the step function: where code points are in the same sets, it has one value
abbrev pub DontSeparateMore : List Step → List (List Range) → Type 0
DontSeparateMore steps sets =
    (c d : ℕ) → c ≤ 0x10FFFF → d ≤ 0x10FFFF → ((set : List Range) → Contains sets set → Has set c ↔ Has set d) → number_at steps c ≡ number_at steps d

-- there is a step with this number, and it begins at the code point
abbrev pub IsStepAt : List Step → ℕ → ℕ → Type 0
IsStepAt steps k start = (k < length steps) × ((d : Step) → (slice_index_or steps k d).start ≡ start)
