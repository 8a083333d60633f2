-- Step functions from code points to numbers.
use Rattle.std.specs.Prelude.{ℕ, ◌+◌, ◌≤◌, nat_le, List, [], ◌∷◌, if◌then◌else◌}
use Rattle.rbbi_classes.specs.declared.steps.Step.{Step}

-- the value at a code point: that of the last step up to it, and `before` where there is none
abbrev pub number_from : ℕ → List Step → ℕ → ℕ
number_from before [] c = before
number_from before (step ∷ steps) c = if nat_le step.start c then number_from step.number steps c else before

-- the value of a step function, 0 before the first step
abbrev pub number_at : List Step → ℕ → ℕ
number_at steps c = number_from 0 steps c

-- the steps rise strictly, from `least` on, and each begins at a code point
abbrev pub AreStepsFrom : ℕ → List Step → Type 0
AreStepsFrom least [] = Unit {0}
AreStepsFrom least (step ∷ steps) = (least ≤ step.start) × (step.start ≤ 0x10FFFF) × AreStepsFrom (step.start + 1) steps

-- the steps rise strictly, and none begins at 0
abbrev pub AreSteps : List Step → Type 0
AreSteps steps = AreStepsFrom 1 steps
