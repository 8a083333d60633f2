-- The numbers that steps give, and steps that are added at the end.
use Rattle.std.proofs.Common.{◌≡◌, ℕ, ◌+◌, ◌<◌, ◌≤◌, zero, suc, List, [], ◌∷◌, ◌++◌, length, get_or, cond, leb, true, false, refl, ap, sym, ◌∙◌, inl}
use Rattle.std.proofs.Common.{inr, arith}
use Rattle.std.specs.List.Sorted.{IsNonDecreasingBy, IsPartitionPoint}
use Rattle.std.proofs.lemmas.Bool.{cases_lt, le-leb, lt-leb, leb-true, leb-false}
use Rattle.rbbi_classes.specs.Steps.{number_from, AreStepsFrom}
use Rattle.rbbi_classes.specs.declared.steps.Step.{Step}

-- from the first step on the number is that by the other steps
pub number-from : (before : ℕ) (step : Step) (steps : List Step) (c : ℕ) → step.start ≤ c →
    number_from before (step ∷ steps) c ≡ number_from step.number steps c
number-from before step steps c l = ap (λ b. cond b (number_from step.number steps c) before) (le-leb step.start c l)

-- before the first step the number is the one given
pub number-before : (before : ℕ) (step : Step) (steps : List Step) (c : ℕ) → c < step.start → number_from before (step ∷ steps) c ≡ before
number-before before step steps c l = ap (λ b. cond b (number_from step.number steps c) before) (lt-leb step.start c l)

-- the steps rise, and each begins before the bound
abbrev pub AreStepsTo : ℕ → List Step → ℕ → Type 0
AreStepsTo least [] bound = least ≤ bound
AreStepsTo least (step ∷ steps) bound = (least ≤ step.start) × (step.start ≤ 0x10FFFF) × AreStepsTo (step.start + 1) steps bound

-- a bound is the least one or past it
pub steps-bound : (least : ℕ) (steps : List Step) (bound : ℕ) → AreStepsTo least steps bound → least ≤ bound
steps-bound least [] bound h = h
steps-bound least (step ∷ steps) bound h = omega (arith, h.0, steps-bound (step.start + 1) steps bound h.2)

-- what is past the bound is a bound too
pub steps-weaker : (least : ℕ) (steps : List Step) (bound more : ℕ) → AreStepsTo least steps bound → bound ≤ more → AreStepsTo least steps more
steps-weaker least [] bound more h l = omega (arith, h)
steps-weaker least (step ∷ steps) bound more h l = (h.0, h.1, steps-weaker (step.start + 1) steps bound more h.2 l)

-- steps up to a bound have the form of steps
pub steps-form : (least : ℕ) (steps : List Step) (bound : ℕ) → AreStepsTo least steps bound → AreStepsFrom least steps
steps-form least [] bound h = tt
steps-form least (step ∷ steps) bound h = (h.0, h.1, steps-form (step.start + 1) steps bound h.2)

-- a step that begins at the bound or past it may follow
pub steps-push : (least : ℕ) (steps : List Step) (bound : ℕ) (step : Step) → AreStepsTo least steps bound → bound ≤ step.start → step.start ≤ 0x10FFFF →
    AreStepsTo least (steps ++ step ∷ []) (step.start + 1)
steps-push least [] bound step h l m = (omega (arith, h), m, omega arith)
steps-push least (first ∷ steps) bound step h l m = (h.0, h.1, steps-push (first.start + 1) steps bound step h.2 l m)

-- before a step that follows, the numbers stay
pub number-kept : (before least : ℕ) (steps : List Step) (bound : ℕ) (step : Step) (c : ℕ) → AreStepsTo least steps bound → bound ≤ step.start →
    c < step.start → number_from before (steps ++ step ∷ []) c ≡ number_from before steps c
number-kept before least [] bound step c h l m = number-before before step [] c m
number-kept before least (first ∷ steps) bound step c h l m =
    elim (cases_lt c first.start) [
      | inl early ↦ number-before before first (steps ++ step ∷ []) c early ∙ sym (number-before before first steps c early)
      | inr from ↦
          number-from before first (steps ++ step ∷ []) c from
          ∙ number-kept first.number (first.start + 1) steps bound step c h.2 l m
          ∙ sym (number-from before first steps c from)
    ]

-- from a step that follows on, its number is that of each code point
pub number-pushed : (before least : ℕ) (steps : List Step) (bound : ℕ) (step : Step) (c : ℕ) → AreStepsTo least steps bound → bound ≤ step.start →
    step.start ≤ c → number_from before (steps ++ step ∷ []) c ≡ step.number
number-pushed before least [] bound step c h l m = number-from before step [] c m
number-pushed before least (first ∷ steps) bound step c h l m =
    let up = steps-bound (first.start + 1) steps bound h.2 in
    number-from before first (steps ++ step ∷ []) c (omega arith) ∙ number-pushed first.number (first.start + 1) steps bound step c h.2 l m

-- the steps before a place begin up to a code point, and those from it on don't
abbrev pub IsPlace : List Step → ℕ → ℕ → Type 0
IsPlace steps c k = IsPartitionPoint (λ (s : Step). leb s.start c ≡ true) (λ (s : Step). leb s.start c ≡ false) steps k

-- where all steps begin later, the number is the one given
pub number-first : (before : ℕ) (steps : List Step) (c : ℕ) → IsPlace steps c 0 →
    number_from before steps c ≡ before
number-first before [] c point = refl
number-first before (step ∷ steps) c point = number-before before step steps c (leb-false step.start c (point.1 0 step (omega arith) (omega arith)))

-- behind a step, up to the next one, the number is that of the step
pub number-point : (before : ℕ) (steps : List Step) (c k : ℕ) (d : Step) → k < length steps →
    IsPlace steps c (suc k) →
    number_from before steps c ≡ (get_or steps k d).number
number-point before [] c k d l point = absurd (omega arith)
number-point before (step ∷ steps) c zero d l point =
    number-from before step steps c (leb-true step.start c (point.0 0 step (omega arith) (omega arith)))
    ∙ number-first step.number steps c (λ j e a b. absurd (omega arith), λ j e a b. point.1 (suc j) e (omega arith) (omega arith))
number-point before (step ∷ steps) c (suc k) d l point =
    number-from before step steps c (leb-true step.start c (point.0 0 step (omega arith) (omega arith)))
    ∙ number-point step.number steps c k d (omega arith)
    (λ j e a b. point.0 (suc j) e (omega arith) (omega arith), λ j e a b. point.1 (suc j) e (omega arith) (omega arith))

-- each step begins at the least one or past it
starts-least : (least : ℕ) (steps : List Step) → AreStepsFrom least steps → (k : ℕ) (d : Step) → k < length steps → least ≤ (get_or steps k d).start
starts-least least [] h k d l = absurd (omega arith)
starts-least least (step ∷ steps) h zero d l = h.0
starts-least least (step ∷ steps) h (suc k) d l = omega (arith, h.0, starts-least (step.start + 1) steps h.2 k d (omega arith))

-- the starts of steps rise
pub starts-sorted : (least : ℕ) (steps : List Step) → AreStepsFrom least steps → IsNonDecreasingBy (λ (s : Step). s.start) steps
starts-sorted least [] h i j d l m = absurd (omega arith)
starts-sorted least (step ∷ steps) h zero zero d l m = omega arith
starts-sorted least (step ∷ steps) h zero (suc j) d l m = omega (arith, starts-least (step.start + 1) steps h.2 j d (omega arith))
starts-sorted least (step ∷ steps) h (suc i) zero d l m = absurd (omega arith)
starts-sorted least (step ∷ steps) h (suc i) (suc j) d l m = starts-sorted (step.start + 1) steps h.2 i j d (omega arith) (omega arith)
