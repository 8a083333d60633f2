-- Partitions of the code points into classes that no given set splits.
use Rattle.std.specs.Prelude.{◌≡◌, ℕ, ◌≤◌, ◌↔◌, List, ◌∷◌, length, slice_index}
use Rattle.rbbi_model.specs.Words.{IsSurrogate}
use Rattle.rbbi_model.specs.Ranges.{Range, Has}
use Rattle.rbbi_classes.specs.Classes.{AreBounds, ClassBits, HasMember}
use Rattle.rbbi_classes.specs.Steps.{number_at, AreSteps}
use Rattle.rbbi_classes.specs.declared.steps.Step.{Step}

-- A partition: the least code point of each class but class 0, which has 0; and the step function from code points to the numbers of their classes.
pub record ClassDivision : Type 0 where
  pub bounds : List ℕ
  pub steps : List Step

-- the least code point of a class
abbrev pub first_of : List ℕ → ℕ → ℕ
first_of bounds k = slice_index (0 ∷ bounds) k

-- the representative of a code point's class: the least code point of the class
abbrev pub stand_in : ClassDivision → ℕ → ℕ
stand_in division c = first_of division.bounds (number_at division.steps c)

-- the set is a union of classes: it has a code point exactly where it has the representative
abbrev pub IsRespected : ClassDivision → List Range → Type 0
IsRespected division set = (c : ℕ) → c ≤ 0x10FFFF → Has set c ↔ Has set (stand_in division c)

-- The bounds and steps rise. Each code point has a class, and the first one of each class is its least. The set of surrogates is a union of
-- classes.
pub record IsDivision (division : ClassDivision) : Type 0 where
  pub bounds : AreBounds division.bounds
  pub steps : AreSteps division.steps
  pub within : (c : ℕ) → c ≤ 0x10FFFF → number_at division.steps c ≤ length division.bounds
  pub first : (k : ℕ) → k ≤ length division.bounds → number_at division.steps (first_of division.bounds k) ≡ k
  pub least : (c : ℕ) → c ≤ 0x10FFFF → stand_in division c ≤ c
  pub surrogates : (c : ℕ) → c ≤ 0x10FFFF → IsSurrogate c ↔ IsSurrogate (stand_in division c)

-- the code point is in one of the classes of the set
abbrev pub HasDivided : ClassDivision → ClassBits → ℕ → Type 0
HasDivided division set c = (c ≤ 0x10FFFF) × HasMember division.bounds set (stand_in division c)
