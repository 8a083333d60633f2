-- The verdict on a test.
use Rattle.std.specs.Prelude.{◌≡◌, ℕ, ◌-◌, ◌<◌, ◌≤◌, List, length, slice_index_or, false}
use Rattle.rbbi_model.specs.Boundaries.{Boundary}
use Rattle.rbbi_model.specs.Answers.{is_place_of}
use Rattle.rbbi_conform.specs.Tests.{Test}
use Rattle.rbbi_conform.specs.declared.verdict.Verdict.{Verdict}
use Rattle.rbbi_conform.specs.declared.verdict.Verdict.TheVariants.{Same, Differs}

-- the mark of the place tells whether it is one of the boundaries
abbrev pub Agrees : List Boundary → Test → ℕ → Type 0
Agrees boundaries test place = slice_index_or test.marks (place - 1) false ≡ is_place_of boundaries place

-- the place is the least past 0 whose mark differs from the boundaries
pub record IsFirstDifference (boundaries : List Boundary) (test : Test) (place : ℕ) : Type 0 where
  pub past_start : 1 ≤ place
  pub within : place ≤ length test.text
  pub differs : ¬ Agrees boundaries test place
  pub least : (i : ℕ) → 1 ≤ i → i < place → Agrees boundaries test i

-- the verdict by these boundaries
abbrev pub IsVerdict : List Boundary → Test → Verdict → Type 0
IsVerdict boundaries test Same = (i : ℕ) → 1 ≤ i → i ≤ length test.text → Agrees boundaries test i
IsVerdict boundaries test (Differs place) = IsFirstDifference boundaries test place
