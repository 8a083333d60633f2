-- Categories of the classes of a division, by sets.
use Rattle.std.specs.Prelude.{◌≡◌, ◌≢◌, ℕ, ◌≤◌, ◌↔◌, List, length, slice_index, AllPairs}
use Rattle.std.specs.List.{AllByRecursion, Any}
use Rattle.rbbi_model.specs.Ranges.{Range, Has}
use Rattle.rbbi_sets.specs.Partitions.{AreTogether}
use Rattle.rbbi_classes.specs.Steps.{number_at}
use Rattle.rbbi_classes.specs.declared.steps.Step.{Step}

-- one of the sets holds the code point
abbrev pub IsHeld : List (List Range) → ℕ → Type 0
IsHeld sets c = Any (λ set. Has set c) sets

-- the category of the code point's class, by the steps at which the class changes
abbrev pub category_by : List Step → List ℕ → ℕ → ℕ
category_by steps categories c = slice_index categories (number_at steps c)

-- Code points have one category exactly where none of the sets distinguishes them, and one other than 0 exactly where some set holds them.
pub record AreCategories (steps : List Step) (sets : List (List Range)) (categories : List ℕ) : Type 0 where
  pub alike : (c d : ℕ) → c ≤ 0x10FFFF → d ≤ 0x10FFFF → (category_by steps categories c ≡ category_by steps categories d) ↔ AreTogether sets c d
  pub some : (c : ℕ) → c ≤ 0x10FFFF → (category_by steps categories c ≢ 0) ↔ IsHeld sets c

-- there are so many code points that sets hold, and sets distinguish each two of them
pub record HasTold (sets : List (List Range)) (count : ℕ) : Type 0 where
  pub codes : List ℕ
  pub many : length codes ≡ count
  pub each : AllByRecursion (λ c. (c ≤ 0x10FFFF) × IsHeld sets c) codes
  pub apart : AllPairs (λ c d. ¬ AreTogether sets c d) codes
