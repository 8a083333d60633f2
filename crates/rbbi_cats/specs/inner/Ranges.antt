-- The ranges of categories.
use Rattle.std.specs.Prelude.{◌≡◌, ℕ, ◌<◌, ◌≤◌, List, length, slice_index}
use Rattle.std.specs.List.{AllByRecursion}
use Rattle.rbbi_model.specs.Tables.{CategoryRange, category_of}
use Rattle.rbbi_model.specs.ValidTables.{StartsAtZero, AreApart, IsWithin}
use Rattle.rbbi_classes.specs.Steps.{number_at}
use Rattle.rbbi_classes.specs.declared.steps.Step.{Step}

-- the category of each code point is that of its class
pub record AreRangesOf (steps : List Step) (categories : List ℕ) (ranges : List CategoryRange) : Type 0 where
  pub category : (c : ℕ) → category_of ranges c ≡ slice_index categories (number_at steps c)
  pub some : 1 ≤ length ranges
  pub from_zero : StartsAtZero ranges
  pub apart : AreApart ranges
  pub within : (count : ℕ) → ((class : ℕ) → slice_index categories class < count) → AllByRecursion (IsWithin count) ranges
